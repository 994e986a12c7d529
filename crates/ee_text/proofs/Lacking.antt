-- Texts that lack a byte: what stands before its first place.
use Rattle.std.proofs.Common.{◌≡◌, ◌≢◌, ℕ, suc, zero, ◌<◌, ◌≤◌, ◌^◌, ◌++◌, ◌⊎◌, List, [], ◌∷◌, length, get_or, refl, arith, inl, inr}
use Rattle.std.specs.Fmt.{decimal}
use Rattle.std.specs.Str.Parse.{AllDigits}
use Rattle.std.proofs.lemmas.Bool.{ne_eqb}
use Rattle.std.proofs.lemmas.Bool.Decides.{eqb_tells}
use Rattle.std.proofs.lemmas.Fmt.{decimal_is_IsNumeral}
use Rattle.std.proofs.lemmas.Str.Parse.{IsDigitsTest, tells_digits}
use Rattle.ee_text.specs.Field.{Lacks}

-- the first byte is another, and the rest lacks it too
pub Lacks-parts : (c x : ℕ) (xs : List ℕ) → Lacks c (x ∷ xs) → (x ≢ c) × Lacks c xs
Lacks-parts c x xs lacks = elim (eqb_tells x c) [
  | inl same ↦ let e = rw same.0 at lacks in absurd (cc e)
  | inr other ↦ (other.1, rw other.0 at lacks)
]

-- a byte that a list lacks is at none of its places
pub lacks_at : (c : ℕ) (xs : List ℕ) (k : ℕ) → Lacks c xs → 0 ≢ c → get_or xs k 0 ≢ c
lacks_at c [] k lacks other = other
lacks_at c (x ∷ xs) zero lacks other = (Lacks-parts c x xs lacks).0
lacks_at c (x ∷ xs) (suc k) lacks other = lacks_at c xs k (Lacks-parts c x xs lacks).1 other

pub Lacks-cons : (c x : ℕ) (xs : List ℕ) → x ≢ c → Lacks c xs → Lacks c (x ∷ xs)
Lacks-cons c x xs other lacks = rw (ne_eqb x c other) lacks

pub Lacks-append : (c : ℕ) (xs ys : List ℕ) → Lacks c xs → Lacks c ys → Lacks c (xs ++ ys)
Lacks-append c [] ys first second = second
Lacks-append c (x ∷ xs) ys first second =
    let parts = Lacks-parts c x xs first in
    Lacks-cons c x (xs ++ ys) parts.0 (Lacks-append c xs ys parts.1 second)

-- what stands before the first place of a byte, and what stands after it, are determined
pub first_place : (c : ℕ) (a b x y : List ℕ) → Lacks c a → Lacks c b → a ++ c ∷ x ≡ b ++ c ∷ y
    → (a ≡ b) × (x ≡ y)
first_place c [] [] x y in_a in_b e = (refl, cc)
first_place c [] (d ∷ b) x y in_a in_b e = absurd ((Lacks-parts c d b in_b).0 (cc))
first_place c (d ∷ a) [] x y in_a in_b e = absurd ((Lacks-parts c d a in_a).0 (cc))
first_place c (d ∷ a) (f ∷ b) x y in_a in_b e =
    let rest = first_place c a b x y (Lacks-parts c d a in_a).1 (Lacks-parts c f b in_b).1 (cc) in
    let same = rest.0 in
    (cc, rest.1)

-- a front that lacks the byte ends before the byte's place
pub front_ends : (c : ℕ) (a b x y : List ℕ) → Lacks c a → a ++ x ≡ b ++ c ∷ y → length a ≤ length b
front_ends c [] b x y lacks e = omega arith
front_ends c (d ∷ a) [] x y lacks e = absurd ((Lacks-parts c d a lacks).0 (cc))
front_ends c (d ∷ a) (f ∷ b) x y lacks e =
    omega (arith, front_ends c a b x y (Lacks-parts c d a lacks).1 (cc))

-- a text that lacks the byte has no place of it
pub no_place : (c : ℕ) (a b y : List ℕ) → Lacks c a → a ≡ b ++ c ∷ y → ⊥
no_place c [] [] y lacks e = cc
no_place c [] (f ∷ b) y lacks e = cc
no_place c (d ∷ a) [] y lacks e = (Lacks-parts c d a lacks).0 (cc)
no_place c (d ∷ a) (f ∷ b) y lacks e = no_place c a b y (Lacks-parts c d a lacks).1 (cc)

lacks_in_digits : (c : ℕ) (digits : List ℕ) → (c < 48) ⊎ (57 < c) → AllDigits 10 digits
    → Lacks c digits
lacks_in_digits c [] none h = refl
lacks_in_digits c (d ∷ digits) none h =
    let parts = IsDigitsTest.parts tells_digits d digits h in
    let other : d ≢ c = λ e. elim none [ inl low ↦ omega arith | inr high ↦ omega arith ] in
    Lacks-cons c d digits other (lacks_in_digits c digits none parts.1)

-- a number is written in digits alone
pub Lacks-decimal : (c n : ℕ) → (c < 48) ⊎ (57 < c) → n < 2 ^ 64 → Lacks c (decimal n)
Lacks-decimal c n none fits = lacks_in_digits c (decimal n) none (decimal_is_IsNumeral n fits).0.1
