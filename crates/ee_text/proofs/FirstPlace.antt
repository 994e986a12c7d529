-- A text cut at the first place of a byte.
use Rattle.std.proofs.Common.{◌≡◌, ℕ, zero, suc, ◌+◌, ◌-◌, ◌<◌, ◌++◌, List, [], ◌∷◌, length, get_or, take, drop, refl, sym, ◌∙◌, ap, subst, arith, add-one, drop-cons, length-drop, inl, inr, Some, None, false}
use Rattle.std.specs.Prelude.{position, ◌==◌}
use Rattle.std.specs.List.{position_or_len}
use Rattle.std.proofs.lemmas.List.{take_all, take-append-drop}
use Rattle.std.proofs.lemmas.List.Sums.{fails_before_first}
use Rattle.std.proofs.lemmas.List.Quantifiers.{position-Some}
use Rattle.std.proofs.lemmas.Bool.{cases_lt, lt-ltb, eqb-true}
use Rattle.ee_text.specs.Field.{Lacks}

-- a front lacks a byte that none of its places has
lacks_front : (c : ℕ) (xs : List ℕ) (n : ℕ) → ((k : ℕ) → k < n → (get_or xs k 0 == c) ≡ false)
    → Lacks c (take n xs)
lacks_front c xs zero none = refl
lacks_front c [] (suc n) none = refl
lacks_front c (x ∷ xs) (suc n) none =
    let first : (x == c) ≡ false = none 0 (omega arith) in
    rw first (lacks_front c xs n (λ k h. none (suc k) (omega arith)))

-- where the byte is at no place, the text lacks it
pub lacks : (c : ℕ) (xs : List ℕ) → position (λ b. b == c) xs ≡ None → Lacks c xs
lacks c xs e = elim (cases_lt (position_or_len (λ b. b == c) xs) (length xs)) [
  | inl some ↦ absurd (cc (rw (lt-ltb _ _ some) at e))
  | inr none ↦
      let front : Lacks c (take (length xs) xs) =
      lacks_front c xs (length xs)
      (λ k h. fails_before_first (λ b. b == c) xs k 0 (omega arith)) in
      subst (Lacks c) (take_all (length xs) xs (omega arith)) front
]

-- what stands before the first place of the byte lacks it
pub before_lacks : (c : ℕ) (xs : List ℕ) (i : ℕ) → position (λ b. b == c) xs ≡ Some i
    → Lacks c (take i xs)
before_lacks c xs i e = lacks_front c xs i (position-Some (λ b. b == c) xs i 0 e).2

-- a text is what stands before the first place of the byte, the byte, and what stands after it
pub parts : (c : ℕ) (xs : List ℕ) (i : ℕ) → position (λ b. b == c) xs ≡ Some i
    → xs ≡ take i xs ++ c ∷ take (length xs - (i + 1)) (drop (i + 1) xs)
parts c xs i e =
    let at = position-Some (λ b. b == c) xs i 0 e in
    let here : get_or xs i 0 ≡ c = eqb-true (get_or xs i 0) c at.1 in
    let after : take (length xs - (i + 1)) (drop (i + 1) xs) ≡ drop (i + 1) xs =
    take_all _ _ (omega (arith, length-drop (i + 1) xs)) in
    let rest : drop i xs ≡ c ∷ drop (i + 1) xs =
    rw add-one (drop-cons xs i 0 at.0 ∙ ap (λ b. b ∷ drop (suc i) xs) here) in
    rw after (sym (take-append-drop i xs) ∙ ap (λ l. take i xs ++ l) rest)
