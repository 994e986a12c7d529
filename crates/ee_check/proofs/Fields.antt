-- What stands behind a name, and the field there.
use Rattle.std.proofs.Common.{◌≡◌, ◌≢◌, ℕ, ◌<◌, ◌^◌, ◌++◌, List, ◌∷◌, refl, sym, ◌∙◌, ap, subst, arith, inl, true, not, eqb, Option, Some, None, IfSome, IfNone, MatchOption, Bor, rules}
use Rattle.std.specs.Fmt.{decimal}
use Rattle.std.specs.Option.{option_eq, option_zip}
use Rattle.std.proofs.lemmas.Bool.{eq-eqb}
use mathlib.Core.Bool.{true≢false}
use Rattle.ee_text.specs.Field.{IsField}
use Rattle.ee_text.proofs.Public.{first_place, no_place, Lacks-decimal}

pub some_part : {X : Type 0} (r : Option X) (N : Type 0) (F : X → Type 0) → MatchOption r N F
    → IfSome r F
some_part r N F h1 = search rules

pub none_part : {X : Type 0} (r : Option X) (N : Type 0) (F : X → Type 0) → MatchOption r N F
    → IfNone r N
none_part r N F h1 = search rules

-- the field before the first space, where a number stands there
pub number_field : (text field : List ℕ) (tail : Option (Bor (List ℕ))) (n : ℕ) (rest : List ℕ)
    → IsField field → IfNone tail (text ≡ field) → IfSome tail (λ t. text ≡ field ++ 32 ∷ t.now)
    → n < 2 ^ 64 → text ≡ decimal n ++ 32 ∷ rest
    → (field ≡ decimal n) × MatchOption tail ⊥ (λ t. t.now ≡ rest)
number_field text field None n rest in_field last more fits e =
    absurd (no_place 32 field (decimal n) rest in_field (sym last ∙ e))
number_field text field (Some t) n rest in_field last more fits e =
    first_place 32 field (decimal n) t.now rest in_field
    (Lacks-decimal 32 n (inl (omega arith)) fits) (sym more ∙ e)

-- a number and what stands behind it
pub number_beside : (found : Option ℕ) (tail : Option (Bor (List ℕ))) (n : ℕ) (rest : List ℕ)
    → found ≡ Some n → MatchOption tail ⊥ (λ t. t.now ≡ rest)
    → MatchOption (option_zip found tail) ⊥ (λ parts. (parts.0 ≡ n) × (parts.1.now ≡ rest))
number_beside None tail n rest same behind = absurd (cc same)
number_beside (Some m) None n rest same behind = behind
number_beside (Some m) (Some t) n rest same behind = (cc same, behind)

-- what stands where nothing was read
pub none_beside : {X Y : Type 0} (found : Option X) (tail : Y) (N : Type 0) → (found ≡ None → N)
    → IfNone (option_zip found (Some tail)) N
none_beside None tail N none = none refl
none_beside (Some x) tail N none = tt

-- a count that was found to be another
pub other_count : (r : Option ℕ) (n : ℕ) → true ≡ not (option_eq eqb r (Some n)) → r ≢ Some n
other_count r n told e =
    let a : true ≡ not (option_eq eqb (Some n) (Some n)) =
    subst (λ o. true ≡ not (option_eq eqb o (Some n))) e told in
    absurd (true≢false (a ∙ ap not (eq-eqb n n refl)))
