-- The first of a row of fields, and the fields behind it.
use Rattle.std.proofs.Common.{◌≡◌, ℕ, true, List, [], ◌∷◌, sym, ◌∙◌, Option, Some, None, is_some, MatchOption, Bor}
use Rattle.std.proofs.lemmas.Bool.{false≢true}

-- two ways to part one row
pub same_parts : (row others more : List (List ℕ)) (field other : List ℕ) → row ≡ field ∷ others
    → row ≡ other ∷ more → (field ≡ other) × (others ≡ more)
same_parts row others more field other e f =
    let both : ◌≡◌ {A = List (List ℕ)} (field ∷ others) (other ∷ more) = sym e ∙ f in
    (cc, cc)

-- an empty row gives no field
pub none_left : (row more : List (List ℕ)) (r : Option (Bor (List ℕ))) → row ≡ []
    → MatchOption r ((row ≡ []) × (more ≡ [])) (λ x. row ≡ x.now ∷ more) → is_some r ≡ true → ⊥
none_left row more None empty steps some = false≢true some
none_left row more (Some field) empty steps some = cc
