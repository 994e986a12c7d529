-- Fields in a row, and that a row is of these fields and no others.
use Rattle.std.proofs.Common.{◌≡◌, ◌≢◌, ℕ, ◌++◌, List, [], ◌∷◌, refl, sym, ◌∙◌, ap, append_assoc}
use Rattle.std.specs.List.{AllByRecursion}
use Rattle.ee_text.specs.Field.{IsField, Lacks, joined_fields, space}
use Rattle.ee_text.proofs.Lacking.{Lacks-append, Lacks-cons, first_place, no_place}

-- a row of fields, and more fields after a space
pub joined-append : (x : List ℕ) (xs : List (List ℕ)) (y : List ℕ) (ys : List (List ℕ))
    → joined_fields ((x ∷ xs) ++ y ∷ ys) ≡ joined_fields (x ∷ xs) ++ space ∷ joined_fields (y ∷ ys)
joined-append x [] y ys = refl
joined-append x (z ∷ zs) y ys =
    ap (λ l. x ++ space ∷ l) (joined-append z zs y ys)
    ∙ sym (append_assoc x (space ∷ joined_fields (z ∷ zs)) (space ∷ joined_fields (y ∷ ys)))

-- a row lacks each byte that its fields lack, but the space
pub Lacks-joined : (byte : ℕ) → space ≢ byte → (fields : List (List ℕ))
    → AllByRecursion (Lacks byte) fields → Lacks byte (joined_fields fields)
Lacks-joined byte other [] all = refl
Lacks-joined byte other (x ∷ []) all = all.0
Lacks-joined byte other (x ∷ y ∷ ys) all =
    Lacks-append byte x (space ∷ joined_fields (y ∷ ys)) all.0
    (Lacks-cons byte space (joined_fields (y ∷ ys)) other
    (Lacks-joined byte other (y ∷ ys) all.1))

-- a row is of these fields and no others
pub joined_injective : (x y : List ℕ) (xs ys : List (List ℕ)) → AllByRecursion IsField (x ∷ xs)
    → AllByRecursion IsField (y ∷ ys) → joined_fields (x ∷ xs) ≡ joined_fields (y ∷ ys)
    → ◌≡◌ {A = List (List ℕ)} (x ∷ xs) (y ∷ ys)
joined_injective x y [] [] in_x in_y e = ap (λ l. l ∷ []) e
joined_injective x y [] (z ∷ zs) in_x in_y e =
    absurd (no_place space x y (joined_fields (z ∷ zs)) in_x.0 e)
joined_injective x y (w ∷ ws) [] in_x in_y e =
    absurd (no_place space y x (joined_fields (w ∷ ws)) in_y.0 (sym e))
joined_injective x y (w ∷ ws) (z ∷ zs) in_x in_y e =
    let same =
    first_place space x y (joined_fields (w ∷ ws)) (joined_fields (z ∷ zs)) in_x.0 in_y.0 e in
    let first = same.0 in
    let others = joined_injective w z ws zs in_x.1 in_y.1 same.1 in
    cc
