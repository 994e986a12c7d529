-- Lines one after another, and that a text is of these lines and no others.
use Rattle.std.proofs.Common.{◌≡◌, ℕ, ◌++◌, List, [], ◌∷◌, refl, sym, ◌∙◌, append_assoc}
use Rattle.std.specs.List.{AllByRecursion}
use Rattle.ee_text.specs.Field.{Lacks}
use Rattle.ee_text.specs.Line.{IsLine, line_of, lines_of, line_feed}
use Rattle.ee_text.proofs.Lacking.{first_place, no_place}

-- the first line of a text and what follows it are determined
pub first_line : (a b x y : List ℕ) → IsLine a → IsLine b → line_of a ++ x ≡ line_of b ++ y
    → (a ≡ b) × (x ≡ y)
first_line a b x y in_a in_b e =
    first_place line_feed a b x y in_a in_b
    (sym (append_assoc a (line_feed ∷ []) x) ∙ e ∙ append_assoc b (line_feed ∷ []) y)

-- a text with no line feed has no line
pub no_line : (text a x : List ℕ) → Lacks line_feed text → text ≡ line_of a ++ x → ⊥
no_line text a x none e = no_place line_feed text a x none (e ∙ append_assoc a (line_feed ∷ []) x)

-- a text is of these lines and no others
pub lines_of_injective : (xs ys : List (List ℕ)) → AllByRecursion IsLine xs
    → AllByRecursion IsLine ys → lines_of xs ≡ lines_of ys → xs ≡ ys
lines_of_injective [] [] in_x in_y e = refl
lines_of_injective [] (y ∷ ys) in_x in_y e = absurd (no_line [] y (lines_of ys) refl e)
lines_of_injective (x ∷ xs) [] in_x in_y e = absurd (no_line [] x (lines_of xs) refl (sym e))
lines_of_injective (x ∷ xs) (y ∷ ys) in_x in_y e =
    let same = first_line x y (lines_of xs) (lines_of ys) in_x.0 in_y.0 e in
    let first = same.0 in
    let others = lines_of_injective xs ys in_x.1 in_y.1 same.1 in
    cc
