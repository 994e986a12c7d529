-- Pages at the front of a text: two rows of them are the same, or one goes on where the other
-- stops.
use Rattle.std.proofs.Common.{◌≡◌, ◌⊎◌, ℕ, ◌<◌, List, [], ◌∷◌, ◌++◌, length, refl, sym, ap, ◌∙◌, arith, append_assoc, inl, inr}
use Rattle.std.proofs.lemmas.List.{append-nil}
use Rattle.ee_text.specs.Line.{line_of}
use Rattle.ee_text.proofs.Public as feeds
use Rattle.ee_flash.specs.declared.word.Word.{Word}
use Rattle.ee_image.specs.Text.{page_text, page_lines, IsPage, ArePages}
use Rattle.ee_image.specs.Fault.{NoPage}
use Rattle.ee_image.proofs.Lines.{page_is_line, page_text_injective}

-- the second row goes on where the first stops
pub record GoesOn (words : ℕ) (pages others : List (List Word)) (rest : List ℕ) : Type 0 where
  pub longer : length pages < length others
  pub a_page : NoPage words rest → ⊥

pub record AreSame (pages others : List (List Word)) (wears counts : List ℕ) (rest more : List ℕ)
    : Type 0 where
  pub pages_are : pages ≡ others
  pub wears_are : wears ≡ counts
  pub rest_is : rest ≡ more

pub compare_fronts : (words : ℕ) (a b : List (List Word)) (u v x y : List ℕ) → ArePages words a u
    → ArePages words b v → page_lines a u ++ x ≡ page_lines b v ++ y
    → AreSame a b u v x y ⊎ (GoesOn words a b x ⊎ GoesOn words b a y)
compare_fronts words [] b (wear ∷ u) v x y p q e = absurd p
compare_fronts words (page ∷ a) b [] v x y p q e = absurd p
compare_fronts words [] [] [] (count ∷ v) x y p q e = absurd q
compare_fronts words [] [] [] [] x y p q e =
    inl record { pages_are = refl; wears_are = refl; rest_is = e }
compare_fronts words [] (other ∷ b) [] [] x y p q e = absurd q
compare_fronts words [] (other ∷ b) [] (count ∷ v) x y p q e =
    inr
    (inl record {
      longer = omega arith;
      a_page =
          λ none. none count other (page_lines b v ++ y) q.0
          (e ∙ append_assoc (line_of (page_text count other)) (page_lines b v) y);
    })
compare_fronts words (page ∷ a) [] (wear ∷ u) (count ∷ v) x y p q e = absurd q
compare_fronts words (page ∷ a) [] (wear ∷ u) [] x y p q e =
    inr
    (inr record {
      longer = omega arith;
      a_page =
          λ none. none wear page (page_lines a u ++ x) p.0
          (sym e ∙ append_assoc (line_of (page_text wear page)) (page_lines a u) x);
    })
compare_fronts words (page ∷ a) (other ∷ b) (wear ∷ u) [] x y p q e = absurd q
compare_fronts words (page ∷ a) (other ∷ b) (wear ∷ u) (count ∷ v) x y p q e =
    let lines : line_of (page_text wear page) ++ (page_lines a u ++ x)
    ≡ line_of (page_text count other) ++ (page_lines b v ++ y) =
    sym (append_assoc (line_of (page_text wear page)) (page_lines a u) x) ∙ e
    ∙ append_assoc (line_of (page_text count other)) (page_lines b v) y in
    let first =
    feeds.first_line (page_text wear page) (page_text count other) (page_lines a u ++ x)
    (page_lines b v ++ y) (page_is_line words wear page p.0)
    (page_is_line words count other q.0) lines in
    let same = page_text_injective words wear count page other p.0 q.0 first.0 in
    elim (compare_fronts words a b u v x y p.1 q.1 first.1) [
      | inl both ↦ inl record {
        pages_are = ap (λ z. z ∷ a) same.1 ∙ ap (λ l. other ∷ l) both.pages_are;
        wears_are = ap (λ z. z ∷ u) same.0 ∙ ap (λ l. count ∷ l) both.wears_are;
        rest_is = both.rest_is;
      }
      | inr (inl on) ↦ inr
          (inl record { longer = let h = on.longer in omega arith; a_page = on.a_page })
      | inr (inr on) ↦ inr
          (inr record { longer = let h = on.longer in omega arith; a_page = on.a_page })
    ]

-- one page more
pub page_lines-push : (words : ℕ) (pages : List (List Word)) (wears : List ℕ) (page : List Word)
    (wear : ℕ)
    → ArePages words pages wears
    → page_lines (pages ++ page ∷ []) (wears ++ wear ∷ [])
    ≡ page_lines pages wears ++ line_of (page_text wear page)
page_lines-push words [] [] page wear proper = append-nil (line_of (page_text wear page))
page_lines-push words [] (count ∷ wears) page wear proper = absurd proper
page_lines-push words (other ∷ pages) [] page wear proper = absurd proper
page_lines-push words (other ∷ pages) (count ∷ wears) page wear proper =
    ap (λ l. line_of (page_text count other) ++ l)
    (page_lines-push words pages wears page wear proper.1)
    ∙ sym
    (append_assoc (line_of (page_text count other)) (page_lines pages wears)
    (line_of (page_text wear page)))

pub ArePages-push : (words : ℕ) (pages : List (List Word)) (wears : List ℕ) (page : List Word)
    (wear : ℕ)
    → ArePages words pages wears → IsPage words wear page
    → ArePages words (pages ++ page ∷ []) (wears ++ wear ∷ [])
ArePages-push words [] [] page wear proper one = (one, tt)
ArePages-push words [] (count ∷ wears) page wear proper one = absurd proper
ArePages-push words (other ∷ pages) [] page wear proper one = absurd proper
ArePages-push words (other ∷ pages) (count ∷ wears) page wear proper one =
    (proper.0, ArePages-push words pages wears page wear proper.1 one)
