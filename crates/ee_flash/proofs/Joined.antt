-- Words cut into pages, and joined again.
use Rattle.std.proofs.Common.{◌≡◌, ℕ, zero, suc, ◌+◌, ◌*◌, ◌<◌, List, [], ◌∷◌, ◌++◌, length, take, drop, get_or, map, sym, ap, ◌∙◌, arith, rules}
use Rattle.std.specs.List.{All, flat_map, range_with_len}
use Rattle.std.proofs.Math.Nat.{suc-mul}
use Rattle.std.proofs.Math.Seq.{take-add}
use Rattle.std.proofs.lemmas.List.{drop-drop, drop_at, same_lists, take_all, take_at}
use Rattle.std.proofs.lemmas.List.Elements.{All-head, All-tail}
use Rattle.ee_flash.specs.Formed.{length-pages_of, page-pages_of}
use Rattle.ee_flash.specs.Pages.{page_words, pages_of}
use Rattle.ee_flash.specs.Size.{Size, page_count}
use Rattle.ee_flash.specs.declared.word.Word.{Word}

abbrev joined : List (List Word) → List Word
joined pages = flat_map (λ page. page) pages

joined_pages_from : (size : Size) (cells : List Word) (from count : ℕ)
    → joined (map (page_words size cells) (range_with_len from count))
    ≡ take (count * size.words) (drop (from * size.words) cells)
joined_pages_from size cells from zero =
    let none : 0 ≡ 0 * size.words =
    omega arith in ap (λ (n : ℕ). take n (drop (from * size.words) cells)) none
joined_pages_from size cells from (suc count) =
    let w = size.words in
    let rest = drop (from * w) cells in
    ap (λ (more : List Word). take w rest ++ more) (
    joined_pages_from size cells (from + 1) count
    ∙ ap (λ (n : ℕ). take (count * w) (drop n cells)) (omega arith)
    ∙ ap (take (count * w)) (sym (drop-drop w (from * w) cells)))
    ∙ sym (take-add w (count * w) rest)
    ∙ ap (λ (n : ℕ). take n rest) (omega (arith, suc-mul count w))

pub pages_join : (size : Size) (cells : List Word) → length cells ≡ page_count size * size.words
    → flat_map (λ page. page) (pages_of size cells) ≡ cells
unfolding pages_of
pages_join size cells filled = search (rules, arith, joined_pages_from, take_all)

page_of_joined : (size : Size) (pages : List (List Word)) (k : ℕ) (none : List Word)
    → All (λ page. length page ≡ size.words) pages → k < length pages
    → page_words size (joined pages) k ≡ get_or pages k none
page_of_joined size [] k none each h = absurd (omega arith)
page_of_joined size (page ∷ pages) zero none each h =
    let as_long = All-head (λ (page : List Word). length page ≡ size.words) page pages each in
    let start : 0 * size.words ≡ 0 = omega arith in
    ap (λ (n : ℕ). take size.words (drop n (page ++ joined pages))) start
    ∙ take_at page (joined pages) size.words as_long
page_of_joined size (page ∷ pages) (suc k) none each h =
    let as_long = All-head (λ (page : List Word). length page ≡ size.words) page pages each in
    let w = size.words in
    ap (λ (n : ℕ). take w (drop n (page ++ joined pages))) (omega (arith, suc-mul k w))
    ∙ ap (take w)
    (sym (drop-drop (k * w) w (page ++ joined pages))
    ∙ ap (drop (k * w)) (drop_at page (joined pages) w as_long))
    ∙ page_of_joined size pages k none
    (All-tail (λ (page : List Word). length page ≡ size.words) page pages each) (omega arith)

pub joined_pages : (size : Size) (pages : List (List Word)) → length pages ≡ page_count size
    → All (λ page. length page ≡ size.words) pages
    → pages_of size (flat_map (λ page. page) pages) ≡ pages
joined_pages size pages count each =
    same_lists _ _ (length-pages_of size (joined pages) ∙ sym count) (λ k none h.
    let below : k < length pages = omega (arith, length-pages_of size (joined pages)) in
    page-pages_of size (joined pages) k none (omega arith)
    ∙ page_of_joined size pages k none each below)
