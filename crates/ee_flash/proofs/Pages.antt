-- What a change of the list of words does to its pages.
use Rattle.std.proofs.Common.{◌≡◌, ◌≢◌, ◌⊎◌, inl, inr, ℕ, ◌+◌, ◌-◌, ◌*◌, ◌<◌, ◌≤◌, List, [], ◌++◌, length, map, take, drop, get_or, set, replicate, refl, sym, ap, ◌∙◌, arith, rules}
use borrow.Rule.Slice.PartMut.{put_mid}
use Rattle.std.specs.List.{All}
use Rattle.std.proofs.lemmas.Bool.{cases_eq, cases_order}
use Rattle.std.proofs.lemmas.List.{ext_get_or, get_or-drop, get_or-set_other, get_or-set_same, get_or-take, get_or-replicate, length-set, length-replicate, places, same_lists, take-take, take_at, drop-drop, drop-take}
use Rattle.std.proofs.lemmas.List.Elements.{All-append, All-drop, All-take}
use Rattle.ee_flash.specs.Device.{IsBelowAllOnes}
use Rattle.std.proofs.lemmas.Nat.{mul-add-lt, same_from_place, row_fits}
use Rattle.ee_flash.specs.Size.{Size, page_count}
use Rattle.ee_flash.specs.Pages.{page_words, pages_of}
use Rattle.ee_flash.specs.Fuse.{left_page}
use Rattle.ee_flash.proofs.Tears.{All-left_page, IsPartlyErased-left_page, left_page-done, length-left_page}
use Rattle.ee_flash.specs.Step.{IsPartlyErased}
use Rattle.ee_flash.specs.declared.fuse.Tear.TheVariants.{Done}
use Rattle.ee_flash.specs.declared.fuse.Tear.{Tear}
use Rattle.ee_flash.specs.Runs.{number_of}
use Rattle.ee_flash.specs.Formed.{length-page_words, length-pages_of, page-pages_of}
use Rattle.ee_flash.specs.declared.word.Word.{Word}
use Rattle.ee_flash.specs.declared.word.Word.TheVariants.{Erased}

get_or-page_words : (size : Size) (cells : List Word) (page at : ℕ) → at < size.words
    → get_or (page_words size cells page) at Erased ≡ get_or cells (page * size.words + at) Erased
get_or-page_words size cells page at h =
    get_or-take size.words (drop (page * size.words) cells) at Erased h
    ∙ get_or-drop (page * size.words) cells at Erased

-- the word at a place of a page
pub get_or-pages_of : (size : Size) (cells : List Word) (page at : ℕ) → page < page_count size
    → at < size.words
    → get_or (get_or (pages_of size cells) page []) at Erased
    ≡ get_or cells (page * size.words + at) Erased
get_or-pages_of size cells page at in_range within =
    rw (page-pages_of size cells page [] in_range) (get_or-page_words size cells page at within)

module _ (size : Size) (old new : List Word) (page : ℕ)
    (filled : length old ≡ page_count size * size.words) (as_long : length new ≡ length old)
    (in_range : page < page_count size)
    (others : (k at : ℕ) → k < page_count size → k ≢ page → at < size.words
    → get_or new (k * size.words + at) Erased ≡ get_or old (k * size.words + at) Erased) where
  same_page : (k : ℕ) → k < page_count size → k ≢ page
      → page_words size new k ≡ page_words size old k
  same_page k below other =
      let new_length = length-page_words size new k (as_long ∙ filled) below in
      let old_length = length-page_words size old k filled below in
      ext_get_or Erased _ _ (new_length ∙ sym old_length) (λ at h.
      let within : at < size.words = omega arith in
      get_or-page_words size new k at within ∙ others k at below other within
      ∙ sym (get_or-page_words size old k at within))

  -- where only the words of one page change, only that page does
  pub pages_of-changed : pages_of size new ≡ set (pages_of size old) page (page_words size new page)
  pages_of-changed =
      let pages = pages_of size old in
      let count = length-pages_of size old in
      same_lists _ _
      (length-pages_of size new
      ∙ sym (length-set pages page (page_words size new page) ∙ count)) (λ k none h.
      let below : k < page_count size = omega (arith, length-pages_of size new) in
      elim (cases_eq k page) [
        | inl same ↦ rw (
          same,
          page-pages_of size new page none in_range,
          get_or-set_same pages page (page_words size new page) none (omega arith),
        ) refl
        | inr other ↦ page-pages_of size new k none below ∙ same_page k below other
            ∙ sym
            (get_or-set_other pages page k (page_words size new page) none other
            ∙ page-pages_of size old k none below)
      ])

-- after a word was written
pub pages_of-set : (size : Size) (cells : List Word) (page at : ℕ) (word : Word)
    → length cells ≡ page_count size * size.words → page < page_count size → at < size.words
    → pages_of size (set cells (page * size.words + at) word)
    ≡ set (pages_of size cells) page (set (get_or (pages_of size cells) page []) at word)
pages_of-set size cells page at word filled in_range within =
    let place = page * size.words + at in
    let below : place < length cells =
    omega (arith, mul-add-lt page size.words at (page_count size) in_range within) in
    let as_long = length-set cells place word in
    let changed = pages_of-changed size cells (set cells place word) page filled as_long in_range
    (λ k j _ other inside. get_or-set_other cells place (k * size.words + j) word Erased
    (λ same. other (same_from_place k j page at size.words inside within same).0)) in
    let old_length = length-page_words size cells page filled in_range in
    let new_length =
    length-page_words size (set cells place word) page (as_long ∙ filled) in_range in
    let words : page_words size (set cells place word) page
    ≡ set (page_words size cells page) at word =
    ext_get_or Erased _ _
    (new_length ∙ sym (length-set (page_words size cells page) at word ∙ old_length)) (λ j h.
    let inside : j < size.words = omega arith in
    get_or-page_words size (set cells place word) page j inside ∙ elim (cases_eq j at) [
      | inl same ↦ rw (
        same,
        get_or-set_same cells place word Erased below,
        get_or-set_same (page_words size cells page) at word Erased (omega arith),
      ) refl
      | inr other ↦
          get_or-set_other cells place (page * size.words + j) word Erased
          (λ same. other (omega arith))
          ∙ sym
          (get_or-set_other (page_words size cells page) at j word Erased other
          ∙ get_or-page_words size cells page j inside)
    ]) in
    changed ∙ rw (page-pages_of size cells page [] in_range, words) refl

-- words that are all the same
pub pages_of-replicate : (size : Size) (word : Word)
    → pages_of size (replicate (page_count size * size.words) word)
    ≡ replicate (page_count size) (replicate size.words word)
pages_of-replicate size word =
    let cells = replicate (page_count size * size.words) word in
    let filled : length cells ≡ page_count size * size.words =
    length-replicate (page_count size * size.words) word in
    same_lists _ _
    (length-pages_of size cells
    ∙ sym (length-replicate (page_count size) (replicate size.words word))) (λ k none h.
    let below : k < page_count size = omega (arith, length-pages_of size cells) in
    page-pages_of size cells k none below
    ∙ ext_get_or Erased _ _
    (length-page_words size cells k filled below ∙ sym (length-replicate size.words word))
    (λ at g.
    let inside : at < size.words = omega (arith, length-page_words size cells k filled below) in
    get_or-page_words size cells k at inside
    ∙ get_or-replicate (page_count size * size.words) (k * size.words + at) word Erased
    (omega (arith, mul-add-lt k size.words at (page_count size) below inside))
    ∙ sym (get_or-replicate size.words at word Erased inside))
    ∙ sym (get_or-replicate (page_count size) k (replicate size.words word) none below))

module _ (size : Size) (cells : List Word) (page : ℕ) (words : List Word)
    (filled : length cells ≡ page_count size * size.words) (in_range : page < page_count size)
    (as_long : length words ≡ size.words) where
  fits : page * size.words + size.words ≤ length cells
  fits = omega (arith, row_fits page size.words (page_count size) size.words in_range (omega arith))

  abbrev rewritten : List Word
  rewritten = put_mid (page * size.words) size.words cells words

  length-rewritten : length rewritten ≡ length cells
  length-rewritten = let room = fits in search (rules, places)

  rewritten_inside : (at : ℕ) → at < size.words
      → get_or rewritten (page * size.words + at) Erased ≡ get_or words at Erased
  rewritten_inside at h = let room = fits in grind (arith, places)

  rewritten_outside : (i : ℕ) → (i < page * size.words) ⊎ (page * size.words + size.words ≤ i)
      → get_or rewritten i Erased ≡ get_or cells i Erased
  rewritten_outside i h = let room = fits in grind (arith, places)

  -- after the words of a page were written over
  pub pages_of-rewritten : pages_of size rewritten ≡ set (pages_of size cells) page words
  pages_of-rewritten =
      let changed = pages_of-changed size cells rewritten page filled length-rewritten in_range
      (λ k at below other inside. rewritten_outside (k * size.words + at) (elim (cases_order k page) [
        | inl same ↦ absurd (other same)
        | inr (inl before) ↦ inl
            (omega (arith, row_fits k size.words page size.words before (omega arith)))
        | inr (inr after) ↦ inr
            (omega (arith, row_fits page size.words k size.words after (omega arith)))
      ])) in
      let same : page_words size rewritten page ≡ words =
      ext_get_or Erased _ _
      (length-page_words size rewritten page (length-rewritten ∙ filled) in_range ∙ sym as_long)
      (λ at h.
      let inside : at < size.words =
      omega
      (arith, length-page_words size rewritten page (length-rewritten ∙ filled) in_range) in
      get_or-page_words size rewritten page at inside ∙ rewritten_inside at inside) in
      changed ∙ ap (set (pages_of size cells) page) same

  pub All-rewritten : All IsBelowAllOnes cells → All IsBelowAllOnes words
      → All IsBelowAllOnes rewritten
  All-rewritten old new =
      All-append IsBelowAllOnes _ _ (All-take IsBelowAllOnes (page * size.words) cells old)
      (All-append IsBelowAllOnes _ _ new
      (All-drop IsBelowAllOnes size.words _
      (All-drop IsBelowAllOnes (page * size.words) cells old)))

-- a `Vec` whose items were written over by as many
pub refilled : (cells new : List Word) (len : ℕ) → len ≡ length cells → length new ≡ length cells
    → take len (new ++ drop (length new) cells) ≡ new
refilled cells new len is as_long = take_at new (drop (length new) cells) len (omega arith)

-- what a tear of a page does to a list of words and its pages
pub record IsTornPage (size : Size) (old new : List Word) (page : ℕ) (tear : Tear) : Type 0 where
  pub as_many : length new ≡ length old
  pub left : pages_of size new
      ≡ set (pages_of size old) page (left_page tear (get_or (pages_of size old) page []))
  pub whole : tear ≡ Done
      → pages_of size new ≡ set (pages_of size old) page (replicate size.words Erased)
  pub partly : IsPartlyErased (get_or (pages_of size old) page [])
      (get_or (pages_of size new) page [])
  pub own_page : pages_of size new
      ≡ set (pages_of size old) page (get_or (pages_of size new) page [])
  pub below_all_ones : All IsBelowAllOnes old → All IsBelowAllOnes new

-- the words after those of a page were torn
module _ (size : Size) (cells : List Word) (page : ℕ) (tear : Tear)
    (filled : length cells ≡ page_count size * size.words) (in_range : page < page_count size)
    (start width : ℕ) (new : List Word) (is_start : start ≡ page * size.words)
    (is_width : width ≡ size.words)
    (is_new : new
    ≡ put_mid start (start + width - start) cells
    (left_page tear (take (start + width - start) (drop start cells)))) where
  abbrev left : List Word
  left = left_page tear (page_words size cells page)

  left_length : length left ≡ size.words
  left_length =
      length-left_page tear (page_words size cells page)
      ∙ length-page_words size cells page filled in_range

  torn_is : new ≡ put_mid (page * size.words) size.words cells left
  torn_is = let same : start + width - start ≡ size.words = omega arith in cc

  torn_left : pages_of size new
      ≡ set (pages_of size cells) page (left_page tear (get_or (pages_of size cells) page []))
  torn_left =
      ap (pages_of size) torn_is
      ∙ pages_of-rewritten size cells page left filled in_range left_length
      ∙ ap (λ words. set (pages_of size cells) page (left_page tear words))
      (sym (page-pages_of size cells page [] in_range))

  torn_page : get_or (pages_of size new) page []
      ≡ left_page tear (get_or (pages_of size cells) page [])
  torn_page =
      ap (λ (pages : List (List Word)). get_or pages page []) torn_left
      ∙ get_or-set_same (pages_of size cells) page _ [] (omega (arith, length-pages_of size cells))

  torn_whole : tear ≡ Done
      → pages_of size new ≡ set (pages_of size cells) page (replicate size.words Erased)
  torn_whole done =
      let words = get_or (pages_of size cells) page [] in
      let as_long : length words ≡ size.words =
      ap length (page-pages_of size cells page [] in_range)
      ∙ length-page_words size cells page filled in_range in
      torn_left
      ∙ ap (set (pages_of size cells) page)
      (ap (λ (t : Tear). left_page t words) done ∙ left_page-done words
      ∙ ap (λ (n : ℕ). replicate n Erased) as_long)

  torn_below : All IsBelowAllOnes cells → All IsBelowAllOnes new
  torn_below each =
      let page_each =
      All-take IsBelowAllOnes size.words _
      (All-drop IsBelowAllOnes (page * size.words) cells each) in
      rw torn_is
      (All-rewritten size cells page left filled in_range left_length each
      (All-left_page tear _ page_each))

  pub torn_page_of : IsTornPage size cells new page tear
  torn_page_of = record {
    as_many = ap length torn_is ∙ length-rewritten size cells page left filled in_range left_length;
    left = torn_left;
    whole = torn_whole;
    partly = rw torn_page (IsPartlyErased-left_page tear (get_or (pages_of size cells) page []));
    own_page = torn_left ∙ ap (set (pages_of size cells) page) (sym torn_page);
    below_all_ones = torn_below;
  }

-- the words of a page from a place on, as they stand among all
run-pages_of : (size : Size) (cells : List Word) (page at count : ℕ) → page < page_count size
    → at + count ≤ size.words
    → take count (drop (page * size.words + at) cells)
    ≡ take count (drop at (get_or (pages_of size cells) page []))
run-pages_of size cells page at count in_range within =
    let rest = drop (page * size.words) cells in
    let left = size.words - at in
    let ends : at + left ≡ size.words = omega arith in
    ap (take count) (sym (drop-drop at (page * size.words) cells))
    ∙ sym (take-take count left (drop at rest) (omega arith))
    ∙ ap (take count)
    (sym (drop-take at left rest) ∙ ap (λ (end : ℕ). drop at (take end rest)) ends)
    ∙ ap (λ words. take count (drop at words)) (sym (page-pages_of size cells page [] in_range))

-- numbers of words that stand among all are those of a run
pub same_run_of : (size : Size) (cells : List Word) (page at count place : ℕ) (numbers : List ℕ)
    → page < page_count size → at + count ≤ size.words → place ≡ page * size.words + at
    → numbers ≡ map number_of (take count (drop place cells))
    → numbers ≡ map number_of (take count (drop at (get_or (pages_of size cells) page [])))
same_run_of size cells page at count place numbers in_range within is_place are =
    are ∙ ap (λ (p : ℕ). map number_of (take count (drop p cells))) is_place
    ∙ ap (map number_of) (run-pages_of size cells page at count in_range within)
