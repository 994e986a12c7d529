-- What an erase leaves of a page, word by word.
use Rattle.std.proofs.Common.{◌≡◌, ◌⊎◌, inl, inr, ℕ, ◌+◌, ◌*◌, ◌<◌, ◌≤◌, List, [], ◌++◌, length, get_or, set, take, drop, Option, None, Bor, replicate, refl, sym, ap, ◌∙◌, arith, rules}
use borrow.Rule.Slice.PartMut.{put_mid}
use Rattle.std.specs.List.{All, enumerate_from}
use Rattle.std.proofs.lemmas.Bool.{cases_lt}
use Rattle.std.proofs.lemmas.List.{ext_get_or, get_or-map, get_or_past, get_or-replicate, get_or-set_same, length-map, length-replicate, places}
use Rattle.std.proofs.lemmas.Nat.{row_fits}
use Rattle.std.proofs.lemmas.List.Elements.{All-drop, All-from_get_or, All-get_or, All-take}
use Rattle.std.proofs.lemmas.List.FromFn.{get_or-enumerate_from, length-enumerate_from}
use Rattle.ee_flash.specs.Device.{Device, IsBelowAllOnes, IsOn, page_at}
use Rattle.ee_flash.specs.Formed.{length-page_words, page-pages_of}
use Rattle.ee_flash.specs.Fuse.{known_after}
use Rattle.ee_flash.specs.Pages.{page_words, pages_of}
use Rattle.ee_flash.specs.declared.fuse.Fuse.{Fuse}
use Rattle.ee_flash.specs.Size.{Size, page_count}
use Rattle.ee_flash.specs.Step.{Erase, Step, IsCutIn, IsPartlyErased, with_page_erased, with_page, with_page_worn}
use Rattle.ee_flash.proofs.Public.{All-rewritten, pages_of-rewritten, refilled}
use Rattle.ee_flash.specs.declared.word.Word.{Word}
use Rattle.ee_flash.specs.declared.word.Word.TheVariants.{Erased, Torn}
use Rattle.ee_fakes.specs.Listed.{Listed}
use Rattle.ee_fakes.specs.Fate.{page_of_fates, word_of_fate, device_after_fate}
use Rattle.ee_fakes.specs.declared.fate.Fate.TheVariants.{Cut}
use Rattle.ee_fakes.specs.declared.fate.Left.{Left}
use Rattle.ee_fakes.specs.declared.fate.Left.TheVariants.{Before, After, Torn as AllTorn}

pub length-left_page : (list : List Left) (rest : Left) (words : List Word)
    → length (page_of_fates list rest words) ≡ length words
unfolding page_of_fates
length-left_page list rest words =
    length-map (enumerate_from 0 words) _ ∙ length-enumerate_from 0 words

pub get_or-left_page : (list : List Left) (rest : Left) (words : List Word) (at : ℕ)
    → at < length words
    → get_or (page_of_fates list rest words) at Erased
    ≡ word_of_fate (get_or list at rest) (get_or words at Erased) Erased
unfolding page_of_fates
get_or-left_page list rest words at h =
    let none : ℕ × Word = (0, Erased) in
    let left : ℕ × Word → Word =
    λ placed. word_of_fate (get_or list placed.0 rest) placed.1 Erased in
    get_or-map left (enumerate_from 0 words) at none Erased
    (omega (arith, length-enumerate_from 0 words))
    ∙ ap left
    (get_or-enumerate_from 0 words at none h
    ∙ ap (λ (place : ℕ). (place, get_or words at Erased)) (omega arith))

-- words that are what the list says, place by place, are the page that it leaves
pub same_left_page : (list : List Left) (rest : Left) (old new : List Word)
    → length new ≡ length old
    → ((k : ℕ) → k < length old
    → get_or new k Erased ≡ word_of_fate (get_or list k rest) (get_or old k Erased) Erased)
    → new ≡ page_of_fates list rest old
same_left_page list rest old new as_long each =
    ext_get_or Erased _ _ (as_long ∙ sym (length-left_page list rest old)) (λ k h.
    let below : k < length old = omega arith in
    each k below ∙ sym (get_or-left_page list rest old k below))

left_word-cases : (left : Left) (word : Word)
    → (word_of_fate left word Erased ≡ word) ⊎ (word_of_fate left word Erased ≡ Erased)
    ⊎ (word_of_fate left word Erased ≡ Torn)
left_word-cases Before word = inl refl
left_word-cases After word = inr (inl refl)
left_word-cases AllTorn word = inr (inr refl)

-- each word of the page that is left is old, erased or torn
pub IsPartlyErased-left_page : (list : List Left) (rest : Left) (words : List Word)
    → IsPartlyErased words (page_of_fates list rest words)
IsPartlyErased-left_page list rest words = record {
  as_long = length-left_page list rest words;
  each = λ at. elim (cases_lt at (length words)) [
    | inl below ↦ rw (get_or-left_page list rest words at below)
        (left_word-cases (get_or list at rest) (get_or words at Erased))
    | inr past ↦ inl
        (get_or_past (page_of_fates list rest words) at Erased
        (omega (arith, length-left_page list rest words))
        ∙ sym (get_or_past words at Erased past))
  ];
}

-- where the list says nothing, the whole page is erased
pub left_page-done : (words : List Word)
    → page_of_fates [] After words ≡ replicate (length words) Erased
left_page-done words =
    ext_get_or Erased _ _
    (length-left_page [] After words ∙ sym (length-replicate (length words) Erased)) (λ at h.
    let below : at < length words = omega (arith, length-left_page [] After words) in
    get_or-left_page [] After words at below
    ∙ sym (get_or-replicate (length words) at Erased Erased below))

-- no erase makes a word of all ones
pub All-left_page : (list : List Left) (rest : Left) (words : List Word) → All IsBelowAllOnes words
    → All IsBelowAllOnes (page_of_fates list rest words)
All-left_page list rest words each =
    All-from_get_or IsBelowAllOnes _ Erased (λ at h.
    let below : at < length words = omega (arith, length-left_page list rest words) in
    rw (get_or-left_page list rest words at below) (λ value held.
    elim (left_word-cases (get_or list at rest) (get_or words at Erased)) [
      | inl old ↦ All-get_or IsBelowAllOnes words at Erased below each value (sym old ∙ held)
      | inr (inl erased) ↦ cc
      | inr (inr torn) ↦ cc
    ]))

-- after an erase of a page that lies in a `Vec`, as the code writes it
module _ (size : Size) (cells : List Word) (page : ℕ) (list : List Left) (rest : Left)
    (filled : length cells ≡ page_count size * size.words) (in_range : page < page_count size)
    (len start count : ℕ) (seen new : List Word) (is_len : len ≡ length cells)
    (is_start : start ≡ page * size.words) (is_count : count ≡ size.words) (is_seen : seen ≡ cells)
    (is_new : new ≡ page_of_fates list rest (take count (drop start seen))) where
  abbrev left_items : List Word
  left_items =
      take len (put_mid start count seen new ++ drop (length (put_mid start count seen new)) cells)

  new_is : new ≡ page_of_fates list rest (page_words size cells page)
  new_is = cc

  new_as_long : length new ≡ size.words
  new_as_long =
      ap length new_is ∙ length-left_page list rest (page_words size cells page)
      ∙ length-page_words size cells page filled in_range

  as_long : length (put_mid (page * size.words) size.words cells new) ≡ length cells
  as_long =
      let room : page * size.words + size.words ≤ length cells =
      omega (
        arith,
        row_fits page size.words (page_count size) size.words in_range (omega arith),
      ) in
      let long = new_as_long in
      search (rules, places)

  left_is : left_items ≡ put_mid (page * size.words) size.words cells new
  left_is =
      let written : put_mid start count seen new
      ≡ put_mid (page * size.words) size.words cells new =
      cc in
      rw written (refilled cells _ len is_len as_long)

  pub pages_of-left_items : pages_of size left_items
      ≡ set (pages_of size cells) page
      (page_of_fates list rest (get_or (pages_of size cells) page []))
  pages_of-left_items =
      ap (pages_of size) left_is
      ∙ pages_of-rewritten size cells page new filled in_range new_as_long
      ∙ ap (set (pages_of size cells) page)
      (new_is ∙ ap (page_of_fates list rest) (sym (page-pages_of size cells page [] in_range)))

  pub All-left_items : All IsBelowAllOnes cells → All IsBelowAllOnes left_items
  All-left_items each =
      let page_each =
      All-take IsBelowAllOnes size.words _
      (All-drop IsBelowAllOnes (page * size.words) cells each) in
      rw left_is
      (All-rewritten size cells page new filled in_range new_as_long each
      (rw new_is (All-left_page list rest _ page_each)))

-- where the list says nothing of a page of the device, all of it is erased
pub whole_page : (size : Size) (cells : List Word) (page : ℕ)
    → length cells ≡ page_count size * size.words → page < page_count size
    → page_of_fates [] After (get_or (pages_of size cells) page []) ≡ replicate size.words Erased
whole_page size cells page filled in_range =
    left_page-done _ ∙ ap (λ (count : ℕ). replicate count Erased)
    (ap length (page-pages_of size cells page [] in_range)
    ∙ length-page_words size cells page filled in_range)

-- an erase of a whole page, as two changes one after another, is the step
pub after_whole_erase : (page : ℕ) (old first new : Listed)
    → page_of_fates [] After (page_at old.device page) ≡ replicate old.device.size.words Erased
    → old.device.fuse ≡ None
    → first
    ≡ record old {
      device =
          with_page page (page_of_fates [] After (page_at old.device page)) old.device;
    }
    → new ≡ record first { device = with_page_worn page first.device }
    → new ≡ record old { device = with_page_erased page old.device }
after_whole_erase page old first new blank unknown is_begun is_new =
    let erased : List Word = replicate old.device.size.words Erased in
    rw is_new
    (rw is_begun
    (ap
    (λ (words : List Word). let now : Listed =
    record old { device = with_page_worn page (with_page page words old.device) } in
    now) blank
    ∙ ap
    (λ (known : Option (Option Fuse)). let now : Listed =
    record old {
      device =
          record (with_page_worn page (with_page page erased old.device)) { fuse = known };
    } in
    now) (unknown ∙ sym (ap known_after unknown))))

-- a step that is cut, once it has begun
pub after_cut : (step : Step) (list : Bor (List Left)) (old begun new : Listed)
    → begun ≡ record old { fates = drop 1 old.fates }
    → new ≡ record begun { device = device_after_fate step (Cut list) begun.device }
    → new.device ≡ device_after_fate step (Cut list) old.device
after_cut step list old begun new is_begun is_new = rw is_new (rw is_begun refl)

-- an erase that leaves what a list says is cut
pub IsCutIn-erase : (page : ℕ) (old new : Device) (list : Bor (List Left)) → IsOn old
    → page < length old.image → old.cuts_left ≡ None → old.fuse ≡ None
    → new ≡ device_after_fate (Erase page) (Cut list) old → IsCutIn (Erase page) old new
IsCutIn-erase page old new list on in_range any unknown is_new =
    let words = page_of_fates list.now Before (page_at old page) in
    let same : get_or (set old.image page words) page [] ≡ words =
    get_or-set_same old.image page words [] in_range in
    rw is_new (record {
      was_on = on;
      is_off = refl;
      same_size = refl;
      image = rw same (IsPartlyErased-left_page list.now Before (page_at old page), refl);
      wear = refl;
      cuts = refl;
      cuts_left = rw any refl;
      by_fuse = rw unknown tt;
    })
