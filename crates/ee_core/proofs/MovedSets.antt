-- The pictures of both sets from the first step of a transfer to the last.
use Rattle.ee_core.proofs.Words.{rules, ◌≡◌, ℕ, ◌+◌, ◌-◌, ◌*◌, ◌<◌, true, List, [], length, get_or, refl, sym, ap, ◌∙◌, arith, ◌==◌, ◌&&◌, if◌then◌else◌, All, zero-div, ext_get_or, get_or_past, All-drop, All-get_or, All-take, prefix_len_passes, row_fits}
use Rattle.ee_core.proofs.Sets.{Device, IsFormed, page_at, Size, slot_count, Word, Erased, length-page_at, IsPageOf, IsLive, is_blank, is_written, fill_of, first_page, front, page_of_slot, set_of, slots_of, Side, First, Second, Active, Receive, fill-front, get_or-slots_of, length-set_of, pages-set_of, blank_word}
use Rattle.ee_core.proofs.Calls.{Holds, IsCommittedWith, SetsMark, opened_set, last_used, IsDrawn, Picture, blank_picture, filled_set, is_used, mark_where, marked_to, picture_of, retired_pages}
use Rattle.std.proofs.lemmas.List.Folds.{list_any_at}
use Rattle.ee_core.proofs.Drawings.{drawn_as, drawn_both, mark_drawn, marked-written, put_apart, with_mark, with_word-elsewhere, with_word-there}
use Rattle.ee_core.proofs.SetPages.{page_in_device, page_of_set}

-- blank pages
pub blank_drawn : (side : Side) (device : Device) → IsFormed device
    → All (λ page. is_blank page ≡ true) (set_of side device) → IsDrawn side device blank_picture
blank_drawn _ device formed all page at h within =
    search (rules, length-set_of, page_of_set, blank_word, All-get_or)

pub first_opened : (size : Size) (generation page at : ℕ)
    → with_mark 0 (Receive generation) blank_picture page at
    ≡ opened_set size generation (page_of_slot size (0 - 1)) [] page at
first_opened size _ page at = search (rules, with_word-elsewhere, get_or_past, with_word-there)

pub opens_blank : (side : Side) (old new : Device) (generation : ℕ) → IsFormed old
    → new.size ≡ old.size → All (λ page. is_blank page ≡ true) (set_of side old)
    → SetsMark (first_page old.size side) (Receive generation) old new
    → Holds new side generation []
opens_blank _ _ _ _ formed sizes all sets =
    search (rules, drawn_as, with_mark, mark_drawn, blank_drawn, first_opened)

-- the mark that commits the set
pub commits : (side : Side) (old new : Device) (generation : ℕ) (words : List Word) → IsFormed old
    → new.size ≡ old.size → SetsMark (first_page old.size side) Active old new
    → Holds old side generation words → IsCommittedWith new side generation words
commits _ _ _ _ _ _ sizes sets holds = search (rules, mark_drawn, with_mark)

-- with the marks of a live set, it is the set that a transfer leaves
abbrev pub committed : Size → ℕ → List Word → Picture
committed size generation words page at =
    if (page == 0) && (at == 1) then mark_where true Active
    else opened_set size generation (page_of_slot size (length words - 1)) words page at

pub all_marked : (size : Size) (generation : ℕ) (words : List Word) (page at : ℕ)
    → marked_to (page_of_slot size (length words - 1)) (committed size generation words) page at
    ≡ filled_set size generation words page at
all_marked size _ words page at = search rules

pub filled_up : (side : Side) (mid new : Device) (generation : ℕ) (words : List Word)
    → new.size ≡ mid.size → IsCommittedWith mid side generation words
    → fill_of (slots_of (set_of side mid)) ≡ length words
    → IsDrawn side new (marked_to (last_used mid side) (picture_of side mid))
    → IsDrawn side new (filled_set mid.size generation words)
filled_up _ _ _ generation words sizes held fill drawn page at h within = search (rules, all_marked)

-- where every slot is written, the first of each page is
full_written : (side : Side) (device : Device) (generation page : ℕ) → IsLive device side generation
    → fill_of (slots_of (set_of side device)) ≡ slot_count device.size → page < device.size.pages
    → is_written (picture_of side device page 4) ≡ true
full_written side device _ page live full h =
    let pages = set_of side device in
    let words = device.size.words in
    let before = fill-front _ _ _ live.formed live.allowed in
    let written : front (slots_of pages) ≡ device.size.pages * (words - 4) = omega arith in
    let row = row_fits _ (words - 4) _ (words - 4) h (omega arith) in
    let first =
    prefix_len_passes is_written _ (page * (words - 4) + 0) Erased
    (omega (arith, written, row)) in
    let same =
    get_or-slots_of words pages page 0 (pages-set_of side device live.formed)
    (omega (arith, length-set_of side device live.formed)) (omega arith) in
    ap (λ (found : List Word). is_written (get_or found 4 Erased))
    (sym (page_of_set side device page h))
    ∙ sym (ap is_written same)
    ∙ first

-- so each page of such a set is used
pub used_where_full : (side : Side) (device : Device) (generation page : ℕ)
    → IsLive device side generation
    → fill_of (slots_of (set_of side device)) ≡ slot_count device.size → page < device.size.pages
    → is_used side device page ≡ true
used_where_full side device generation page live full h =
    let some : 4 < device.size.words = omega (arith, live.formed.within_limits.some_words) in
    let long =
    length-page_at device (first_page device.size side + page) live.formed
    (page_in_device device.size side page h) in
    let any =
    list_any_at is_written (page_at device (first_page device.size side + page)) 4 Erased
    (omega (arith, long)) (full_written side device generation page live full h) in
    rw any refl

-- ---- a set that is drawn as before

-- has the same pages
pub same_page_drawn : (side : Side) (old new : Device) (page : ℕ) → IsFormed old → IsFormed new
    → new.size ≡ old.size → IsDrawn side new (picture_of side old) → page < new.size.pages
    → page_at new (first_page new.size side + page) ≡ page_at old (first_page old.size side + page)
same_page_drawn side old new page old_formed formed sizes drawn h =
    let long = length-page_at _ _ formed (page_in_device new.size side _ h) in
    let long_before =
    length-page_at _ _ old_formed
    (page_in_device old.size side page
    (omega (arith, ap (λ (size : Size). size.pages) sizes))) in
    ext_get_or Erased (page_at new (first_page new.size side + page))
    (page_at old (first_page old.size side + page))
    (omega (arith, long, long_before, (ap (λ size. size.words) sizes))) (λ at within.
    drawn page at h (omega (arith, within, long)))

-- and so the same marks are set in it
pub same_retired : (side : Side) (old mid : Device) → IsFormed old → IsFormed mid
    → mid.size ≡ old.size → IsDrawn side mid (picture_of side old) → (page at : ℕ)
    → page < mid.size.pages → at < mid.size.words
    → retired_pages (is_used side mid) (picture_of side mid) page at
    ≡ retired_pages (is_used side old) (picture_of side old) page at
same_retired side old mid old_formed formed sizes same page at below inside =
    search (rules, same_page_drawn)

pub all_retired : (side : Side) (old mid new : Device) → IsFormed old → IsFormed mid
    → mid.size ≡ old.size → new.size ≡ mid.size → IsDrawn side mid (picture_of side old)
    → IsDrawn side new (retired_pages (is_used side mid) (picture_of side mid))
    → IsDrawn side new (retired_pages (is_used side old) (picture_of side old))
all_retired side old mid _ old_formed formed first_sizes second_sizes same drawn page at h within =
    search (rules, same_retired)

-- a set with no word needs no further mark
no_further : (picture : Picture) (page at : ℕ) → is_written (picture 0 1) ≡ true
    → marked_to 0 picture page at ≡ picture page at
no_further picture page at written = search (rules, marked-written)

pub empty_set : (device : Device) (side : Side) (generation : ℕ)
    → IsCommittedWith device side generation []
    → IsDrawn side device (filled_set device.size generation [])
empty_set _ _ _ held = search (rules, zero-div, drawn_as, no_further, all_marked)

pub first_page_of : (device : Device) → IsFormed device → IsPageOf device.size First 0
first_page_of _ formed = record { from = omega arith; below = omega arith }

-- a device that is blank, with the marks that format sets
module _ (old mid new : Device) (formed : IsFormed old) (mid_formed : IsFormed mid)
    (first_sizes : mid.size ≡ old.size) (second_sizes : new.size ≡ mid.size)
    (all : All (λ page. is_blank page ≡ true) old.image) (receives : SetsMark 0 (Receive 1) old mid)
    (active : SetsMark 0 Active mid new) where
  pub formats_first : IsDrawn First new (filled_set new.size 1 [])
  formats_first = search (empty_set, commits, opens_blank, All-take)

  pub formats_second : IsDrawn Second new blank_picture
  formats_second page at h within =
      drawn_both Second old mid new first_sizes second_sizes
      (put_apart Second _ _ 0 0 _ first_sizes (first_page_of old formed) receives)
      (put_apart Second _ _ 0 1 _ second_sizes (first_page_of mid mid_formed) active) page at h
      within
      ∙ blank_drawn Second old formed (All-drop (λ page. is_blank page ≡ true) _ _ all) page at
      (omega (arith, ap (λ size. size.pages) second_sizes, ap (λ size. size.pages) first_sizes))
      (omega (
        arith,
        ap (λ (size : Size). size.words) second_sizes,
        ap (λ (size : Size). size.words) first_sizes,
      ))
