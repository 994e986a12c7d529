-- What a pass over a live set finds out, page by page: how far its slots are used, and which word
-- may not stand there.
use Rattle.std.proofs.Common.{◌≡◌, inl, inr, ℕ, ◌+◌, ◌-◌, ◌*◌, ◌<◌, ◌≤◌, Bool, true, false, not, ◌&&◌, ◌||◌, nat_le, nat_eq, min, List, length, get_or, refl, sym, subst, ap, ◌∙◌, arith}
use Rattle.std.proofs.lemmas.Bool.{cases_lt, eq-eqb, eqb-true, lt-ltb, ne_eqb, true≢false}
use Rattle.std.proofs.lemmas.Grind.{common_steps}
use Rattle.std.proofs.lemmas.List.Folds.{list_any_at}
use Rattle.std.proofs.lemmas.List.Sums.{prefix_len_passes, prefix_len_stops}
use Rattle.std.proofs.lemmas.Nat.{div-mul-add}
use Rattle.std.proofs.Math.Nat.{min-eq_left, min-le_left, min-le_right, min-eq_right}
use Rattle.ee_flash.specs.Device.{Device, IsFormed, word_at}
use Rattle.ee_flash.specs.Size.{Size}
use Rattle.ee_flash.specs.declared.word.Word.{Word}
use Rattle.ee_flash.specs.declared.word.Word.TheVariants.{Erased, Held, Torn}
use Rattle.ee_pages.specs.Layout.{IsUsedTo, front_to}
use Rattle.ee_pages.specs.Legal.{fits, holds_slot, is_allowed, is_allowed_at, place_of, slots_before}
use Rattle.ee_pages.specs.Page.{is_blank, is_written, word_in}
use Rattle.ee_pages.specs.Sets.{first_page, front, page_of_slot, set_of, slots_of, word_of}
use Rattle.ee_pages.specs.declared.side.Side.{Side}
use Rattle.ee_pages.specs.declared.table.Place.{Place}
use Rattle.ee_pages.specs.declared.table.Place.TheVariants.{Committing, Receiving, Marking, Erasing, InSlot}
use Rattle.ee_pages.proofs.BlankWords.{erased_word}
use Rattle.ee_pages.proofs.Front.{passes_on}
use Rattle.ee_pages.proofs.InTheSet.{behind_written}
use Rattle.ee_pages.proofs.SetPrograms.{word-in_set}
use Rattle.ee_pages.proofs.Slots.{blank_page, get_or-slots_of, length-set_of, pages-set_of, row_within}

-- ---- words

-- a page is blank if and only if its first written word stands behind its end
pub blank_by : (words : List Word) (n end : ℕ) → length words ≡ n → end ≤ n
    → ((j : ℕ) → j < end → is_written (word_in words j) ≡ false)
    → (end < n → is_written (word_in words end) ≡ true) → nat_eq end n ≡ is_blank words
blank_by words n end long within blank written = elim (cases_lt end n) [
  | inl less ↦ ne_eqb end n (λ same. omega (arith, less, same))
      ∙ sym
      (ap not
      (list_any_at is_written words end Erased (omega (arith, long, less)) (written less)))
  | inr past ↦
      let same : end ≡ n = omega (arith, past, within) in
      eq-eqb end n same ∙ sym (blank_page words n long (λ k h. blank k (omega (arith, h, same))))
]

erased_fits : (generation : ℕ) (place : Place) → fits generation place Erased ≡ true
erased_fits generation Committing = refl
erased_fits generation Receiving = refl
erased_fits generation Marking = refl
erased_fits generation Erasing = refl
erased_fits generation InSlot = refl

holds_written : (word : Word) → holds_slot word ≡ true → is_written word ≡ true
holds_written Erased h = absurd (true≢false (sym h))
holds_written Torn h = refl
holds_written (Held number) h = refl

holds_fits : (generation : ℕ) (word : Word) → holds_slot word ≡ true
    → fits generation InSlot word ≡ true
holds_fits generation Erased h = refl
holds_fits generation Torn h = refl
holds_fits generation (Held number) h = h

misfit : (generation : ℕ) (word : Word) → holds_slot word ≡ false → is_written word ≡ true
    → fits generation InSlot word ≡ false
misfit generation Erased h written = absurd (true≢false (sym written))
misfit generation Torn h written = absurd (true≢false h)
misfit generation (Held number) h written = h

in_slot : (page at : ℕ) → 4 ≤ at → place_of page at ≡ InSlot
in_slot page at h = rw (lt-ltb 3 at (omega (arith, h))) refl

foreign : (fit written : Bool) (before front : ℕ) → fit ≡ false
    → (fit && (not written || nat_le before front)) ≡ false
foreign fit written before front isnt = rw isnt refl

behind : (fit written : Bool) (before front : ℕ) → written ≡ true → front < before
    → (fit && (not written || nat_le before front)) ≡ false
behind fit written before front is h = grind (arith, common_steps)

-- an erased word may stand anywhere
pub allowed_erased : (size : Size) (generation front page at : ℕ) (word : Word)
    → is_written word ≡ false → is_allowed size generation front page at word ≡ true
allowed_erased size generation front page at word h =
    let erased = erased_word word h in
    subst (λ (it : Word). is_allowed size generation front page at it ≡ true) (sym erased)
    (rw (erased_fits generation (place_of page at)) refl)

-- no word that is written may stand behind the first slot that isn't
pub foreign_behind : (size : Size) (generation front page at : ℕ) (word : Word)
    → is_written word ≡ true → front < slots_before size page at
    → is_allowed size generation front page at word ≡ false
foreign_behind size generation front page at word written h =
    behind (fits generation (place_of page at) word) (is_written word) (slots_before size page at)
    front written h

-- ---- the slots

-- as many stand before the first erased one as are known to be written
pub at_least : (slots : List Word) (n : ℕ) → n ≤ length slots
    → ((k : ℕ) → k < n → is_written (get_or slots k Erased) ≡ true) → n ≤ front slots
at_least slots n few each = elim (cases_lt (front slots) n) [
  | inr most ↦ most
  | inl less ↦
      let stops = prefix_len_stops is_written slots Erased (omega (arith, less, few)) in
      absurd (true≢false (sym (each (front slots) less) ∙ stops))
]

-- ---- a page before which all slots are written

-- in the device it is the page `here`
module _ (device : Device) (side : Side) (page here : ℕ) (formed : IsFormed device)
    (inside : page < device.size.pages) (here_is : here ≡ first_page device.size side + page) where
  pub word_here : (j : ℕ) → word_of (set_of side device) page j ≡ word_at device here j
  word_here j = word-in_set side device page j inside ∙ ap (λ n. word_at device n j) (sym here_is)

  -- its slots are those of the set from there on
  pub slot_here : (k : ℕ) → k < device.size.words - 4
      → get_or (slots_of (set_of side device)) (page * (device.size.words - 4) + k) Erased
      ≡ word_at device here (4 + k)
  slot_here k h =
      get_or-slots_of device.size.words (set_of side device) page k
      (pages-set_of side device formed) (omega (arith, inside, length-set_of side device formed)) h
      ∙ word_here (4 + k)

  -- its slots are used up to one place, and from there on none is written up to another
  module _ (before : page * (device.size.words - 4) ≤ front (slots_of (set_of side device)))
      (end written : ℕ) (from : 4 ≤ end) (within : end ≤ device.size.words)
      (used : (j : ℕ) → 4 ≤ j → j < end → holds_slot (word_at device here j) ≡ true)
      (unused : end < device.size.words → holds_slot (word_at device here end) ≡ false)
      (behind_it : end ≤ written)
      (blank : (j : ℕ) → end ≤ j → j < written
      → is_written (word_at device here j) ≡ false) where
    pub reaches : page * (device.size.words - 4) + (end - 4) ≤ front (slots_of (set_of side device))
    reaches =
        let slots = slots_of (set_of side device) in
        let row = row_within side device page (end - 4) formed inside (omega (arith, within)) in
        at_least slots (page * (device.size.words - 4) + (end - 4)) row
        (passes_on is_written Erased slots (page * (device.size.words - 4)) (end - 4)
        (λ k h. prefix_len_passes is_written slots k Erased (omega (arith, h, before)))
        (λ k h. ap is_written (slot_here k (omega (arith, h, within)))
        ∙ holds_written (word_at device here (4 + k))
        (used (4 + k) (omega arith) (omega (arith, h)))))

    pub stops : end < device.size.words → is_written (word_at device here end) ≡ false
        → front (slots_of (set_of side device)) ≡ page * (device.size.words - 4) + (end - 4)
    stops h erased =
        let slots = slots_of (set_of side device) in
        elim (cases_lt (page * (device.size.words - 4) + (end - 4)) (front slots)) [
          | inr most ↦ omega (arith, most, reaches)
          | inl more ↦
              let at : 4 + (end - 4) ≡ end = omega (arith, from) in
              let passes =
              prefix_len_passes is_written slots (page * (device.size.words - 4) + (end - 4))
              Erased more in
              let isnt =
              ap is_written
              (slot_here (end - 4) (omega (arith, h, from)) ∙ ap (word_at device here) at)
              ∙ erased in
              absurd (true≢false (sym passes ∙ isnt))
        ]

    pub allowed_to : (generation : ℕ)
        → ((j : ℕ) → j < 4
        → fits generation (place_of page j) (word_of (set_of side device) page j) ≡ true)
        → (j : ℕ) → j < written
        → is_allowed_at device.size generation (set_of side device) page j ≡ true
    allowed_to generation header j h =
        let word = word_of (set_of side device) page j in
        let front_is = front (slots_of (set_of side device)) in
        elim (cases_lt j 4) [
          | inl low ↦ behind_written (fits generation (place_of page j) word) (is_written word)
              (slots_before device.size page j) front_is (header j low) (omega (arith, low, before))
          | inr high ↦ elim (cases_lt j end) [
            | inl less ↦
                let holds = ap holds_slot (word_here j) ∙ used j high less in
                behind_written (fits generation (place_of page j) word) (is_written word)
                (slots_before device.size page j) front_is
                (ap (λ place. fits generation place word) (in_slot page j high)
                ∙ holds_fits generation word holds) (omega (arith, high, less, reaches))
            | inr past ↦ allowed_erased device.size generation front_is page j word
                (ap is_written (word_here j) ∙ blank j past h)
          ]
        ]

    pub foreign_at : (generation : ℕ) → written < device.size.words
        → is_written (word_at device here written) ≡ true
        → is_allowed_at device.size generation (set_of side device) page written ≡ false
    foreign_at generation h is =
        let word = word_of (set_of side device) page written in
        let front_is = front (slots_of (set_of side device)) in
        let is_here = ap is_written (word_here written) ∙ is in
        elim (cases_lt end written) [
          | inl less ↦
              let front_at = stops (omega (arith, less, h)) (blank end (omega arith) less) in
              foreign_behind device.size generation front_is page written word is_here
              (omega (arith, front_at, less, from))
          | inr same ↦
              let e : written ≡ end = omega (arith, same, behind_it) in
              let isnt =
              ap holds_slot (word_here written) ∙ ap (λ n. holds_slot (word_at device here n)) e
              ∙ unused (omega (arith, e, h)) in
              foreign (fits generation (place_of page written) word) (is_written word)
              (slots_before device.size page written) front_is
              (ap (λ place. fits generation place word)
              (in_slot page written (omega (arith, e, from)))
              ∙ misfit generation word isnt is_here)
        ]

-- ---- a page of a live set, from a place of which on all has to be erased

next_row : (page row : ℕ) → (page + 1) * row ≡ page * row + row
next_row page row = omega arith

by_full : {P : Type 0} (full : Bool) → (full ≡ true → P) → (full ≡ false → P) → P
by_full true whole partly = whole refl
by_full false whole partly = partly refl

all_before : (rows front : ℕ) → nat_eq (min rows front) rows ≡ true → rows ≤ front
all_before rows front is = subst (λ n. n ≤ front) (eqb-true (min rows front) rows is) (min-le_right rows front)

some_before : (rows front : ℕ) → nat_eq (min rows front) rows ≡ false → front < rows
some_before rows front isnt = elim (cases_lt front rows) [
  | inl less ↦ less
  | inr all ↦
      absurd (true≢false (sym (eq-eqb (min rows front) rows (min-eq_left all)) ∙ isnt))
]

-- it is the place behind the used slots, where all slots before the page are used, and else
-- the page's first word
module _ (device : Device) (side : Side) (page here : ℕ) (formed : IsFormed device)
    (inside : page < device.size.pages) (here_is : here ≡ first_page device.size side + page)
    (full : Bool)
    (is_full : full ≡ nat_eq (front_to device side page) (page * (device.size.words - 4)))
    (generation end written : ℕ) (to : full ≡ true → IsUsedTo device generation side page end)
    (none : full ≡ false → end ≡ 0) (within : end ≤ device.size.words)
    (behind_it : end ≤ written)
    (blank : (j : ℕ) → end ≤ j → j < written → is_written (word_at device here j) ≡ false) where
  before : full ≡ true → page * (device.size.words - 4) ≤ front (slots_of (set_of side device))
  before is =
      all_before (page * (device.size.words - 4)) (front (slots_of (set_of side device)))
      (sym is_full ∙ is)

  past : full ≡ false → front (slots_of (set_of side device)) < page * (device.size.words - 4)
  past isnt =
      some_before (page * (device.size.words - 4)) (front (slots_of (set_of side device)))
      (sym is_full ∙ isnt)

  used_here : (is : full ≡ true) (j : ℕ) → 4 ≤ j → j < end
      → holds_slot (word_at device here j) ≡ true
  used_here is j from h =
      ap holds_slot (sym (word_here device side page here formed inside here_is j))
      ∙ (to is).before j from h

  unused_here : (is : full ≡ true) → end < device.size.words
      → holds_slot (word_at device here end) ≡ false
  unused_here is h =
      ap holds_slot (sym (word_here device side page here formed inside here_is end))
      ∙ (to is).unused h

  used_reach : full ≡ true
      → page * (device.size.words - 4) + (end - 4) ≤ front (slots_of (set_of side device))
  used_reach is =
      reaches device side page here formed inside here_is (before is) end written (to is).from
      within (used_here is) (unused_here is) behind_it blank

  used_stop : full ≡ true → end - 4 < device.size.words - 4 → device.size.words ≤ written
      → front (slots_of (set_of side device)) ≡ page * (device.size.words - 4) + (end - 4)
  used_stop is few all =
      let short : end < device.size.words = omega (arith, few, (to is).from) in
      stops device side page here formed inside here_is (before is) end written (to is).from within
      (used_here is) (unused_here is) behind_it blank short
      (blank end (omega arith) (omega (arith, short, all)))

  pub all_allowed : (j : ℕ) → j < written
      → is_allowed_at device.size generation (set_of side device) page j ≡ true
  all_allowed j h = by_full full
      (λ is. allowed_to device side page here formed inside here_is (before is) end written
      (to is).from within (used_here is) (unused_here is) behind_it blank generation
      (to is).header j h)
      (λ isnt. allowed_erased device.size generation (front (slots_of (set_of side device))) page j
      (word_of (set_of side device) page j)
      (ap is_written (word_here device side page here formed inside here_is j)
      ∙ blank j (omega (arith, none isnt)) h))

  pub none_allowed : written < device.size.words → is_written (word_at device here written) ≡ true
      → is_allowed_at device.size generation (set_of side device) page written ≡ false
  none_allowed h is_so = by_full full
      (λ is. foreign_at device side page here formed inside here_is (before is) end written
      (to is).from within (used_here is) (unused_here is) behind_it blank generation h is_so)
      (λ isnt. foreign_behind device.size generation (front (slots_of (set_of side device))) page
      written (word_of (set_of side device) page written)
      (ap is_written (word_here device side page here formed inside here_is written) ∙ is_so)
      (omega (arith, past isnt)))

  pub used_then : device.size.words ≤ written
      → front_to device side page + (end - 4) ≡ front_to device side (page + 1)
  used_then all =
      let rows = page * (device.size.words - 4) in
      let next = (page + 1) * (device.size.words - 4) in
      let stops_at = front (slots_of (set_of side device)) in
      let row = next_row page (device.size.words - 4) in
      by_full full
      (λ is. elim (cases_lt (end - 4) (device.size.words - 4)) [
        | inl few ↦
            let at = used_stop is few all in
            omega (
              arith,
              min-eq_left (before is),
              at,
              min-eq_right {n = stops_at} {m = next} (omega (arith, at, few, row)),
            )
        | inr most ↦
            let reach = used_reach is in
            omega (
              arith,
              min-eq_left (before is),
              most,
              within,
              row,
              min-eq_left {n = next} {m = stops_at} (omega (arith, reach, most, row)),
            )
      ])
      (λ isnt. omega (
        arith,
        none isnt,
        min-eq_right {n = stops_at} {m = rows} (omega (arith, past isnt)),
        min-eq_right {n = stops_at} {m = next} (omega (arith, past isnt, row)),
      ))

-- the last of the slots that a page adds is one of its own
pub last_then : (size : Size) (used here page front : ℕ)
    → used ≡ min (page * (size.words - 4)) front
    → used + here ≡ min ((page + 1) * (size.words - 4)) front
    → 0 < here → page ≡ page_of_slot size (used + here - 1)
last_then size used here page front at next some =
    let row = size.words - 4 in
    let all : page * row ≤ front = elim (cases_lt front (page * row)) [
      | inr most ↦ most
      | inl less ↦ absurd (omega (
        arith,
        some,
        at,
        next,
        min-eq_right {n = front} {m = page * row} (omega (arith, less)),
        min-le_right ((page + 1) * row) front,
      ))
    ] in
    let e : page * row + (here - 1) ≡ used + here - 1 =
    omega (arith, at, min-eq_left all, some) in
    let few : here - 1 < row =
    omega (arith, at, min-eq_left all, next, some, min-le_left ((page + 1) * row) front, next_row page row) in
    sym (ap (page_of_slot size) (sym e) ∙ div-mul-add page row (here - 1) few)
