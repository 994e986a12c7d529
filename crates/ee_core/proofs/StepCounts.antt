-- How many words the lists program at the most, and how many pages they erase.
use Rattle.ee_core.proofs.Words.{zero-div, ◌≡◌, inl, inr, ℕ, ◌+◌, ◌-◌, ◌*◌, ◌<◌, ◌≤◌, Bool, true, false, cond, not, List, [], ◌∷◌, ◌++◌, length, refl, sym, subst, ap, ◌∙◌, arith, suc, zero, flat_map, eq-eqb, ne_eqb, ◌==◌}
use Rattle.ee_core.proofs.Sets.{Map, Device, IsFormed, Size, Erase, Program, Step, Word, IsLive, Change, is_blank, is_marked, marking, first_page, live_of, other, page_of_slot, set_of, slot_count, slots_of, fill_of, page_in_range, slot_below, Side, Mark, Active, Erasing, Receive, Valid, live_in, changed_by}
use Rattle.ee_core.proofs.Calls.{AreApart, last_used, map_in, moved_words, not_blank_in, not_blank_from, state_of, capacity}
use Rattle.std.specs.Prelude.{map, take}
use Rattle.std.specs.List.{range_with_len}
use Rattle.ee_flash.specs.Runs.{number_of}
use Rattle.ee_flash.specs.Size.{page_count}
use Rattle.ee_flash.specs.Taking.{pages_erased, words_programmed}
use Rattle.ee_pages.specs.Pushing.{slot_step}
use Rattle.ee_core.specs.Picture.{number_of_change}
use Rattle.ee_core.specs.StepLaws.{CallsAreShort, EachCallIsShort, FormatsAndRescuesAreShort, IsWithin}
use Rattle.ee_core.specs.StepLists.{slot_page, steps_in, steps_to_append, steps_to_clean, steps_to_clear, steps_to_close, steps_to_commit, steps_to_fill, steps_to_finish, steps_to_mark, steps_to_mark_live, steps_to_move, steps_to_receive, steps_to_retire, steps_to_turn}
use Rattle.ee_core.proofs.NotBlank.{length-not_blank}
use Rattle.ee_core.proofs.FilledSets.{near}
use Rattle.ee_core.proofs.Making.{filter_few, few_pending, few_within}
use Rattle.ee_core.proofs.States.{state_is}
use Rattle.ee_core.proofs.ShownStates.{moved_words_are_live_lem}

-- ---- lists, one behind the other

words-append : (steps more : List Step)
    → words_programmed (steps ++ more) ≡ words_programmed steps + words_programmed more
words-append [] _ = omega arith
words-append (Program _ _ _ ∷ steps) more = omega (arith, words-append steps more)
words-append (Erase _ ∷ steps) more = words-append steps more

pages-append : (steps more : List Step)
    → pages_erased (steps ++ more) ≡ pages_erased steps + pages_erased more
pages-append [] _ = omega arith
pages-append (Program _ _ _ ∷ steps) more = pages-append steps more
pages-append (Erase _ ∷ steps) more = omega (arith, pages-append steps more)

-- within bounds that are no smaller
within : {words pages : ℕ} (more_words more_pages : ℕ) {steps : List Step}
    → IsWithin words pages steps → words ≤ more_words → pages ≤ more_pages
    → IsWithin more_words more_pages steps
within _ _ is some others =
    record { words_are = omega (arith, is.words_are); pages_are = omega (arith, is.pages_are) }

both : {words pages more_words more_pages : ℕ} (steps more : List Step)
    → IsWithin words pages steps → IsWithin more_words more_pages more
    → IsWithin (words + more_words) (pages + more_pages) (steps ++ more)
both steps more first second = record {
  words_are = omega (arith, words-append steps more, first.words_are, second.words_are);
  pages_are = omega (arith, pages-append steps more, first.pages_are, second.pages_are);
}

none : IsWithin 0 0 []
none = record { words_are = omega arith; pages_are = omega arith }

one : (page : ℕ) (mark : Mark) → IsWithin 1 0 (marking page mark ∷ [])
one _ _ = record { words_are = omega arith; pages_are = omega arith }

unless : (there : Bool) (page : ℕ) (mark : Mark)
    → IsWithin 1 0 (cond there [] (marking page mark ∷ []))
unless true _ _ = within 1 0 none (omega arith) (omega arith)
unless false page mark = one page mark

-- a word or none for each
each : (steps : ℕ → List Step) → ((page : ℕ) → IsWithin 1 0 (steps page)) → (pages : List ℕ)
    → IsWithin (length pages) 0 (flat_map steps pages)
each _ _ [] = none
each steps few (page ∷ pages) =
    within (length (page ∷ pages)) 0
    (both (steps page) (flat_map steps pages) (few page) (each steps few pages))
    (omega arith) (omega arith)

length-range : (first count : ℕ) → length (range_with_len first count) ≡ count
length-range _ zero = refl
length-range first (suc count) = ap suc (length-range (first + 1) count)

range : (steps : ℕ → List Step) → ((page : ℕ) → IsWithin 1 0 (steps page)) → (first count : ℕ)
    → IsWithin count 0 (flat_map steps (range_with_len first count))
range steps few first count =
    within count 0 (each steps few (range_with_len first count))
    (omega (arith, length-range first count)) (omega arith)

erases : (pages : List ℕ) → IsWithin 0 (length pages) (map Erase pages)
erases [] = none
erases (page ∷ pages) =
    let rest = erases pages in
    record { words_are = rest.words_are; pages_are = omega (arith, rest.pages_are) }

-- ---- the parts

clears : (device : Device) (side : Side) → IsFormed device
    → IsWithin 0 device.size.pages (steps_to_clear device side)
clears device side formed =
    within 0 device.size.pages (erases (not_blank_in side device)) (omega arith)
    (omega (
      arith,
      length-not_blank (set_of side device) (first_page device.size side),
      few_pending device side formed,
    ))

retires : (device : Device) (side : Side) → IsFormed device
    → IsWithin device.size.pages 0 (steps_to_retire device side)
retires device side formed =
    within device.size.pages 0
    (each (steps_to_mark device Erasing)
    (λ page. unless (is_marked device page Erasing) page Erasing) (not_blank_in side device))
    (omega (
      arith,
      length-not_blank (set_of side device) (first_page device.size side),
      few_pending device side formed,
    ))
    (omega arith)

receives : (size : Size) (side : Side) (generation slot : ℕ) → 0 < size.words - 4
    → IsWithin (page_of_slot size slot - page_of_slot size (slot - 1)) 0
    (steps_to_receive size side generation slot)
receives size side generation slot some =
    let step = marking (slot_page size side slot) (Receive generation) in
    let bound = page_of_slot size slot - page_of_slot size (slot - 1) in
    elim (near size slot some) [
      | inl same ↦
          subst (λ (b : Bool). IsWithin bound 0 (cond (not b) (step ∷ []) []))
          (sym (eq-eqb (page_of_slot size slot) (page_of_slot size (slot - 1)) same))
          (within bound 0 none (omega arith) (omega arith))
      | inr further ↦
          subst (λ (b : Bool). IsWithin bound 0 (cond (not b) (step ∷ []) []))
          (sym
          (ne_eqb (page_of_slot size slot) (page_of_slot size (slot - 1))
          (λ same. omega (arith, same, further))))
          (within bound 0 (one (slot_page size side slot) (Receive generation))
          (omega (arith, further)) (omega arith))
    ]

not_before : (size : Size) (slot : ℕ) → 0 < size.words - 4
    → page_of_slot size (slot - 1) ≤ page_of_slot size slot
not_before size slot some = elim (near size slot some) [
  | inl same ↦ omega (arith, same)
  | inr further ↦ omega (arith, further)
]

-- a word for each, and a receive word for each further page
fills : (size : Size) (side : Side) (generation slot : ℕ) (words : List Word)
    → 0 < size.words - 4
    → (page_of_slot size (slot - 1) ≤ page_of_slot size (slot + length words - 1))
    × IsWithin
    (length words + (page_of_slot size (slot + length words - 1) - page_of_slot size (slot - 1))) 0
    (steps_to_fill size side generation slot words)
fills size side generation slot [] some =
    let same : page_of_slot size (slot + 0 - 1) ≡ page_of_slot size (slot - 1) =
    ap (page_of_slot size) (omega arith) in
    (omega (arith, same), within _ 0 none (omega arith) (omega arith))
fills size side generation slot (word ∷ words) some =
    let here : page_of_slot size (slot + 1 - 1) ≡ page_of_slot size slot =
    ap (page_of_slot size) (omega arith) in
    let end : page_of_slot size (slot + 1 + length words - 1)
    ≡ page_of_slot size (slot + length (word ∷ words) - 1) =
    ap (page_of_slot size) (omega arith) in
    let step = slot_step size side slot (number_of word) in
    let tail = steps_to_fill size side generation (slot + 1) words in
    let rest = fills size side generation (slot + 1) words some in
    let later = not_before size slot some in
    let first : IsWithin 1 0 (step ∷ []) =
    record { words_are = omega arith; pages_are = omega arith } in (
      omega (arith, here, end, later, rest.0),
      within _ 0
          (both (steps_to_receive size side generation slot) (step ∷ tail)
          (receives size side generation slot some) (both (step ∷ []) tail first rest.1))
          (omega (arith, here, end, later, rest.0)) (omega arith),
    )

closes : (size : Size) (side : Side) (last : ℕ)
    → IsWithin (last + 1) 0 (steps_to_close size side last)
closes size side last =
    both
    (flat_map (λ page. marking page Valid ∷ []) (range_with_len (first_page size side) last))
    (cond (last == 0) [] (marking (first_page size side + last) Active ∷ []))
    (range (λ page. marking page Valid ∷ []) (λ page. one page Valid) (first_page size side) last)
    (unless (last == 0) (first_page size side + last) Active)

-- ---- the calls

-- the two marks of the first page, a receive word for each further one, those that close the set,
-- and those of the set that is left
moves : (device : Device) (side : Side) (generation close : ℕ) (words : List Word)
    → IsFormed device
    → IsWithin close 0
    (steps_to_close device.size (other side) (page_of_slot device.size (length words - 1)))
    → IsWithin
    (length words + 2 + page_of_slot device.size (length words - 1) + close + device.size.pages)
    device.size.pages (steps_to_move device side generation words)
moves device side generation _ words formed closed =
    let size = device.size in
    let next = other side in
    let last = page_of_slot size (length words - 1) in
    let some : 0 < size.words - 4 = omega (arith, formed.within_limits.some_words) in
    let filled = fills size next (generation + 1) 0 words some in
    let opens = marking (first_page size next) (Receive (generation + 1)) ∷ [] in
    let fill = steps_to_fill size next (generation + 1) 0 words in
    let commits = marking (first_page size next) Active ∷ [] in
    let ends : page_of_slot size (0 + length words - 1) ≡ last =
    ap (page_of_slot size) (omega arith) in
    within _ size.pages
    (both (steps_to_commit device side generation words)
    (steps_to_close size next last ++ steps_to_retire device side)
    (both (steps_to_clear device next ++ opens ++ fill) commits
    (both (steps_to_clear device next ++ opens) fill
    (both (steps_to_clear device next) opens (clears device next formed)
    (one (first_page size next) (Receive (generation + 1)))) filled.1)
    (one (first_page size next) Active))
    (both (steps_to_close size next last) (steps_to_retire device side) closed
    (retires device side formed)))
    (omega (arith, ends)) (omega arith)

-- all of them begin in the set
in_set : (device : Device) (count : ℕ) → IsFormed device → count ≤ slot_count device.size
    → page_of_slot device.size (count - 1) < device.size.pages
in_set device count formed few = page_in_range device (count - 1) (slot_below device count formed few)

pub moves_few : (device : Device) (side : Side) (generation : ℕ) (words : List Word)
    → IsFormed device → length words ≤ slot_count device.size
    → IsWithin (length words + 3 * device.size.pages + 1) device.size.pages
    (steps_to_move device side generation words)
moves_few device side generation words formed few =
    let last = page_of_slot device.size (length words - 1) in
    within _ device.size.pages
    (moves device side generation (last + 1) words formed
    (closes device.size (other side) last))
    (omega (arith, in_set device (length words) formed few)) (omega arith)

finishes : (device : Device) (side : Side) → IsFormed device
    → IsWithin (2 * device.size.pages) 0 (steps_to_finish device side (last_used device side))
finishes device side formed =
    let last = last_used device side in
    let first = first_page device.size side in
    within (2 * device.size.pages) 0
    (both (steps_to_mark_live device side last) (steps_to_retire device (other side))
    (both (flat_map (steps_to_mark device Valid) (range_with_len first last))
    (steps_to_mark device Active (first + last))
    (range (steps_to_mark device Valid) (λ page. unless (is_marked device page Valid) page Valid)
    first last)
    (unless (is_marked device (first + last) Active) (first + last) Active))
    (retires device (other side) formed))
    (omega (
      arith,
      in_set device (fill_of (slots_of (set_of side device))) formed (few_within device side formed),
    ))
    (omega arith)

turns : (device : Device) (side : Side) (slot : ℕ) (begins : Bool)
    → IsWithin 2 0
    (cond begins
    (steps_to_mark device Valid (slot_page device.size side (slot - 1))
    ++ steps_to_mark device Active (slot_page device.size side slot))
    [])
turns _ _ _ false = within 2 0 none (omega arith) (omega arith)
turns device side slot true =
    let last = slot_page device.size side (slot - 1) in
    let page = slot_page device.size side slot in
    both (steps_to_mark device Valid last) (steps_to_mark device Active page)
    (unless (is_marked device last Valid) last Valid)
    (unless (is_marked device page Active) page Active)

appends : (device : Device) (side : Side) (slot number : ℕ)
    → IsWithin 3 0 (steps_to_append device side slot number)
appends device side slot number =
    let word : IsWithin 1 0 (slot_step device.size side slot number ∷ []) =
    record { words_are = omega arith; pages_are = omega arith } in
    both (steps_to_turn device side slot) (slot_step device.size side slot number ∷ [])
    (turns device side slot
    (not (page_of_slot device.size slot == page_of_slot device.size (slot - 1)))) word

cleans : (pages : List ℕ) → IsWithin 0 1 (take 1 (map Erase pages))
cleans [] = within 0 1 none (omega arith) (omega arith)
cleans (page ∷ pages) = record { words_are = omega arith; pages_are = omega arith }

module _ (device : Device) (side : Side) (generation : ℕ) (live : IsLive device side generation)
  where
    -- the steps of a call are those of its live set
    of_live : {words pages : ℕ} (steps : Side → ℕ → List Step)
        → IsWithin words pages (steps side generation)
        → IsWithin words pages (steps_in steps (live_of device))
    of_live {words = words} {pages = pages} steps few =
        subst (λ (list : List Step). IsWithin words pages list)
        (sym (ap (steps_in steps) live.live)) few

    clears_all : IsWithin (device.size.pages + 2) device.size.pages
        (steps_to_move device side generation [])
    clears_all =
        let first : page_of_slot device.size 0 ≡ 0 = zero-div (device.size.words - 4) in
        within _ device.size.pages
        (moves device side generation 0 [] live.formed
        (subst (λ last. IsWithin 0 0 (steps_to_close device.size (other side) last)) (sym first) none))
        (omega (arith, first)) (omega arith)

    transfers : (changes : List Change) → AreApart changes
        → live_in (changed_by changes (state_of device).map) ≤ capacity device
        → IsWithin
        (live_in (changed_by changes (state_of device).map) + 3 * device.size.pages + 1)
        device.size.pages
        (steps_to_move device side generation (moved_words changes (map_in side device)))
    transfers changes apart few =
        let count : length (moved_words changes (map_in side device))
        ≡ live_in (changed_by changes (state_of device).map) =
        moved_words_are_live_lem changes (map_in side device) apart
        ∙ ap (λ (map : Map). live_in (changed_by changes map))
        (sym (ap (λ state. state.map) (state_is device side generation live))) in
        within _ device.size.pages
        (moves_few device side generation (moved_words changes (map_in side device)) live.formed
        (omega (arith, count)))
        (omega (arith, count)) (omega arith)

    calls_few : CallsAreShort device
    calls_few = record {
      opening =
          of_live (λ side generation. steps_to_finish device side (last_used device side))
          (finishes device side live.formed);
      append = λ change.
          of_live
          (λ side generation.
          steps_to_append device side (state_of device).fill
          (number_of_change (state_of device).map change))
          (appends device side (state_of device).fill
          (number_of_change (state_of device).map change));
      transfer = λ changes apart few.
          of_live
          (λ side generation.
          steps_to_move device side generation (moved_words changes (map_in side device)))
          (transfers changes apart few);
      clear =
          of_live (λ side generation. steps_to_move device side generation []) clears_all;
      clean =
          of_live (λ side generation. steps_to_clean device side)
          (cleans (not_blank_in (other side) device));
    }

pub each_call_few : EachCallIsShort
each_call_few device legal = calls_few device legal.0 legal.1 legal.2

pub formats_and_rescues_few : FormatsAndRescuesAreShort
formats_and_rescues_few device formed = (
  within 2 (page_count device.size)
      (both (map Erase (not_blank_from 0 device.image))
      (marking 0 (Receive 1) ∷ marking 0 Active ∷ []) (erases (not_blank_from 0 device.image))
      (both (marking 0 (Receive 1) ∷ []) (marking 0 Active ∷ []) (one 0 (Receive 1))
      (one 0 Active)))
      (omega arith)
      (omega (
        arith,
        length-not_blank device.image 0,
        filter_few (λ page. not (is_blank page)) device.image,
        formed.image_length,
      )),
  λ side generation words few. moves_few device side generation words formed few,
)
