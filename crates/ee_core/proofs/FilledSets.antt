-- How the picture of a set that a transfer fills grows, to that of the set that is live afterwards.
use Rattle.ee_core.proofs.Words.{rules, ◌≡◌, ◌≢◌, ◌⊎◌, inl, inr, ℕ, ◌+◌, ◌-◌, ◌%◌, ◌<◌, List, [], ◌∷◌, ◌++◌, length, get_or, refl, sym, subst, ap, ◌∙◌, arith, append_assoc, length-append, get_or-append_seam, cases_eq, cases_lt, lt-ltb, get_or_append_left, get_or_past, div-mul-add, mod-mul-add}
use Rattle.ee_core.proofs.Sets.{Device, IsFormed, Size, Word, Erased, Held, IsFilling, slots_before, first_page, other, page_of_slot, place_of_slot, Side, Receive, keeps_side_same, split_by, Layout}
use Rattle.ee_core.proofs.Calls.{AddsWords, Holds, PutsWord, SetsMark, number_written, opened_set, IsDrawn, picture_with_word}
use Rattle.ee_core.proofs.Drawings.{drawn_as, drawn_same, mark_drawn, put_drawn, with_mark, with_word-elsewhere, with_word-there}
use Rattle.ee_core.proofs.OpenedPages.{next_place, same_place}
use Rattle.ee_core.specs.Transfers.{OpensForSlot, PutsInSlot}
use Rattle.ee_core.specs.declared.change.Change.{Change}

-- the receive word of the page up to which the set is open, or of the next one
pub opens_further : (size : Size) (generation last k : ℕ) (words : List Word) (page at : ℕ)
    → (k ≡ last) ⊎ (k ≡ last + 1)
    → with_mark k (Receive generation) (opened_set size generation last words) page at
    ≡ opened_set size generation k words page at
opens_further size generation last k words page at near =
    search (rules, with_word-elsewhere, with_word-there, near)

-- the word of the first free slot
slot_is : (size : Size) (page at count : ℕ) → 3 < at → at < size.words
    → slots_before size page at ≡ count
    → (page ≡ page_of_slot size count) × (at ≡ place_of_slot size count)
slot_is _ _ _ _ slot within e = search (rules, div-mul-add, mod-mul-add)

slot_of : (size : Size) (page at count : ℕ) → page ≡ page_of_slot size count
    → at ≡ place_of_slot size count → slots_before size page at ≡ count
slot_of _ _ _ _ here there = search (rules, split_by)

pub one_word_more : (size : Size) (generation last count : ℕ) (words : List Word) (word : Word)
    (page at : ℕ)
    → length words ≡ count → at < size.words
    → picture_with_word (page_of_slot size count) (place_of_slot size count) word
    (opened_set size generation last words) page at
    ≡ opened_set size generation last (words ++ (word ∷ [])) page at
one_word_more size generation last count words word page at long within =
    let before = opened_set size generation last words in
    elim (cases_lt 3 at) [
      | inr low ↦
          search (rules, with_word-elsewhere)
      | inl slot ↦ elim (cases_eq _ _) [
        | inl same ↦
            let place = slot_is size page at count slot within same in
            with_word-there _ _ _ before _ at place.0 place.1
            ∙ sym (get_or-append_seam words word [] Erased)
            ∙ ap (λ n. get_or (words ++ (word ∷ [])) n Erased) (long ∙ sym same)
            ∙ rw (lt-ltb 3 at slot) refl
        | inr away ↦
            let apart : (page ≢ page_of_slot size count) ⊎ (at ≢ place_of_slot size count) =
            elim (cases_eq _ _) [
              | inl here ↦ inr (λ there. away (slot_of size page at count here there))
              | inr elsewhere ↦ inl elsewhere
            ] in
            let same : get_or words (slots_before size page at) Erased
            ≡ get_or (words ++ (word ∷ [])) (slots_before size page at) Erased =
            elim (cases_lt _ _) [
              | inl earlier ↦ sym
                  (get_or_append_left words (word ∷ []) Erased (slots_before size page at) earlier)
              | inr later ↦
                  let long_too = length-append words (word ∷ []) in
                  get_or_past _ _ _ later
                  ∙ sym (get_or_past _ (slots_before size page at) _ (omega arith))
            ] in
            with_word-elsewhere _ (place_of_slot size count) word before page at apart
            ∙ rw (lt-ltb 3 at slot) same
      ]
    ]

-- the page of the first free slot is the one up to which the set is open, or the next one
pub near : (size : Size) (count : ℕ) → 0 < size.words - 4
    → (page_of_slot size count ≡ page_of_slot size (count - 1))
    ⊎ (page_of_slot size count ≡ page_of_slot size (count - 1) + 1)
near _ _ some = search (rules, same_place, next_place)

-- the receive word and the word of a slot, in the device
pub receive_opens : (side : Side) (old new : Device) (generation count : ℕ) (words : List Word)
    → IsFormed old → new.size ≡ old.size → page_of_slot old.size count < old.size.pages
    → SetsMark (first_page old.size side + page_of_slot old.size count) (Receive generation) old new
    → IsDrawn side old (opened_set old.size generation (page_of_slot old.size (count - 1)) words)
    → IsDrawn side new (opened_set old.size generation (page_of_slot old.size count) words)
receive_opens _ old new generation count words formed sizes h sets drawn =
    drawn_as _ new _ _
    (mark_drawn _ _ _ _ (Receive generation) _ formed sizes h drawn sets)
    (λ page at _ _. opens_further old.size generation (page_of_slot old.size (count - 1))
    (page_of_slot old.size count) words page at (near old.size count (omega arith)))

pub slot_holds : (side : Side) (old new : Device) (generation last count : ℕ) (words : List Word)
    (word : Word)
    → length words ≡ count → new.size ≡ old.size
    → PutsWord (first_page old.size side + page_of_slot old.size count)
    (place_of_slot old.size count) word old new
    → IsDrawn side old (opened_set old.size generation last words)
    → IsDrawn side new (opened_set old.size generation last (words ++ (word ∷ [])))
slot_holds _ old new generation last count words word long sizes puts drawn =
    drawn_as _ new _ _
    (put_drawn _ _ _ _ _ _ _ sizes drawn puts)
    (λ page at _ within. one_word_more old.size generation last count words word page at long
    (omega (arith, ap (λ size. size.words) sizes)))

-- more words after some
pub adds_both : (old mid new : Device) (side : Side) (generation count : ℕ)
    (more further : List Word)
    → AddsWords old mid side generation count more
    → AddsWords mid new side generation (count + length more) further
    → AddsWords old new side generation count (more ++ further)
adds_both _ _ new side generation _ more further first second = record {
  new_pages = λ words long holds.
      subst (λ all. Holds new (other side) generation all) (append_assoc words more further)
      (second.new_pages (words ++ more) (length-append words more ∙ ap (λ n. n + length more) long)
      (first.new_pages words long holds));
}

-- the page of the first free slot may be open
pub open_already : (device : Device) (layout : Layout) (count : ℕ)
    → IsFilling device (other layout.side) (layout.generation + 1) count
    → count % (device.size.words - 4) ≢ 0 → OpensForSlot device device layout count
open_already device layout _ filling inside =
    record {
      keeps = keeps_side_same _ _ filling.formed;
      filling = filling;
      same_slots = refl;
      opens = search (rules, same_place);
      wear = refl;
    }

-- and then a word stands in it
pub stages : (old mid new : Device) (layout : Layout) (count : ℕ) (change : Change)
    → OpensForSlot old mid layout count → PutsInSlot mid new layout count change
    → AddsWords old new layout.side (layout.generation + 1) count
    (Held (number_written change) ∷ [])
stages old mid new layout count change first second = record {
  new_pages = λ words long holds.
      let side = other layout.side in
      let generation = layout.generation + 1 in
      let word = Held (number_written change) in
      let open_now =
      subst (λ size. IsDrawn side mid (opened_set size generation (page_of_slot size count) words))
      (sym first.keeps.same_size)
      (first.opens words long
      (subst
      (λ n. IsDrawn side old
      (opened_set old.size generation (page_of_slot old.size (n - 1)) words))
      long holds)) in
      let there =
      subst
      (λ n. IsDrawn side new
      (opened_set mid.size generation (page_of_slot mid.size n) (words ++ (word ∷ []))))
      (omega (arith, length-append words (word ∷ []))) (second.puts words long open_now) in
      subst
      (λ size. IsDrawn side new
      (opened_set size generation
      (page_of_slot size (length (words ++ (word ∷ [])) - 1))
      (words ++ (word ∷ [])))) (sym second.keeps.same_size) there;
}

pub adds_none : (device : Device) (side : Side) (generation count : ℕ)
    → AddsWords device device side generation count []
adds_none _ _ _ _ = search (rules, drawn_same)
