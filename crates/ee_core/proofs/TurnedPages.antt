-- The steps of an append, and of a set that is filled.
use Rattle.ee_core.proofs.Words.{◌≡◌, inl, inr, ℕ, ◌+◌, ◌-◌, ◌<◌, Bool, true, false, cond, not, List, [], ◌∷◌, ◌++◌, length, refl, sym, subst, ap, ◌∙◌, arith, append_assoc, eq-eqb, ne_eqb, le-leb, lt-leb}
use Rattle.ee_core.proofs.Sets.{Device, IsFormed, word_at, Size, Step, Word, is_marked, is_written, marking, first_page, page_of_slot, Side, Mark, Active, Receive, Valid, slot_step, page_in_range, slot_count, Layout, IsLayout}
use Rattle.ee_core.proofs.Calls.{IsSameBut, Holds, opened_set, mark_where}
use Rattle.std.specs.Prelude.{nat_le}
use Rattle.ee_flash.specs.Runs.{number_of}
use Rattle.std.specs.Prelude.{Ok}
use Rattle.ee_flash.specs.Taking.{Completes, StopsAmong, Takes}
use Rattle.ee_core.specs.StepLists.{slot_page, steps_to_fill, steps_to_mark, steps_to_receive, steps_to_turn}
use Rattle.ee_core.proofs.Taken.{completes_both, completes_none, mark_words, stops_first, stops_then, takes_ok}
use Rattle.ee_core.proofs.FilledSets.{near}

-- ---- an append

pub turn_none : (device : Device) (side : Side) (slot : ℕ)
    → page_of_slot device.size slot ≡ page_of_slot device.size (slot - 1)
    → steps_to_turn device side slot ≡ []
turn_none device side slot same =
    ap
    (λ (b : Bool). cond (not b)
    (steps_to_mark device Valid (slot_page device.size side (slot - 1))
    ++ steps_to_mark device Active (slot_page device.size side slot))
    [])
    (eq-eqb (page_of_slot device.size slot) (page_of_slot device.size (slot - 1)) same)

-- the free slot stands in the page in use
pub turned_already : {T E : Type 0} {value : T} (old : Device) (layout : Layout) (page : ℕ)
    → page ≡ first_page old.size layout.side + page_of_slot old.size layout.fill
    → page ≡ layout.current → IsLayout old layout
    → Takes {E = E} (Ok value) (steps_to_turn old layout.side layout.fill) old old
turned_already {E = E} {value = value} old layout page page_is same found =
    subst (λ (list : List Step). Takes {E = E} (Ok value) list old old)
    (sym (turn_none old layout.side layout.fill (omega (arith, page_is, same, found.current))))
    (takes_ok (completes_none old))

module _ (old : Device) (side : Side) (slot current : ℕ)
    (here : current ≡ first_page old.size side + page_of_slot old.size (slot - 1))
    (further : page_of_slot old.size slot ≡ page_of_slot old.size (slot - 1) + 1) where
  pub turn_is : steps_to_turn old side slot
      ≡ steps_to_mark old Valid current ++ steps_to_mark old Active (current + 1)
  turn_is =
      let there : slot_page old.size side slot ≡ current + 1 = omega (arith, here, further) in
      ap
      (λ (b : Bool). cond (not b)
      (steps_to_mark old Valid (slot_page old.size side (slot - 1))
      ++ steps_to_mark old Active (slot_page old.size side slot))
      [])
      (ne_eqb (page_of_slot old.size slot) (page_of_slot old.size (slot - 1))
      (λ same. omega (arith, same, further)))
      ∙ ap
      (λ n. steps_to_mark old Valid n ++ steps_to_mark old Active (slot_page old.size side slot))
      (sym here)
      ∙ ap (λ n. steps_to_mark old Valid current ++ steps_to_mark old Active n) there

  pub turn_stops : (new : Device) → StopsAmong (steps_to_mark old Valid current) old new
      → StopsAmong (steps_to_turn old side slot) old new
  turn_stops new stops =
      subst (λ (list : List Step). StopsAmong list old new) (sym turn_is)
      (stops_first (steps_to_mark old Valid current) (steps_to_mark old Active (current + 1)) stops)

  module _ (mid new : Device) (first : Completes (steps_to_mark old Valid current) old mid)
      (others : IsSameBut current old mid) where
    second_is : steps_to_mark mid Active (current + 1) ≡ steps_to_mark old Active (current + 1)
    second_is =
        ap (λ words. mark_words Active words (current + 1))
        (others (current + 1) (λ same. omega (arith, same)))

    pub turn_stops_then : StopsAmong (steps_to_mark mid Active (current + 1)) mid new
        → StopsAmong (steps_to_turn old side slot) old new
    turn_stops_then stops =
        subst (λ (list : List Step). StopsAmong list old new) (sym turn_is)
        (stops_then (steps_to_mark old Valid current) (steps_to_mark old Active (current + 1)) first
        (subst (λ (list : List Step). StopsAmong list mid new) second_is stops))

    pub turn_done : Completes (steps_to_mark mid Active (current + 1)) mid new
        → Completes (steps_to_turn old side slot) old new
    turn_done done =
        subst (λ (list : List Step). Completes list old new) (sym turn_is)
        (completes_both (steps_to_mark old Valid current) (steps_to_mark old Active (current + 1))
        first (subst (λ (list : List Step). Completes list mid new) second_is done))

-- ---- a set that is filled

-- more words behind some
pub fill-append : (size : Size) (side : Side) (generation slot : ℕ) (words more : List Word)
    → steps_to_fill size side generation slot (words ++ more)
    ≡ steps_to_fill size side generation slot words
    ++ steps_to_fill size side generation (slot + length words) more
fill-append size side generation slot [] more =
    ap (λ n. steps_to_fill size side generation n more) (omega arith)
fill-append size side generation slot (word ∷ words) more =
    let step = slot_step size side slot (number_of word) in
    ap (λ list. steps_to_receive size side generation slot ++ (step ∷ list))
    (fill-append size side generation (slot + 1) words more
    ∙ ap
    (λ n. steps_to_fill size side generation (slot + 1) words
    ++ steps_to_fill size side generation n more) (omega arith))
    ∙ sym
    (append_assoc (steps_to_receive size side generation slot)
    (step ∷ steps_to_fill size side generation (slot + 1) words)
    (steps_to_fill size side generation (slot + length (word ∷ words)) more))

pub receive_none : (size : Size) (side : Side) (generation slot : ℕ)
    → page_of_slot size slot ≡ page_of_slot size (slot - 1)
    → steps_to_receive size side generation slot ≡ []
receive_none size side generation slot same =
    ap
    (λ (b : Bool). cond (not b) (marking (slot_page size side slot) (Receive generation) ∷ []) [])
    (eq-eqb (page_of_slot size slot) (page_of_slot size (slot - 1)) same)

written_where : (here : Bool) (mark : Mark) → is_written (mark_where here mark) ≡ here
written_where true _ = refl
written_where false _ = refl

-- in a set that holds words, a page has its receive word up to that of the last one
module _ (device : Device) (side : Side) (generation slot : ℕ) (held : List Word)
    (formed : IsFormed device) (free : slot < slot_count device.size) (long : length held ≡ slot)
    (holds : Holds device side generation held) where
  abbrev page : ℕ
  page = page_of_slot device.size slot

  abbrev last : ℕ
  last = page_of_slot device.size (slot - 1)

  received : is_marked device (slot_page device.size side slot) (Receive generation)
      ≡ nat_le page last
  received =
      ap is_written
      (subst
      (λ n. word_at device (first_page device.size side + page) 0
      ≡ opened_set device.size generation (page_of_slot device.size (n - 1)) held page 0)
      long
      (holds page 0 (page_in_range device slot free)
      (omega (arith, formed.within_limits.some_words))))
      ∙ written_where (nat_le page last) (Receive generation)

  -- and so it gets one where its slot begins it
  pub receive_is : steps_to_mark device (Receive generation) (slot_page device.size side slot)
      ≡ steps_to_receive device.size side generation slot
  receive_is =
      let step = marking (slot_page device.size side slot) (Receive generation) in
      ap (λ (b : Bool). cond b [] (step ∷ [])) received
      ∙ (elim (near device.size slot (omega (arith, formed.within_limits.some_words))) [
        | inl same ↦
            ap (λ (b : Bool). cond b [] (step ∷ [])) (le-leb page last (omega (arith, same)))
            ∙ sym (receive_none device.size side generation slot same)
        | inr further ↦
            ap (λ (b : Bool). cond b [] (step ∷ [])) (lt-leb page last (omega (arith, further)))
            ∙ sym
            (ap (λ (b : Bool). cond (not b) (step ∷ []) [])
            (ne_eqb page last (λ same. omega (arith, same, further))))
      ])
