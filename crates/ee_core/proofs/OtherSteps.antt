-- Steps in the set that a transfer fills.
use Rattle.ee_core.proofs.Words.{rules, ◌≡◌, ◌⊎◌, inl, inr, ℕ, ◌+◌, ◌-◌, ◌<◌, Bool, true, false, None, refl, sym, subst, ap, ◌∙◌, arith, All, Result, Ok, Err, slice_set, cases_Bool, All-get_or, div-mul-le_self}
use Rattle.ee_core.proofs.Sets.{IsGeneration, Device, IsFormed, IsOn, all_ones, word_at, IsStep, page_count, slot_count, Program, IsCutIn, IsUntouched, MayFollow, device_after, Erased, Held, IsCommitted, IsFilling, IsPageOf, KeepsSide, Change, SpellsChange, map_after, meaning, is_blank, is_marked, marking, number_of_mark, slot_step, first_page, other, page_of_slot, place_of_slot, set_of, slots_of, Side, Mark, Active, Receive, blank_word, erased_word, fill-front, slots_behind, other_set_keeps_side, keeps_side_same, length-set_of, page_in_range, place_in_range, slot_at, commits_over, whole_commits_over, opens_page, opens_set, stages_change, first_word, word-in_set, first_in_set}
use Rattle.ee_core.proofs.Calls.{IsOlder}
use Rattle.ee_core.proofs.Marks.{place_below}
use Rattle.ee_core.proofs.SetPages.{first_below, page_in_device}

in_set : (side : Side) (device : Device) (page : ℕ) → page < device.size.pages
    → IsPageOf device.size side (first_page device.size side + page)
in_set _ _ _ h = record { from = omega arith; below = omega arith }

first_in_device : (side : Side) (device : Device) → IsFormed device
    → first_page device.size side < page_count device.size
first_in_device side device formed = omega (arith, first_below device.size side)

-- the first free slot is erased
pub free_slot : (device : Device) (side : Side) (generation count : ℕ)
    → IsFilling device side generation count → count < slot_count device.size
    → word_at device (first_page device.size side + page_of_slot device.size count)
    (place_of_slot device.size count)
    ≡ Erased
free_slot device _ _ _ filling free =
    let reached = fill-front _ _ _ filling.formed filling.allowed ∙ filling.fill in
    sym (word-in_set _ _ _ _ (page_in_range device _ free))
    ∙ sym (slot_at _ _ _ filling.formed free)
    ∙ erased_word _ (slots_behind _ _ _ filling.formed filling.allowed _ (omega arith))

module _ (old new : Device) (side : Side) (generation count number : ℕ)
    (filling : IsFilling old (other side) (generation + 1) count)
    (free : count < slot_count old.size) (below : number < all_ones)
    (follows : MayFollow (slot_step old.size (other side) count number) old new) where
  pub slot_taken : IsStep (slot_step old.size (other side) count number) old new
  slot_taken = search (page_in_device, page_in_range, place_in_range, free_slot)

  pub slot_keeps : KeepsSide old new side
  slot_keeps = (other_set_keeps_side _ _ _ _ slot_taken
      (in_set (other side) old _ (page_in_range old _ free))
      ((λ here e. omega arith), (λ here e. absurd (omega arith))))

pub receive_below : (generation : ℕ) → IsGeneration generation
    → number_of_mark (Receive generation) < all_ones
receive_below _ proper = omega arith

pub active_below : number_of_mark Active < all_ones
active_below = omega arith

module _ (old new : Device) (page : ℕ) (mark : Mark) (formed : IsFormed old)
    (in_range : page < page_count old.size) (below : number_of_mark mark < all_ones)
    (erased : is_marked old page mark ≡ false)
    (follows : MayFollow (marking page mark) old new) where
  mark_taken : IsStep (marking page mark) old new
  mark_taken = search (rules, place_below, erased_word)

-- a mark that is written takes no step, so none is cut
unmarked : {T E Q : Type 0} (b : Bool) (result : Result T E) (x : T) (e : E) → result ≡ Err e
    → (b ≡ true → (result ≡ Ok x) × Q) → b ≡ false
unmarked true _ x e is present = let no = sym is ∙ (present refl).0 in cc no
unmarked false _ x e _ _ = refl

same_kept : (old new : Device) (side : Side) → IsFormed old → new ≡ old → KeepsSide old new side
same_kept _ _ _ formed same = rw same (keeps_side_same _ _ formed)

-- the receive word of a further page
module _ (old new : Device) (side : Side) (generation count : ℕ)
    (filling : IsFilling old (other side) (generation + 1) count)
    (free : count < slot_count old.size) (proper : IsGeneration (generation + 1)) where
  abbrev word : Mark
  word = Receive (generation + 1)

  abbrev here : ℕ
  here = first_page old.size (other side) + page_of_slot old.size count

  receive_taken : is_marked old here word ≡ false → MayFollow (marking here word) old new
      → IsStep (marking here word) old new
  receive_taken erased follows =
      search (mark_taken, page_in_device, page_in_range, receive_below)

  receive_keeps : is_marked old here word ≡ false → MayFollow (marking here word) old new
      → KeepsSide old new side
  receive_keeps erased follows =
      (other_set_keeps_side _ _ _ _ (receive_taken erased follows)
      (in_set (other side) old _ (page_in_range old _ free)) (
        (λ at e. absurd (cc e)),
        (λ at e. (sym (first_word _ _ 1 filling.formed) ∙ filling.uncommitted)),
      ))

  pub receive_cut : {T E : Type 0} (result : Result T E) (x : T) (e : E) → result ≡ Err e
      → (page : ℕ) → page ≡ here → (is_marked old page word ≡ true → (result ≡ Ok x) × (new ≡ old))
      → (IsCutIn (marking page word) old new ⊎ IsUntouched old new) → KeepsSide old new side
  receive_cut result x e failed _ is = search (rules, receive_keeps, unmarked)

  abbrev Received : Type 0
  Received =
      KeepsSide old new side × IsFilling new (other side) (generation + 1) count
      × (slots_of (set_of (other side) new) ≡ slots_of (set_of (other side) old))

  received : (is_marked old here word ≡ true → new ≡ old)
      → (is_marked old here word ≡ false → IsOn old)
      → (is_marked old here word ≡ false → new ≡ device_after (marking here word) old) → Received
  received present on done = elim (cases_Bool _) [
    | inl marked ↦
        let same = present marked in (
          same_kept old new side filling.formed same,
          rw same filling,
          ap (λ device. slots_of (set_of (other side) device)) same,
        )
    | inr erased ↦
        let follows = inl (record { was_on = on erased; done = done erased }) in
        let opened =
        opens_page _ _ _ _ _ _ proper filling (page_in_range old _ free)
        (div-mul-le_self count (old.size.words - 4)) (receive_taken erased follows)
        (done erased) in
        (receive_keeps erased follows, opened.0, opened.1)
  ]

  pub receive_done : (page : ℕ) → page ≡ here → (is_marked old page word ≡ true → new ≡ old)
      → (is_marked old page word ≡ false → IsOn old)
      → (is_marked old page word ≡ false → new ≡ device_after (marking page word) old) → Received
  receive_done _ is = search (rules, received)

-- a change in the first free slot
module _ (old new : Device) (side : Side) (generation count number : ℕ)
    (filling : IsFilling old (other side) (generation + 1) count)
    (free : count < slot_count old.size) (below : number < all_ones) where
  abbrev slot_page : ℕ
  slot_page = first_page old.size (other side) + page_of_slot old.size count

  pub put_cut : (page at : ℕ) → page ≡ slot_page → at ≡ place_of_slot old.size count
      → MayFollow (Program page at number) old new → KeepsSide old new side
  put_cut page _ page_is at_is follows =
      slot_keeps old new side generation count number filling free below
      (subst (λ n. MayFollow (Program n (place_of_slot old.size count) number) old new) page_is
      (subst (λ k. MayFollow (Program page k number) old new) at_is follows))

  abbrev Staged : Change → Type 0
  Staged change =
      IsFilling new (other side) (generation + 1) (count + 1)
      × (slots_of (set_of (other side) new)
      ≡ slice_set (slots_of (set_of (other side) old)) count (Held number))
      × ((address : ℕ)
      → meaning (slots_of (set_of (other side) new)) address
      ≡ map_after change (meaning (slots_of (set_of (other side) old))) address)

  put_whole : (change : Change) → SpellsChange number change
      → MayFollow (slot_step old.size (other side) count number) old new
      → new ≡ device_after (slot_step old.size (other side) count number) old → Staged change
  put_whole _ spells follows done =
      stages_change _ _ _ _ _ _ _ filling free spells
      (slot_taken old new side generation count number filling free below follows) done

  pub put_done : (change : Change) (page at : ℕ) → page ≡ slot_page
      → at ≡ place_of_slot old.size count → SpellsChange number change → IsOn old
      → new ≡ device_after (Program page at number) old → Staged change
  put_done change _ at page_is at_is spells on done = search (rules, put_whole)

-- the receive word that opens the set
module _ (old new : Device) (side : Side) (generation : ℕ) (formed : IsFormed old)
    (proper : IsGeneration (generation + 1))
    (blank : All (λ page. is_blank page ≡ true) (set_of (other side) old)) where
  abbrev opening : Mark
  opening = Receive (generation + 1)

  abbrev first : ℕ
  first = first_page old.size (other side)

  first_erased : (at : ℕ) → word_at old first at ≡ Erased
  first_erased at = search (rules, first_word, blank_word, All-get_or, length-set_of)

  pub opening_unmarked : (page : ℕ) → page ≡ first → is_marked old page opening ≡ false
  opening_unmarked _ is = search (rules, first_erased)

  opening_taken : MayFollow (marking first opening) old new → IsStep (marking first opening) old new
  opening_taken follows =
      search (mark_taken, first_in_device, receive_below, opening_unmarked)

  pub opening_keeps : (page : ℕ) → page ≡ first → MayFollow (marking page opening) old new
      → KeepsSide old new side
  opening_keeps _ is follows =
      (other_set_keeps_side _ _ _ _
      (opening_taken (subst (λ n. MayFollow (marking n opening) old new) is follows))
      (first_in_set _ _ formed) ((λ at e. absurd (cc e)), (λ at e. first_erased 1)))

  pub opening_done : (page : ℕ) → page ≡ first → IsOn old
      → new ≡ device_after (marking page opening) old
      → IsFilling new (other side) (generation + 1) 0
      × ((address : ℕ) → meaning (slots_of (set_of (other side) new)) address ≡ None)
  opening_done _ is on done =
      let here = done ∙ ap (λ n. device_after (marking n opening) old) is in
      opens_set _ _ _ _ proper blank (opening_taken (inl (record { was_on = on; done = here })))
      here

-- the mark that commits the set
module _ (old new : Device) (side : Side) (generation count : ℕ)
    (older : IsOlder old side (generation + 1)) (proper : IsGeneration (generation + 1))
    (filling : IsFilling old (other side) (generation + 1) count) where
  abbrev front_page : ℕ
  front_page = first_page old.size (other side)

  pub active_unmarked : (page : ℕ) → page ≡ front_page → is_marked old page Active ≡ false
  active_unmarked _ is = search (rules, first_word)

  active_taken : MayFollow (marking front_page Active) old new
      → IsStep (marking front_page Active) old new
  active_taken follows = search (mark_taken, first_in_device, active_below, active_unmarked)

  pub active_commits : (page : ℕ) → page ≡ front_page → MayFollow (marking page Active) old new
      → (set_of side new ≡ set_of side old)
      × (KeepsSide old new side ⊎ IsCommitted old new (other side) (generation + 1))
  active_commits _ is follows =
      commits_over _ _ _ _ _ older filling proper
      (active_taken (subst (λ n. MayFollow (marking n Active) old new) is follows))

  pub active_done : (page : ℕ) → page ≡ front_page → IsOn old
      → new ≡ device_after (marking page Active) old
      → IsCommitted old new (other side) (generation + 1)
  active_done _ is on done =
      let here = done ∙ ap (λ n. device_after (marking n Active) old) is in
      whole_commits_over _ _ _ _ _ older filling proper
      (active_taken (inl (record { was_on = on; done = here }))) here
