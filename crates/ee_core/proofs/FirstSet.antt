-- How a blank device gets its first set.
use Rattle.ee_core.proofs.Words.{rules, ◌≡◌, ◌<◌, inl, ℕ, ◌-◌, ◌/◌, true, false, None, List, [], ◌∷◌, refl, sym, subst, ap, ◌∙◌, arith, suc, All, zero-div, All-drop, All-get_or, All-take}
use Rattle.ee_core.proofs.Sets.{Device, IsFormed, IsOn, IsStep, page_count, device_after, Word, Erased, step_changes_one_page, IsCommitted, IsFilling, IsLayout, meaning, is_blank, is_marked, is_written, marking, committed_generation, fill_of, pending_of, set_of, slots_of, word_of, First, Second, Mark, Active, Receive, blank_word, first_commit_commits, first_word, same_set, page_of_set, length-set_of, opens_set, erased_word}
use Rattle.ee_core.proofs.Calls.{IsMarked, last_used, formatted_state, state_of}
use Rattle.ee_core.proofs.Marks.{IsProper, mark_step, marked_by}
use Rattle.ee_core.proofs.States.{same_states, state_is}

-- a blank page has no mark
pub unmarked : (device : Device) (page : ℕ) (mark : Mark) → IsFormed device
    → All (λ words. is_blank words ≡ true) device.image → page < page_count device.size
    → is_marked device page mark ≡ false
unmarked device page mark formed all h = search (rules, blank_word, All-get_or)

pub erased_commits : (pages : List (List Word)) → word_of pages 0 1 ≡ Erased
    → committed_generation pages ≡ None
erased_commits _ e = rw e refl

pub no_pending : (pages : List (List Word)) → All (λ words. is_blank words ≡ true) pages
    → pending_of pages ≡ 0
no_pending [] _ = refl
no_pending (page ∷ pages) each =
    rw (each 0 [] (omega arith)) (no_pending pages (λ k none h. each (suc k) none (omega arith)))

pub proper_first : IsProper (Receive 1)
proper_first generation e = search rules

pub proper_active : IsProper Active
proper_active _ e = cc

module _ (blank mid : Device) (formed : IsFormed blank)
    (all : All (λ words. is_blank words ≡ true) blank.image) (on : IsOn blank)
    (whole : mid ≡ device_after (marking 0 (Receive 1)) blank) where
  in_device : 0 < page_count blank.size
  in_device = omega arith

  pub receiving : IsStep (marking 0 (Receive 1)) blank mid
  receiving =
      mark_step 0 _ _ _ formed in_device proper_first
      (unmarked blank 0 (Receive 1) formed all in_device)
      (inl (record { was_on = on; done = whole }))

  pub opened : IsFilling mid First 1 0
      × ((address : ℕ) → meaning (slots_of (set_of First mid)) address ≡ None)
  opened =
      opens_set _ _ _ 1 (omega arith, omega arith)
      (All-take (λ words. is_blank words ≡ true) _ _ all) receiving whole

  pub active_unset : is_marked mid 0 Active ≡ false
  active_unset = ap is_written (sym (first_word First _ 1 opened.0.formed) ∙ opened.0.uncommitted)

  pub same_second : set_of Second mid ≡ set_of Second blank
  same_second = search (rules, same_set, step_changes_one_page, receiving)

  second_blank : All (λ words. is_blank words ≡ true) (set_of Second blank)
  second_blank = All-drop (λ words. is_blank words ≡ true) _ _ all

  pub alone : committed_generation (set_of Second mid) ≡ None
  alone =
      let word = erased_word _ (unmarked blank blank.size.pages Active formed all (omega arith)) in
      search (same_second, erased_commits, first_word)

  module _ (new : Device) (mid_on : IsOn mid)
      (done : new ≡ device_after (marking 0 Active) mid) where
    committing : IsStep (marking 0 Active) mid new
    committing = search (rules, mark_step, opened, proper_active, active_unset)

    both : IsCommitted mid new First 1 × (set_of Second new ≡ set_of Second mid)
    both = first_commit_commits _ _ _ 1 0 opened.0 (omega arith, omega arith) alone committing done

    no_fill : fill_of (slots_of (set_of First new)) ≡ 0
    no_fill = ap fill_of both.0.same_slots ∙ opened.0.fill

    no_slot : (n : ℕ) → (0 - 1) / n ≡ 0
    no_slot n = zero-div n

    first_is_last : last_used new First ≡ 0
    first_is_last = search (no_fill, no_slot)

    second_still_blank : All (λ words. is_blank words ≡ true) (set_of Second new)
    second_still_blank =
        subst (All (λ words. is_blank words ≡ true)) (sym (both.1 ∙ same_second)) second_blank

    pub first_layout : IsLayout new (record { side = First; generation = 1; fill = 0; current = 0 })
    first_layout = search (rules, both, no_fill, no_slot)

    pub first_marked : IsMarked new First
    first_marked = search (
      rules,
      first_is_last,
      marked_by,
      committing,
      length-set_of,
      both,
      page_of_set,
      All-get_or,
      second_still_blank,
    )

    pub first_state : state_of new ≡ formatted_state
    first_state =
        search (rules, state_is, both, same_states, opened, no_fill, no_pending, second_still_blank)
