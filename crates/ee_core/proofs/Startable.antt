-- What steps leave of a device that can be started: from a first start on, until its set is
-- committed.
use Rattle.ee_core.proofs.Words.{rules, ◌≡◌, ◌≢◌, ◌⊎◌, inl, inr, ℕ, ◌+◌, ◌<◌, ◌≤◌, true, Some, None, Option, [], get_or, set, refl, sym, subst, ap, ◌∙◌, arith, suc, zero, All, cases_eq, same_Some, option_map, All-drop, All-take, get_or-set_same, get_or_past}
use Rattle.ee_core.proofs.Sets.{Device, IsFormed, IsOn, page_at, word_at, DiffersInPage, IsStep, IsCut, page_count, Step, Program, Erase, MayFollow, device_after, with_word, Word, Erased, Held, Torn, step_changes_one_page, step_keeps_formed, step_leaves_pages, IsCommitted, IsScanFault, IsUnformatted, IsLegal, CannotCommit, meaning, is_blank, marking, word_in, committed_generation, fill_of, first_page, live_of, set_of, Side, First, Second, Active, Receive, blank_set, commit_after, commits, commits_by, elsewhere, programmed_word, same_set, first_commits, other_set_stays, legal_is_good, as_it_was, none_live}
use Rattle.ee_core.proofs.Calls.{with_power_on, OpenFails, formatted_state, state_of}
use Rattle.ee_pages.specs.declared.find.ScanFault.TheVariants.{NoLiveSet, TwoLive, Foreign}
use Rattle.ee_core.proofs.FirstSet.{alone, erased_commits, no_pending, opened, same_second}
use Rattle.ee_core.proofs.Powered.{legal_on, state_in_on}
use Rattle.ee_core.proofs.States.{same_states, state_is}
use Rattle.ee_pages.specs.declared.find.ScanFault.{ScanFault}
use Rattle.ee_core.specs.Starts.{AreCutStarts, IsNew, IsStartable, IsStarting, StartFails, Starts, StartsEmpty}
use Rattle.ee_core.specs.declared.opening.OpenFault.{OpenFault}
use Rattle.ee_core.specs.declared.opening.OpenFault.TheVariants.{Scan, Cut}

-- the step erases, or programs a word of a header
abbrev pub IsInHeader : Step → Type 0
IsInHeader (Erase _) = Unit {0}
IsInHeader (Program _ at _) = at < 4

is_held : (word : Word) (number : ℕ) → (word ≡ Erased) ⊎ (word ≡ Torn) → word ≢ Held number
is_held _ _ (inl erased) held = let e = sym erased ∙ held in cc e
is_held _ _ (inr torn) held = let e = sym torn ∙ held in cc e

-- it leaves no word held behind a header that wasn't
held_before : (step : Step) (old new : Device) (page at number : ℕ) → IsStep step old new
    → IsInHeader step → 4 ≤ at → word_at new page at ≡ Held number
    → word_at old page at ≡ Held number
held_before (Erase erased) old new _ at number taken _ _ held =
    elim (cases_eq _ _) [
      | inr apart ↦ search (rules, elsewhere, step_changes_one_page)
      | inl same ↦
          let there = subst (λ n. word_at new n at ≡ Held number) same held in
          elim ((step_leaves_pages _ _ _ taken).0.each at) [
            | inl as_before ↦ ap (λ n. word_at old n at) same ∙ sym as_before ∙ there
            | inr gone ↦ absurd (is_held (word_at new erased at) number gone there)
          ]
    ]
held_before (Program programmed place value) old new _ at number taken header behind held =
    elim (cases_eq _ _) [
      | inr apart ↦ sym (elsewhere _ _ programmed _ at (step_changes_one_page _ _ _ taken) apart)
          ∙ held
      | inl same ↦
          ap (λ n. word_at old n at) same
          ∙ sym
          (programmed_word old new _ place value at (omega arith) (λ e. omega arith)
          (step_leaves_pages _ _ _ taken))
          ∙ subst (λ n. word_at new n at ≡ Held number) same held
    ]

none_or_gone : {A : Type 0} (after before : Option A) → (after ≡ before) ⊎ (after ≡ None)
    → before ≡ None → after ≡ None
none_or_gone _ _ (inl same) none = same ∙ none
none_or_gone _ _ (inr gone) _ = gone

-- a step that commits neither set, and is in no slot, leaves the device startable, in every outcome
pub stays_startable : (step : Step) (old new : Device) → IsStep step old new → IsInHeader step
    → ((side : Side) → CannotCommit (first_page old.size side) step old) → IsStartable old
    → IsStartable new
stays_startable step old new taken header cannot startable =
    record {
      uncommitted = λ side.
          let first = first_page old.size side in
          let now =
          commits_by _ _ (step_keeps_formed _ _ _ taken)
          ∙ ap
          (λ size. commits (word_at new (first_page size side) 0)
          (word_at new (first_page size side) 1))
          (step_changes_one_page _ _ _ taken).same_size in
          now
          ∙ none_or_gone _ _ (commit_after _ _ _ _ taken (cannot side))
          (sym (commits_by _ _ taken.formed) ∙ startable.uncommitted side);
      none_held = search (rules, held_before);
    }

-- an erase, in every outcome
pub erase_startable : (page : ℕ) (old new : Device) → IsFormed old → page < page_count old.size
    → MayFollow (Erase page) old new → IsStartable old → IsStartable new
erase_startable page old new formed may follows =
    stays_startable (Erase page) old new (record { formed = formed; may = may; follows = follows })
    tt (λ side. tt)

blank_in_set : (side : Side) (device : Device) → All (λ page. is_blank page ≡ true) device.image
    → All (λ page. is_blank page ≡ true) (set_of side device)
blank_in_set First _ all = All-take (λ page. is_blank page ≡ true) _ _ all
blank_in_set Second _ all = All-drop (λ page. is_blank page ≡ true) _ _ all

-- a device with no word programmed
pub blank_startable : (device : Device) → All (λ page. is_blank page ≡ true) device.image
    → IsStartable device
blank_startable _ all = search (rules, erased_commits, blank_set, blank_in_set, is_held)

-- all that is asked is asked of the image
pub same_image : (old new : Device) → new.size ≡ old.size → new.image ≡ old.image → IsStartable old
    → IsStartable new
same_image _ _ sizes same startable = search (rules, as_it_was)

-- ---- the two steps behind the last erase

cannot_receive : (side : Side) (blank : Device) → IsFormed blank
    → All (λ page. is_blank page ≡ true) blank.image
    → CannotCommit (first_page blank.size side) (marking 0 (Receive 1)) blank
cannot_receive _ _ _ all = search (rules, blank_set)

module _ (blank mid : Device) (formed : IsFormed blank)
    (all : All (λ page. is_blank page ≡ true) blank.image) where
  -- whatever the receive word's step leaves
  pub received_startable : IsStep (marking 0 (Receive 1)) blank mid → IsStartable mid
  received_startable taken = search (rules, stays_startable, cannot_receive, blank_startable)

-- the mark that commits, torn
torn_commits : (side : Side) (mid new : Device) → IsStep (marking 0 Active) mid new
    → DiffersInPage 0 mid new → IsFormed new → word_at new 0 1 ≡ Torn → IsStartable mid
    → committed_generation (set_of side new) ≡ None
torn_commits First _ _ _ _ formed mark _ = commits_by First _ formed ∙ rw mark refl
torn_commits Second mid _ taken differs formed mark startable =
    ap committed_generation
    (same_set Second _ _ 0 differs (record { from = omega arith; below = omega arith }))
    ∙ startable.uncommitted Second

torn_startable : (mid new : Device) → IsStep (marking 0 Active) mid new
    → new.image ≡ (with_word 0 1 Torn mid).image → IsStartable mid → IsStartable new
torn_startable mid new taken torn startable =
    let left = step_leaves_pages _ _ _ taken in
    let mark =
    ap (λ image. word_in (get_or image 0 []) 1) torn
    ∙ ap (λ words. word_in words 1)
    (get_or-set_same mid.image 0 (set (page_at mid 0) 1 Torn) [] (omega arith))
    ∙ get_or-set_same (page_at mid 0) 1 Torn Erased (omega arith) in
    record {
      uncommitted = search (torn_commits, step_changes_one_page, step_keeps_formed);
      none_held = search (rules, held_before);
    }

-- the mark that commits, programmed whole, also where power was cut in its step
module _ (blank mid new : Device) (formed : IsFormed blank)
    (all : All (λ page. is_blank page ≡ true) blank.image) (on : IsOn blank)
    (whole : mid ≡ device_after (marking 0 (Receive 1)) blank)
    (taken : IsStep (marking 0 Active) mid new)
    (is : new.image ≡ (device_after (marking 0 Active) mid).image) where
  now_live : IsCommitted mid new First 1
  now_live =
      first_commits _ _ _ 1 0 (opened _ _ formed all on whole).0 (omega arith) (omega arith)
      (alone _ _ formed all on whole) taken is

  second_blank_still : All (λ words. is_blank words ≡ true) (set_of Second new)
  second_blank_still =
      subst (All (λ words. is_blank words ≡ true))
      (sym
      (other_set_stays _ _ _ 1 0 (opened _ _ formed all on whole).0 (omega arith)
      (omega arith) (alone _ _ formed all on whole) taken
      ∙ same_second _ _ formed all on whole)) (blank_in_set Second blank all)

  pub committed_new : IsNew new
  committed_new = record {
    legal = (First, 1, now_live.live);
    state_is =
        state_is _ _ 1 now_live.live
        ∙ same_states _ _ _ _ 1 1 _ _
        (λ address. ap (λ slots. meaning slots address) now_live.same_slots
        ∙ (opened _ _ formed all on whole).1 address)
        (ap fill_of now_live.same_slots ∙ (opened _ _ formed all on whole).0.fill) refl
        (no_pending _ second_blank_still);
  }

-- so in every outcome of that step the device can be started still, or was
pub active_starting : (blank mid new : Device) → IsFormed blank
    → All (λ page. is_blank page ≡ true) blank.image → IsOn blank
    → mid ≡ device_after (marking 0 (Receive 1)) blank → IsStep (marking 0 Active) mid new
    → IsStartable mid → IsStarting new
active_starting blank mid new formed all on whole taken startable =
    elim (step_leaves_pages _ _ _ taken) [
      | inl same ↦ inl
          (same_image mid new (step_changes_one_page _ _ _ taken).same_size same startable)
      | inr (inl held) ↦ search (rules, committed_new)
      | inr (inr torn) ↦ inl (torn_startable mid new taken torn startable)
    ]

-- ---- what a scan says

pub startable_not_live : (device : Device) (side : Side) (generation : ℕ) → IsStartable device
    → live_of device ≡ Some (side, generation) → ⊥
startable_not_live _ _ _ startable live =
    let e =
    sym (none_live _ _ (startable.uncommitted First) (startable.uncommitted Second))
    ∙ live in cc e

pub none_committed : (device : Device) → IsScanFault device NoLiveSet → (side : Side)
    → committed_generation (set_of side device) ≡ None
none_committed _ fault First = fault.1
none_committed _ fault Second = fault.2

pub two_live_stays : (device : Device) → IsScanFault device TwoLive → ¬ IsStartable device
two_live_stays _ fault startable = let e = sym (startable.uncommitted First) ∙ fault.1.1 in cc e

pub foreign_stays : (device : Device) (page at : ℕ) → IsScanFault device (Foreign page at)
    → ¬ IsStartable device
foreign_stays device _ _ fault startable =
    startable_not_live device fault.1.0 fault.1.1 startable fault.1.2

pub legal_stays : (device : Device) → IsLegal device → ¬ IsStartable device
legal_stays device legal startable =
    startable_not_live device legal.0 legal.1 startable legal.2.live

-- ---- what a start leaves, where the scan changed nothing

pub scan_fails : (old new : Device) (fault : OpenFault) (found : ScanFault) → fault ≡ Scan found
    → OpenFails old fault new → IsScanFault old found × (new ≡ old)
scan_fails old new _ _ is = subst (λ said. OpenFails old said new) is

-- a word past the end of its page is erased
pub past_end : (device : Device) (page at number : ℕ) → IsFormed device
    → page < page_count device.size → device.size.words ≤ at → word_at device page at ≢ Held number
past_end device page at number formed within past = search (rules, is_held, get_or_past)

-- ---- any number of starts

same_powered : (side : Side) (device : Device)
    → set_of side (with_power_on device) ≡ set_of side device
same_powered First _ = refl
same_powered Second _ = refl

pub startable_on : (device : Device) → IsStartable device → IsStartable (with_power_on device)
startable_on device startable =
    record { uncommitted = search (rules, same_powered); none_held = startable.none_held }

powered_starting : (device : Device) → IsStarting device → IsStarting (with_power_on device)
powered_starting device (inl startable) = inl (startable_on device startable)
powered_starting device (inr new) =
    inr
    (record {
      legal = legal_on _ new.legal;
      state_is = state_in_on device (live_of device) ∙ new.state_is;
    })

cut_starting : (old new : Device) → IsStarting old → StartFails old Cut new
    → IsStarting new × IsCut old new
cut_starting _ _ _ (inl cut) = (cut.starting, cut.cut.cut)
cut_starting old _ (inl startable) (inr cut) = absurd (legal_stays old cut.was_legal startable)
cut_starting _ _ (inr before) (inr cut) =
    (inr (record { legal = cut.legal; state_is = cut.state_is ∙ before.state_is }), cut.cut)

empty_store : (old new : Device) → IsStarting old → Starts old new → state_of new ≡ formatted_state
empty_store _ _ _ (inl done) = done.1.state_is
empty_store old _ (inl startable) (inr opens) = absurd (legal_stays old opens.legal startable)
empty_store _ _ (inr before) (inr opens) = opens.state_is ∙ before.state_is

only_cut : (old new : Device) (fault : OpenFault) → IsStarting old → StartFails old fault new
    → fault ≡ Cut
only_cut _ _ Cut _ _ = refl
only_cut _ _ (Scan _) (inl startable) fails = absurd (fails.0 startable)
only_cut _ _ (Scan fault) (inr before) fails = absurd (legal_is_good _ fault before.legal fails.1)

starts_empty : (device : Device) → IsStarting device → StartsEmpty device
starts_empty device starting = search (empty_store, only_cut)

one_left_less : (more left : ℕ) (cuts_left : Option ℕ)
    → Some left ≡ option_map (λ n. n + 1) cuts_left
    → ((rest : ℕ) → cuts_left ≡ Some rest → more ≤ rest) → suc more ≤ left
one_left_less _ _ None e _ = cc e
one_left_less _ _ (Some n) e rest = let same = same_Some _ _ e in omega (arith, rest n refl)

starts_end_from : (starts : ℕ) (old new : Device) → IsStarting old → AreCutStarts starts old new
    → StartsEmpty new × ((left : ℕ) → old.cuts_left ≡ Some left → starts ≤ left)
starts_end_from zero old _ starting same =
    (subst StartsEmpty (sym same) (starts_empty old starting), λ left _. omega arith)
starts_end_from (suc more) old new starting run =
    let between = run.0 in
    let cut = cut_starting old between starting run.1 in
    let rest =
    starts_end_from more (with_power_on between) new (powered_starting between cut.0) run.2 in
    search (rules, one_left_less)

pub starts_end_lem : (starts : ℕ) (old new : Device) → IsUnformatted old
    → AreCutStarts starts old new
    → StartsEmpty new × ((left : ℕ) → old.cuts_left ≡ Some left → starts ≤ left)
starts_end_lem starts old new blank run =
    starts_end_from starts old new (inl (blank_startable old blank)) run

-- and so is one of a page past the last
pub past_device : (device : Device) (page at number : ℕ) → IsFormed device
    → page_count device.size ≤ page → word_at device page at ≢ Held number
past_device device page at number formed past = search (rules, is_held, get_or_past)
