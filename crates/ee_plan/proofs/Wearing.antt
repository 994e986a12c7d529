-- How often a schedule erases: a set that is entered was erased since it was entered last.
use Rattle.std.proofs.Common.{◌≡◌, ◌≢◌, ◌⊎◌, ◌∙◌, inl, inr, ℕ, zero, suc, ◌+◌, ◌/◌, ◌<◌, ◌≤◌, Bool, true, false, cond, Some, None, Option, List, [], ◌∷◌, ◌++◌, refl, sym, subst, ap, arith, rules}
use Rattle.std.proofs.lemmas.Grind.{common_steps}
use Rattle.std.specs.List.{All}
use Rattle.std.proofs.lemmas.Bool.{cases_Bool, cases_eq, eq-eqb, eqb-true, true≢false}
use Rattle.std.proofs.lemmas.List.Elements.{All-head}
use Rattle.std.proofs.lemmas.List.Folds.{list_any_at}
use Rattle.ee_flash.proofs.Public.{behind, completed_size, length-page_at, more_erases_of}
use Rattle.ee_flash.specs.Device.{Device, IsFormed, page_at}
use Rattle.ee_flash.specs.Endurance.{AreTaken, erases_of}
use Rattle.ee_flash.specs.Laws.{IsStep, page_of}
use Rattle.ee_flash.specs.Size.{Size, page_count}
use Rattle.ee_flash.specs.Step.{Step, Program, Erase, device_after}
use Rattle.ee_flash.specs.declared.word.Word.{Word}
use Rattle.ee_flash.specs.declared.word.Word.TheVariants.{Erased, Held, Torn}
use Rattle.ee_codec.specs.Reading.{receive_of}
use Rattle.ee_pages.proofs.Public.{live_commits, step_keeps_other_pages, written_page, commits_by, other_twice}
use Rattle.ee_pages.specs.Page.{is_blank, is_written}
use Rattle.ee_pages.specs.Sets.{first_page, live_of, other}
use Rattle.ee_pages.specs.declared.side.Side.{Side}
use Rattle.ee_pages.specs.declared.side.Side.TheVariants.{First, Second}
use Rattle.ee_check.specs.declared.change.Change.{Change}
use Rattle.ee_check.specs.Schedule.{IsSchedule, Move, Situation, cost}
use Rattle.ee_plan.specs.Wearing.{EnterBlank, NoneWearsLess, by_turns, entered_sets, entered_by, is_entry}

-- ---- the first page of the live set

unread : (word : Word) → is_written word ≡ false → receive_of word ≡ None
unread Erased e = refl
unread (Held number) e = absurd (cc e)
unread Torn e = absurd (cc e)

no_commit : (marked : Bool) (generation : ℕ)
    → cond {A = Option ℕ} marked None None ≡ Some generation → ⊥
no_commit true generation e = cc
no_commit false generation e = cc

-- a device has some pages, and the first of each set is one of them
pub first_in_device : (size : Size) (side : Side) → 1 ≤ size.pages
    → first_page size side < page_count size
first_in_device size First some = omega arith
first_in_device size Second some = omega arith

live_page_written : (device : Device) (side : Side) (generation : ℕ) → IsFormed device
    → live_of device ≡ Some (side, generation)
    → is_blank (page_at device (first_page device.size side)) ≡ false
live_page_written device side generation formed live = search (
  rules,
  cases_Bool,
  commits_by,
  first_in_device,
  length-page_at,
  list_any_at,
  live_commits,
  no_commit,
  unread,
)

-- ---- one step

-- 1 for a page that is blank
abbrev blank_count : Device → ℕ → ℕ
blank_count device page = cond (is_blank (page_at device page)) 1 0

few_blank : (blank : Bool) → cond {A = ℕ} blank 1 0 ≤ 1
few_blank true = omega arith
few_blank false = omega arith

-- what a device's first step leaves
taken_step : (step : Step) (steps : List Step) (device : Device) → AreTaken (step ∷ steps) device
    → IsStep step device (device_after step device)
taken_step step steps device taken = record {
  formed = taken.formed;
  may = taken.can.0;
  follows = inl (record { was_on = taken.on; done = refl });
}

other_page : (step : Step) (steps : List Step) (device : Device) (page : ℕ)
    → AreTaken (step ∷ steps) device → page ≢ page_of step
    → blank_count (device_after step device) page ≡ blank_count device page
other_page step steps device page taken apart =
    ap (λ (words : List Word). cond {A = ℕ} (is_blank words) 1 0)
    (step_keeps_other_pages step device (device_after step device) page
    (taken_step step steps device taken) apart)

-- a page with a word programmed is not blank
programmed_page : (page at value : ℕ) (steps : List Step) (device : Device)
    → AreTaken (Program page at value ∷ steps) device
    → is_blank (page_at (device_after (Program page at value) device) page) ≡ false
programmed_page page at value steps device taken = search (rules, length-page_at, written_page)

-- only an erase makes a page blank
not_blanker : (step : Step) (steps : List Step) (device : Device) (page : ℕ)
    → AreTaken (step ∷ steps) device
    → erases_of page steps + blank_count (device_after step device) page
    ≤ erases_of page (step ∷ steps) + blank_count device page
not_blanker (Program other at value) steps device page taken =
    search (rules, cases_eq, more_erases_of, other_page, programmed_page)
not_blanker (Erase other) steps device page taken =
    grind (arith, common_steps, cases_eq, eq-eqb, few_blank, more_erases_of, other_page)

-- ---- a set is entered

-- a program of a page, and what is erased behind it
record IsEntered (size : Size) (side : Side) (step : Step) : Type 0 where
  at : ℕ
  value : ℕ
  step_is : step ≡ Program (first_page size side) at value

entry : (size : Size) (side : Side) (step : Step) → is_entry size side step ≡ true
    → IsEntered size side step
entry size side (Program page at value) e = search (rules, cases_Bool, eqb-true, true≢false)
entry size side (Erase page) e = absurd (true≢false (sym e))

-- How often the first pages of the sets are erased at least, where this one is entered next, and so
-- many are entered in all.
record WearFrom (count : ℕ) (next : Side) (steps : List Step) (device : Device) : Type 0 where
  here : (count + 1) / 2 ≤ erases_of (first_page device.size next) steps
      + blank_count device (first_page device.size next)
  there : count / 2 ≤ erases_of (first_page device.size (other next)) steps
      + blank_count device (first_page device.size (other next))

side_of : Side → List Side → Side
side_of usual [] = usual
side_of usual (side ∷ sides) = side

rest_of : List Side → List Side
rest_of [] = []
rest_of (side ∷ sides) = sides

-- a step that enters none
enters_none : (count : ℕ) (next : Side) (step : Step) (steps : List Step) (device : Device)
    → AreTaken (step ∷ steps) device → WearFrom count next steps (device_after step device)
    → WearFrom count next (step ∷ steps) device
enters_none count next step steps device taken later =
    let behind =
    subst (λ (size : Size).
    ((count + 1) / 2 ≤ erases_of (first_page size next) steps
    + blank_count (device_after step device) (first_page size next))
    × (count / 2 ≤ erases_of (first_page size (other next)) steps
    + blank_count (device_after step device) (first_page size (other next))))
    (completed_size step device) (later.here, later.there) in
    record {
      here = omega
          (arith, behind.0, not_blanker step steps device (first_page device.size next) taken);
      there =
          omega (
            arith,
            behind.1,
            not_blanker step steps device (first_page device.size (other next)) taken,
          );
    }

-- a step that enters a set: its first page was blank, and no longer is
enters_one : (count : ℕ) (next : Side) (at value : ℕ) (step : Step) (steps : List Step)
    (device : Device)
    → step ≡ Program (first_page device.size next) at value → AreTaken (step ∷ steps) device
    → is_blank (page_at device (first_page device.size next)) ≡ true
    → WearFrom count (other next) steps (device_after step device)
    → WearFrom (suc count) next (step ∷ steps) device
enters_one count next at value step steps device step_is taken blank later =
    search (rules, completed_size, more_erases_of, not_blanker, other_twice, programmed_page)

-- the set that a step enters, or that it enters none
record EntersThis (size : Size) (step : Step) : Type 0 where
  side : Side
  enters : is_entry size side step ≡ true
  found : entered_by size step ≡ side ∷ []

enters : (size : Size) (step : Step) → EntersThis size step ⊎ (entered_by size step ≡ [])
enters size step = search (rules, cases_Bool)

-- what comes behind a step
abbrev WearsFrom : List Step → Device → Type 0
WearsFrom steps device =
    (next : Side) (count : ℕ) → entered_sets device.size steps ≡ by_turns next count
    → WearFrom count next steps device

-- one more step, that enters this set
enters_next : (step : Step) (steps : List Step) (device : Device) (next : Side) (count : ℕ)
    → AreTaken (step ∷ steps) device → EnterBlank (step ∷ steps) device
    → (this : EntersThis device.size step)
    → this.side ∷ entered_sets device.size steps ≡ by_turns next count
    → WearsFrom steps (device_after step device) → WearFrom count next (step ∷ steps) device
unfolding side_of rest_of
enters_next step steps device next zero taken blank this turns later = absurd cc
enters_next step steps device next (suc count) taken blank this turns later =
    let side_is : this.side ≡ next = ap (side_of next) turns in
    let rest : entered_sets device.size steps ≡ by_turns (other next) count = ap rest_of turns in
    let was_blank =
    All-head (λ side. is_blank (page_at device (first_page device.size side)) ≡ true) this.side
    []
    (subst
    (λ l.
    All (λ side. is_blank (page_at device (first_page device.size side)) ≡ true) l)
    this.found blank.0) in
    let made = entry device.size this.side step this.enters in
    enters_one count next made.at made.value step steps device
    (made.step_is ∙ ap (λ side. Program (first_page device.size side) made.at made.value) side_is)
    taken
    (subst (λ side. is_blank (page_at device (first_page device.size side)) ≡ true) side_is
    was_blank)
    (later (other next) count
    (subst (λ (size : Size). entered_sets size steps ≡ by_turns (other next) count)
    (sym (completed_size step device)) rest))

wear_from : (steps : List Step) (device : Device) → AreTaken steps device → EnterBlank steps device
    → WearsFrom steps device
wear_from [] device taken blank next zero turns = record { here = omega arith; there = omega arith }
wear_from [] device taken blank next (suc count) turns = absurd cc
wear_from (step ∷ steps) device taken blank next count turns =
    let later =
    wear_from steps (device_after step device) (behind step steps device taken) blank.1 in
    elim (enters device.size step) [
      | inl this ↦ enters_next step steps device next count taken blank this
          (sym (ap (λ l. l ++ entered_sets device.size steps) this.found) ∙ turns) later
      | inr none ↦
          let still : entered_sets device.size steps ≡ by_turns next count =
          sym (ap (λ l. l ++ entered_sets device.size steps) none) ∙ turns in
          enters_none count next step steps device taken
          (later next count
          (subst (λ (size : Size). entered_sets size steps ≡ by_turns next count)
          (sym (completed_size step device)) still))
    ]

-- ---- a schedule

pub fewest_transfers_wear_lem : (start : Situation) (trace : List Change) (transfers : ℕ)
    → ((schedule : List Move) → IsSchedule start trace schedule → transfers ≤ cost schedule)
    → NoneWearsLess start trace transfers
fewest_transfers_wear_lem start trace transfers fewest =
    λ schedule side generation steps device is live transfer.
    let few = fewest schedule is in
    let all =
    wear_from steps device transfer.taken transfer.blank (other side) (cost schedule)
    transfer.turns in
    let written = live_page_written device side generation transfer.taken.formed live in
    let none : blank_count device (first_page device.size side) ≡ 0 =
    ap (λ b. cond {A = ℕ} b 1 0) written in
    let ours : cost schedule / 2 ≤ erases_of (first_page device.size side) steps
    + blank_count device (first_page device.size side) =
    subst
    (λ set. cost schedule / 2 ≤ erases_of (first_page device.size set) steps
    + blank_count device (first_page device.size set)) (other_twice side) all.there in
    record {
      live = omega (arith, few, ours, none);
      spare = λ blank.
          let one : blank_count device (first_page device.size (other side)) ≡ 1 =
          ap (λ b. cond {A = ℕ} b 1 0) blank in
          omega (arith, few, all.here, one);
      pending = λ waits.
          let zero : blank_count device (first_page device.size (other side)) ≡ 0 =
          ap (λ b. cond {A = ℕ} b 1 0) waits in
          omega (arith, few, all.here, zero);
    }
