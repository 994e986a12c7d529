-- How often a schedule erases, on any device and by whatever steps: what its transfers ask of the
-- first page of each set.
use Rattle.std.specs.Prelude.{◌≡◌, ◌≤◌, ℕ, ◌+◌, ◌-◌, ◌/◌, ◌==◌, ◌&&◌, if◌then◌else◌, Bool, true, false, Some, List, [], ◌∷◌, zero, suc}
use Rattle.std.specs.List.{All, flat_map}
use Rattle.ee_flash.specs.Device.{Device, page_at}
use Rattle.ee_flash.specs.Endurance.{AreTaken, erases_of}
use Rattle.ee_flash.specs.Size.{Size}
use Rattle.ee_flash.specs.Step.{Step, Program, Erase, device_after}
use Rattle.ee_pages.specs.Page.{is_blank}
use Rattle.ee_pages.specs.Sets.{first_page, live_of, other}
use Rattle.ee_pages.specs.declared.side.Side.{Side}
use Rattle.ee_pages.specs.declared.side.Side.TheVariants.{First, Second}
use Rattle.ee_check.specs.declared.change.Change.{Change}
use Rattle.ee_check.specs.Schedule.{IsSchedule, Move, Situation, cost}

-- ---- the steps of a store that transfers

-- a set is entered by a program of the first word of its first page
abbrev pub is_entry : Size → Side → Step → Bool
is_entry size side (Program page at value) = page == first_page size side && at == 0
is_entry size side (Erase page) = false

-- the set that a step enters, if it enters one
abbrev pub entered_by : Size → Step → List Side
entered_by size step =
    if is_entry size First step then First
    ∷ [] else (if is_entry size Second step then Second ∷ [] else [])

-- the sets that steps enter, in their order
abbrev pub entered_sets : Size → List Step → List Side
entered_sets size steps = flat_map (entered_by size) steps

-- so many sets by turns, of which this is the first
abbrev pub by_turns : Side → ℕ → List Side
by_turns side zero = []
by_turns side (suc more) = side ∷ by_turns (other side) more

-- the first page of each set is blank when the set is entered
abbrev pub EnterBlank : List Step → Device → Type 0
EnterBlank [] device = Unit {0}
EnterBlank (step ∷ steps) device =
    All (λ side. is_blank (page_at device (first_page device.size side)) ≡ true)
    (entered_by device.size step)
    × EnterBlank steps (device_after step device)

-- Steps that a device takes, and that make so many transfers, if this set of it is live at the
-- start: each enters the set that isn't live then, so the sets take turns, and the other one is the
-- first. Whatever else they program and erase is free.
pub record Transfer (transfers : ℕ) (side : Side) (steps : List Step) (device : Device)
    : Type 0 where
  pub taken : AreTaken steps device
  pub turns : entered_sets device.size steps ≡ by_turns (other side) transfers
  pub blank : EnterBlank steps device

-- ---- what they erase

-- So often at least is the first page of each set erased: that of the set that was live, and that
-- of the other, which was blank or was not. A word is programmed once between two erases of its
-- page, so a set is entered once.
pub record WearsAtLeast (transfers : ℕ) (side : Side) (steps : List Step) (device : Device)
    : Type 0 where
  pub live : transfers / 2 ≤ erases_of (first_page device.size side) steps
  pub spare : is_blank (page_at device (first_page device.size (other side))) ≡ true
      → (transfers + 1) / 2 - 1 ≤ erases_of (first_page device.size (other side)) steps
  pub pending : is_blank (page_at device (first_page device.size (other side))) ≡ false
      → (transfers + 1) / 2 ≤ erases_of (first_page device.size (other side)) steps

-- No schedule of the trace wears the first pages of its sets less than so many transfers ask, by
-- whatever steps, on whatever device it starts.
abbrev pub NoneWearsLess : Situation → List Change → ℕ → Type 0
NoneWearsLess start trace transfers =
    (schedule : List Move) (side : Side) (generation : ℕ) (steps : List Step) (device : Device)
    → IsSchedule start trace schedule
    → live_of device ≡ Some (side, generation) → Transfer (cost schedule) side steps device
    → WearsAtLeast transfers side steps device

-- It is so of as many transfers as no schedule spares. The law is proved by the
-- function of its name.
abbrev pub FewestTransfersWear : Type 0
FewestTransfersWear =
    (start : Situation) (trace : List Change) (transfers : ℕ)
    → ((schedule : List Move) → IsSchedule start trace schedule → transfers ≤ cost schedule)
    → NoneWearsLess start trace transfers
