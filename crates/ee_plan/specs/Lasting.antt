-- How long a part lasts with a store whose moves are the fewest, beside any other store of
-- its kind: how often the most worn page of each is erased. Each law is proved by the
-- function of its name.
use Rattle.std.specs.Prelude.{◌≡◌, ◌<◌, ◌≤◌, ◌⊎◌, ℕ, ◌+◌, Bool, true, false, Some, Ok, List}
use Rattle.std.specs.List.{All}
use Rattle.ee_flash.specs.Device.{Device, page_at, wear_at}
use Rattle.ee_flash.specs.Endurance.{erases_of}
use Rattle.ee_flash.specs.Size.{page_count}
use Rattle.ee_flash.specs.Step.{Step}
use Rattle.ee_pages.specs.Page.{is_blank}
use Rattle.ee_pages.specs.Sets.{first_page, live_of, other}
use Rattle.ee_pages.specs.declared.side.Side.{Side}
use Rattle.ee_core.specs.Runs.{Call, Cleaned, IsWholeRun, transfers}
use Rattle.ee_core.specs.State.{state_of}
use Rattle.ee_check.specs.declared.change.Change.{Change}
use Rattle.ee_check.specs.Schedule.{IsSchedule, Move, Situation, cost}
use Rattle.ee_plan.specs.Wearing.{Transfer}

-- A store's calls led from the old device to the new one. Whatever schedule of the trace is made on
-- the old device, by whatever steps, these erase some page as often as any page was erased in the
-- calls, but for so many erases.
abbrev pub LastsAsLong : ℕ → Situation → List Change → Device → Device → Type 0
LastsAsLong fewer start trace old new =
    (schedule : List Move) (side : Side) (generation : ℕ) (steps : List Step) (page : ℕ)
    → IsSchedule start trace schedule
    → live_of old ≡ Some (side, generation) → Transfer (cost schedule) side steps old
    → page < page_count old.size
    → (worn : ℕ) × (worn < page_count old.size)
    × (wear_at new page ≤ wear_at old page + erases_of worn steps + fewer)

-- Calls of a store, in which power is not cut, made no more transfers than any
-- schedule of the trace.
pub record MakesFewest (start : Situation) (trace : List Change) (calls : List Call)
    (old new : Device) : Type 0 where
  pub run : IsWholeRun calls old new
  pub fewest : (schedule : List Move) → IsSchedule start trace schedule
      → transfers calls ≤ cost schedule

-- Then no store lasts longer, but for one erase.
abbrev pub FewestMovesLast : Type 0
FewestMovesLast =
    (start : Situation) (trace : List Change) (calls : List Call) (old new : Device)
    → MakesFewest start trace calls old new → LastsAsLong 1 start trace old new

-- whether it is a clean step that erased a page
abbrev pub is_cleaning : Call → Bool
is_cleaning (Cleaned (Ok true)) = true
is_cleaning call = false

-- the first page of the set that isn't live waits to be erased
pub record FirstWaits (device : Device) : Type 0 where
  pub side : Side
  pub generation : ℕ
  pub live : live_of device ≡ Some (side, generation)
  pub not_blank : is_blank (page_at device (first_page device.size (other side))) ≡ false

-- And none lasts longer at all, where no clean step erased a page, and at the start no page of the
-- set that isn't live waited, or its first page did.
abbrev pub FewestMovesLastAsLong : Type 0
FewestMovesLastAsLong =
    (start : Situation) (trace : List Change) (calls : List Call) (old new : Device)
    → MakesFewest start trace calls old new → All (λ call. is_cleaning call ≡ false) calls
    → ((state_of old).pending ≡ 0) ⊎ FirstWaits old → LastsAsLong 0 start trace old new
