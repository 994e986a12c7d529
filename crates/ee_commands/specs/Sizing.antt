-- How large a part must be for a script that is made many times over: what each number of
-- pages in a set comes to.
use Rattle.std.specs.Prelude.{◌≡◌, ◌<◌, ◌≤◌, ℕ, ◌+◌, ◌-◌, ◌/◌, ◌&&◌, Bool, false, nat_le, nat_lt, if◌then◌else◌, List, [], ◌∷◌, ◌++◌, length, decimal, codes, Option, Some, None}
use Rattle.std.specs.List.{list_any}
use Rattle.ee_flash.specs.Device.{Device}
use Rattle.ee_flash.specs.Endurance.{AreTaken, erases_of, least_wear, programs}
use Rattle.ee_flash.specs.Size.{page_count, size_of, slot_count}
use Rattle.ee_flash.specs.Step.{Step}
use Rattle.ee_core.specs.Changes.{greatest_generation}
use Rattle.ee_text.specs.Field.{joined_fields}
use Rattle.ee_text.specs.Line.{line_of}
use Rattle.ee_check.specs.declared.change.Change.{Change}
use Rattle.ee_plan.specs.Planner.Rounds.{IsDemand, repeated_trace, unused_situation}
use Rattle.ee_plan.specs.Wearing.{NoneWearsLess}
use Rattle.ee_plan.specs.declared.planner.demand.Demand.{Demand}
use Rattle.ee_plan.specs.declared.planner.demand.Demand.TheVariants.{Transfers, NotFitting}
use Rattle.ee_interface.specs.Fault.{fault_of_script}
use Rattle.ee_interface.specs.declared.fault.Fault.{Fault}
use Rattle.ee_commands.specs.Planning.{IsTrace, IsTraceFault, NamesFault}

-- ---- how often pages are erased

-- how often any page is erased at the most, from a fresh image on: at every second transfer,
-- rounded up (`ee_store`'s law `each_page_wears_every_second_transfer`); a store that is asked for
-- the changes keeps to it (the law `each_size_wears_as_told`)
abbrev pub erases_for : ℕ → ℕ
erases_for transfers = (transfers + 1) / 2

-- how often some page is erased at the least, by any store that appends each change and transfers
-- when it likes: at every second transfer, rounded down (`ee_plan`'s law `fewest_transfers_wear`)
abbrev pub least_for : ℕ → ℕ
least_for transfers = transfers / 2

-- how often some page of two sets is erased at the least, by any store that programs a word for
-- each of so many changes (`ee_flash`'s law `some_page_wears`)
abbrev pub limit_for : ℕ → ℕ → ℕ → ℕ
limit_for pages words changes = least_wear (size_of pages words) changes

-- What carries the two: no schedule of the trace erases less, on any device; no steps do, on a
-- device of this size. And neither is above the one that follows.
pub record AreWears (pages words : ℕ) (trace : List Change) (transfers : ℕ) : Type 0 where
  pub least : NoneWearsLess (unused_situation (slot_count (size_of pages words))) trace transfers
  pub limit : (steps : List Step) (device : Device) → AreTaken steps device
      → device.size ≡ size_of pages words → length trace ≤ programs steps
      → (page : ℕ) × (page < page_count device.size)
      × (limit_for pages words (length trace) ≤ erases_of page steps)
  pub limit_below : limit_for pages words (length trace) ≤ least_for transfers
  pub least_below : least_for transfers ≤ erases_for transfers

-- of a demand on sets of so many pages of so many words, where the trace fits
abbrev pub WearsOf : ℕ → ℕ → List Change → Demand → Type 0
WearsOf pages words trace (Transfers transfers) = AreWears pages words trace transfers
WearsOf pages words trace (NotFitting n) = Unit {0}

-- of each demand, of which the first is that of so many pages
abbrev pub EachWears : ℕ → List Change → ℕ → List Demand → Type 0
EachWears words trace pages [] = Unit {0}
EachWears words trace pages (demand ∷ demands) =
    WearsOf pages words trace demand × EachWears words trace (pages + 1) demands

-- ---- verdicts

-- a store that was just formatted has generation 1, so it transfers so often at the most
abbrev pub most_transfers : ℕ
most_transfers = greatest_generation - 1

-- whether the generations are used up before so many transfers
abbrev pub is_spent_by : ℕ → Bool
is_spent_by transfers = nat_lt most_transfers transfers

-- whether the generations suffice, and no page is erased more often than so many times
abbrev pub is_enough : ℕ → Demand → Bool
is_enough cycles (Transfers transfers) =
    nat_le transfers most_transfers && nat_le (erases_for transfers) cycles
is_enough cycles (NotFitting n) = false

-- the words for a size: the generations are used up; no page is erased more often than it bears;
-- some page is, in every store that programs a word for each change, in every store that
-- transfers, or in this one
abbrev pub verdict : ℕ → ℕ → ℕ → List ℕ
verdict cycles transfers limit =
    (if is_spent_by transfers then codes "spent"
    else if is_enough cycles (Transfers transfers) then codes "enough"
    else if nat_lt cycles limit then codes "worn for any"
    else if nat_lt cycles (least_for transfers) then codes "worn for all"
    else codes "worn")

-- ---- lines

-- the numbers of a size whose sets the trace fits
abbrev pub numbers_text : ℕ → ℕ → ℕ → ℕ → ℕ → ℕ → List ℕ
numbers_text pages slots transfers erases least limit =
    joined_fields (codes "pages" ∷ decimal pages ∷ codes "slots" ∷ decimal slots ∷ codes "transfers"
    ∷ decimal transfers ∷ codes "erases"
    ∷ decimal erases ∷ codes "least" ∷ decimal least ∷ codes "limit" ∷ decimal limit ∷ [])

-- what its line says
abbrev pub fitting_text : ℕ → ℕ → ℕ → ℕ → ℕ → List ℕ
fitting_text cycles pages slots transfers limit =
    joined_fields
    (numbers_text pages slots transfers (erases_for transfers) (least_for transfers) limit
    ∷ verdict cycles transfers limit ∷ [])

-- and where it doesn't fit: the first change that doesn't
abbrev pub not_fitting_text : ℕ → ℕ → ℕ → List ℕ
not_fitting_text pages slots n =
    joined_fields
    (codes "pages" ∷ decimal pages ∷ codes "slots" ∷ decimal slots ∷ codes "not"
    ∷ codes "fitting" ∷ decimal n ∷ [])

-- what is told of a demand on sets of so many pages of so many words, where the trace
-- has so many changes
abbrev pub sizing_text : ℕ → ℕ → ℕ → ℕ → Demand → List ℕ
sizing_text words cycles changes pages (Transfers transfers) =
    fitting_text cycles pages (slot_count (size_of pages words)) transfers
    (limit_for pages words changes)
sizing_text words cycles changes pages (NotFitting n) =
    not_fitting_text pages (slot_count (size_of pages words)) n

-- a line for each demand, of which the first is that of so many pages
abbrev pub size_lines : ℕ → ℕ → ℕ → ℕ → List Demand → List ℕ
size_lines words cycles changes pages [] = []
size_lines words cycles changes pages (demand ∷ demands) =
    line_of (sizing_text words cycles changes pages demand)
    ++ size_lines words cycles changes (pages + 1) demands

-- the fewest pages that are enough, of demands of which the first is that of so many pages
abbrev pub fewest_enough : ℕ → ℕ → List Demand → Option ℕ
fewest_enough cycles pages [] = None
fewest_enough cycles pages (demand ∷ demands) =
    if is_enough cycles demand then Some pages else fewest_enough cycles (pages + 1) demands

-- the line that names them, where there are some
abbrev pub fewest_text : Option ℕ → List ℕ
fewest_text None = []
fewest_text (Some pages) =
    line_of (joined_fields (codes "fewest" ∷ codes "pages" ∷ decimal pages ∷ []))

-- what the trace demands of fresh sets, each of a page more, of which the first has so many
abbrev pub AreDemands : ℕ → List Change → ℕ → List Demand → Type 0
AreDemands words trace pages [] = Unit {0}
AreDemands words trace pages (demand ∷ demands) =
    IsDemand (unused_situation (slot_count (size_of pages words))) trace demand
    × AreDemands words trace (pages + 1) demands

-- The changes of the script, made so many times, are so many, and demand this of the sets of 1 to
-- 64 pages, whose numbers of erases no store has fewer of.
pub record AreNeeds (words : ℕ) (text : List ℕ) (runs changes : ℕ) (demands : List Demand)
    : Type 0 where
  pub trace : List Change
  pub trace_is : IsTrace text trace
  pub demanded : AreDemands words (repeated_trace runs trace) 1 demands
  pub each_size : length demands ≡ 64
  pub wears : EachWears words (repeated_trace runs trace) 1 demands
  pub changes_are : changes ≡ length (repeated_trace runs trace)

-- A line is told of each of these demands, the fewest pages that are enough, and whether there are
-- some.
pub record IsSized (words : ℕ) (text : List ℕ) (cycles runs : ℕ) (told : List ℕ)
    (some_enough : Bool) : Type 0 where
  pub changes : ℕ
  pub demands : List Demand
  pub needs : AreNeeds words text runs changes demands
  pub text_is : told ≡ size_lines words cycles changes 1 demands
      ++ fewest_text (fewest_enough cycles 1 demands)
  pub enough_is : some_enough ≡ list_any (is_enough cycles) demands

-- why no size is told: the script's first bad line, as of a trace; or memory ran out
abbrev pub IsSizingFault : List ℕ → Fault → Type 0
IsSizingFault text fault = NamesFault fault_of_script (IsTraceFault text) fault
