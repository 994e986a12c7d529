-- Laws of ledgers: each is proved by the function of its name.
use Rattle.std.specs.Prelude.{◌≡◌, ◌<◌, ℕ, ◌+◌, List}
use Rattle.std.specs.List.{sum}
use Rattle.ee_flash.specs.Device.{Device, IsOn, all_ones, wear_at}
use Rattle.ee_flash.specs.Step.{Step, Program, Erase}
use Rattle.ee_flash.specs.Laws.{IsStep}
use Rattle.ee_wear.specs.Since.{NoneFell, differences}
use Rattle.ee_flash.specs.Wear.{total_wear_of}

-- where no page fell, the differences together are the difference of the totals
abbrev pub DifferencesAddUp : Type 0
DifferencesAddUp =
    (before now : List ℕ) → NoneFell before now
    → sum before + sum (differences before now) ≡ sum now

-- whatever a step leaves, no page has less wear than before
abbrev pub NoWearFalls : Type 0
NoWearFalls = (step : Step) (old new : Device) → IsStep step old new → NoneFell old.wear new.wear

-- whatever a program leaves, the total wear is as before
abbrev pub ProgramsWearNothing : Type 0
ProgramsWearNothing =
    (page at value : ℕ) (old new : Device) → IsStep (Program page at value) old new
    → total_wear_of new ≡ total_wear_of old

-- whatever an erase leaves that starts on a page below the greatest wear, the total wear is one
-- more
abbrev pub ErasesWearOne : Type 0
ErasesWearOne =
    (page : ℕ) (old new : Device) → IsStep (Erase page) old new → IsOn old
    → wear_at old page < all_ones → total_wear_of new ≡ total_wear_of old + 1

-- where no page has less wear than at a point between, and there none less than before, none
-- has less than before
abbrev pub NoneFellThroughout : Type 0
NoneFellThroughout =
    (before between now : List ℕ) → NoneFell before between → NoneFell between now
    → NoneFell before now
