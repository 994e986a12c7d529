-- A call as a list of steps: what they leave, all of them or up to a cut in one. Where the fuse of
-- a device is known it says which.
use Rattle.std.specs.Prelude.{◌≡◌, ◌⊎◌, ℕ, ◌+◌, Option, Some, Result, OnOk, OnErr, List, [], ◌∷◌, ◌++◌}
use Rattle.ee_flash.specs.Device.{Device, IsOff, IsOn}
use Rattle.ee_flash.specs.Fuse.{cuts_left_of}
use Rattle.ee_flash.specs.Laws.{after_steps, all_completed}
use Rattle.ee_flash.specs.Step.{Erase, IsCutIn, IsUntouched, Program, Step}
use Rattle.ee_flash.specs.declared.fuse.Fuse.{Fuse}

-- the device is as these steps leave it, each taken whole; while power was off there are none
pub record Completes (steps : List Step) (old new : Device) : Type 0 where
  pub done : new ≡ all_completed steps old
  pub none_while_off : IsOff old → steps ≡ []

-- it is as those before one of them leave it, each taken whole, with a cut in that one
pub data IsCutAmong (steps : List Step) (old new : Device) : Type 0 where
  CutAt : (before : List Step) (step : Step) (behind : List Step)
      → steps ≡ before ++ (step ∷ behind) → IsCutIn step (all_completed before old) new
      → IsCutAmong steps old new

-- it is so; or power was off, and nothing changed
abbrev pub StopsAmong : List Step → Device → Device → Type 0
StopsAmong steps old new = IsCutAmong steps old new ⊎ IsUntouched old new

-- what a call leaves whose steps are these: at `Ok` what all leave; at an error what those before
-- one leave with a cut in it, or, where power was off, the device as it was
pub record Takes {T E : Type 0} (result : Result T E) (steps : List Step) (old new : Device)
    : Type 0 where
  pub done : OnOk result (Completes steps old new)
  pub cut : OnErr result (StopsAmong steps old new)

-- what is known of the fuse of a device in memory: all; and the cuts left are those that it makes
pub record HasFuse (device : Device) : Type 0 where
  pub fuse : Option Fuse
  pub known : device.fuse ≡ Some fuse
  pub left : device.cuts_left ≡ cuts_left_of fuse

-- So where the fuse is known a call is a function: its steps, each whole or cut by the fuse, leave
-- the device, and it is on behind them where the call was answered `Ok`, and off where it was cut.
abbrev pub FuseDecides : Type 0
FuseDecides =
    (steps : List Step) (old new : Device) → HasFuse old → HasFuse new → IsOn old
    → (Completes steps old new → (new ≡ after_steps steps old) × IsOn new)
    × (IsCutAmong steps old new → (new ≡ after_steps steps old) × IsOff new)

-- how many words they program
abbrev pub words_programmed : List Step → ℕ
words_programmed [] = 0
words_programmed (Program page at value ∷ steps) = words_programmed steps + 1
words_programmed (Erase page ∷ steps) = words_programmed steps

-- how many pages they erase, one page perhaps several times
abbrev pub pages_erased : List Step → ℕ
pages_erased [] = 0
pages_erased (Program page at value ∷ steps) = pages_erased steps
pages_erased (Erase page ∷ steps) = pages_erased steps + 1
