-- Where a desk is: its device, and whether a store is open on it.
use Rattle.std.specs.Prelude.{◌≡◌, Bool, true, false, Err}
use Rattle.ee_flash.specs.Device.{Device, IsOn}
use Rattle.ee_core.specs.Points.{Point, closed_point, open_point}
use Rattle.ee_core.specs.Runs.{Call, Cleaned, DidRead, Follows, Forgot, Wrote}
use Rattle.ee_core.specs.State.{state_of}
use Rattle.ee_core.specs.declared.variables.ForgetFault.TheVariants as forgetting
use Rattle.ee_core.specs.declared.variables.WriteFault.TheVariants as fault

-- where no store is open, a call is answered that it is off
abbrev pub IsOffCall : Call → Type 0
IsOffCall (Wrote address value (Err fault.Off)) = Unit {0}
IsOffCall (Forgot address (Err forgetting.Off)) = Unit {0}
IsOffCall (Cleaned (Err fault.Off)) = Unit {0}
IsOffCall (DidRead address (Err off)) = Unit {0}
IsOffCall call = ⊥

-- a call at a desk, by whether a store is open
abbrev pub CallsAtDesk : Bool → Device → Call → Point → Type 0
CallsAtDesk true old made new =
    IsOn old × Follows made old new.device × (new ≡ open_point new.device)
CallsAtDesk false old made new = IsOffCall made × (new ≡ closed_point old)

-- the size is as before, and what the image says
pub record SaysTheSame (old new : Device) : Type 0 where
  pub same_size : new.size ≡ old.size
  pub state_is : state_of new ≡ state_of old
