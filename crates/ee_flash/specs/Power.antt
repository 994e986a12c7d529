-- What a call of several steps does to the power and to the cuts of its device.
use Rattle.std.specs.Prelude.{◌≡◌, ◌+◌, option_map, Result, OnOk, OnErr}
use Rattle.ee_flash.specs.Device.{Device, IsOn, IsOff}
use Rattle.ee_flash.specs.Step.{one_more}

-- power and cuts are as before; and with the power off all is as before
pub record GoesOn (old new : Device) : Type 0 where
  pub same_size : new.size ≡ old.size
  pub same_power : new.on ≡ old.on
  pub same_cuts : new.cuts ≡ old.cuts
  pub same_cuts_left : new.cuts_left ≡ old.cuts_left
  pub same_while_off : IsOff old → new ≡ old

-- power was on and was cut once: off, one cut more, and one left less where they are a number
pub record IsCut (old new : Device) : Type 0 where
  pub was_on : IsOn old
  pub is_off : IsOff new
  pub same_size : new.size ≡ old.size
  pub one_more_cut : new.cuts ≡ one_more old.cuts
  pub one_less_left : old.cuts_left ≡ option_map (λ left. left + 1) new.cuts_left

-- how a call of several steps ends: at `Ok` power and cuts are as before; at an error power was cut
-- once, or was off and nothing changed
pub record Ends {T E : Type 0} (result : Result T E) (old new : Device) : Type 0 where
  pub ok : OnOk result (GoesOn old new)
  pub cut : OnErr result (IsOn old → IsCut old new)
  pub off : OnErr result (IsOff old → new ≡ old)
