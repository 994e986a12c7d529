-- A draft: a device as it was, and the steps that were listed since.
use Rattle.std.specs.Prelude.{◌≡◌, ℕ, Bool, None, List}
use Rattle.ee_flash.specs.Device.{Device, IsFormed, IsOn}
use Rattle.ee_flash.specs.Laws.{all_completed}
use Rattle.ee_flash.specs.Step.{Step}

-- a device that was never cut, is on, and may be cut any number of times
pub record IsFresh (device : Device) : Type 0 where
  pub formed : IsFormed device
  pub on : IsOn device
  pub never_cut : device.cuts ≡ 0
  pub any_cuts : device.cuts_left ≡ None
  pub no_fuse_known : device.fuse ≡ None

-- the device after the listed steps, with its wears, its cuts and its power, which a step that
-- found no place in the list has changed
abbrev pub drafted_device : Device → List Step → List ℕ → ℕ → Bool → Device
drafted_device start steps wear cuts on = record {
  size = start.size;
  image = (all_completed steps start).image;
  wear = wear;
  cuts = cuts;
  cuts_left = None;
  fuse = None;
  on = on;
}
