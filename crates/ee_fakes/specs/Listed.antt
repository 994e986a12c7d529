-- A device whose steps meet the fates of a list.
use Rattle.std.specs.Prelude.{◌≡◌, List, None, drop, if◌then◌else◌}
use Rattle.ee_flash.specs.Device.{Device, IsOn}
use Rattle.ee_flash.specs.Pages.{pages_of}
use Rattle.ee_flash.specs.Step.{Step}
use Rattle.ee_fakes.specs.Fate.{next_fate, device_after_fate}
use Rattle.ee_fakes.specs.declared.fate.Fate.{Fate}
use Rattle.ee_fakes.specs.declared.fate.Fate.TheVariants.{Done}
use Rattle.ee_fakes.specs.declared.list.ListFlash.{ListFlash}

-- a device, and the fates of its steps to come
pub record Listed : Type 0 where
  pub device : Device
  pub fates : List Fate

module _ {A : Type 0} where
  -- the device, of which any number of cuts may still come
  abbrev pub device_of_list : ListFlash A → Device
  device_of_list flash = record {
    size = flash.shape;
    image = pages_of flash.shape flash.cells.items;
    wear = flash.wear.items;
    cuts = flash.cuts;
    cuts_left = None;
    fuse = None;
    on = flash.on;
  }

  abbrev pub state_of_list : ListFlash A → Listed
  state_of_list flash = record { device = device_of_list flash; fates = flash.fates.now }

-- what a step leaves: nothing changes while power is off; else it takes the first fate of the list
abbrev pub after_listed_step : Step → Listed → Listed
after_listed_step step old =
    if old.device.on then record {
      device = device_after_fate step (next_fate old.fates) old.device;
      fates = drop 1 old.fates;
    } else old

-- the step that comes is done
abbrev pub IsNextDone : Listed → Type 0
IsNextDone old = IsOn old.device × (next_fate old.fates ≡ Done)
