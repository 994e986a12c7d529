-- A device in memory, with its fuse.
use Rattle.std.specs.Prelude.{◌≡◌, ℕ, Some, None, is_some, if◌then◌else◌}
use Rattle.ee_flash.specs.Device.{Device, IsOn}
use Rattle.ee_flash.specs.Step.{Step, device_by_fuse, one_more, with_fuse_burnt, with_power_cut}
use Rattle.ee_flash.specs.Fuse.{cuts_left_of, known_tear}
use Rattle.ee_flash.specs.Kept.{words_of}
use Rattle.ee_flash.specs.Pages.{pages_of}
use Rattle.ee_flash.specs.declared.fuse.Fuse.{Fuse}
use Rattle.ee_flash.specs.declared.memory.MemFlash.{MemFlash}

-- a device, and the steps that began while it was on
pub record Memory : Type 0 where
  pub device : Device
  pub steps : ℕ

module _ {A : Type 0} where
  -- the device that is kept in memory
  abbrev pub device_of : MemFlash A → Device
  device_of flash = record {
    size = flash.shape;
    image = pages_of flash.shape (words_of flash.cells);
    wear = flash.wear.items;
    cuts = flash.cuts;
    cuts_left = cuts_left_of flash.fuse;
    fuse = Some flash.fuse;
    on = flash.on;
  }

  abbrev pub memory_of : MemFlash A → Memory
  memory_of flash = record { device = device_of flash; steps = flash.steps }

-- with this device
abbrev pub with_device : Device → Memory → Memory
with_device device memory = record memory { device = device }

-- a device that no step has met
abbrev pub unused_memory : Device → Memory
unused_memory device = record { device = device; steps = 0 }

-- with this fuse
abbrev pub with_fuse : Fuse → Device → Device
with_fuse fuse device =
    record device { cuts_left = cuts_left_of (Some fuse); fuse = Some (Some fuse) }

-- how a step begins: it is counted, the fuse burns down by one, and power is cut if the fuse says
-- so
abbrev pub with_step_begun : Memory → Memory
with_step_begun memory = record {
  device =
      if is_some (known_tear memory.device.fuse) then with_power_cut memory.device
      else with_fuse_burnt memory.device;
  steps = one_more memory.steps;
}

-- what a step leaves: nothing changes while power is off; else the step is counted, the fuse burns
-- down by one, and the step is whole, or cut by the fuse
abbrev pub after_step : Step → Memory → Memory
after_step step memory =
    if memory.device.on then
    record { device = device_by_fuse step memory.device; steps = one_more memory.steps }
    else memory

-- the step that comes is done
abbrev pub Passes : Memory → Type 0
Passes memory = IsOn memory.device × (known_tear memory.device.fuse ≡ None)
