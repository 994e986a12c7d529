-- Where a device stands between calls: whether a store is open on it, and whether power is on.
use Rattle.std.specs.Prelude.{Bool, true, false}
use Rattle.ee_flash.specs.Device.{Device}

-- power is on, and nothing else changed
abbrev pub with_power_on : Device → Device
with_power_on device = record device { on = true }

-- whether a store is open on a device that is on, and the device
pub record Point : Type 0 where
  pub serving : Bool
  pub device : Device

-- no store is open on the device
abbrev pub closed_point : Device → Point
closed_point device = record { serving = false; device = device }

-- a store of this device is open, while it is on
abbrev pub open_point : Device → Point
open_point device = record { serving = device.on; device = device }
