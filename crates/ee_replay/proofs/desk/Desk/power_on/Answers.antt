use Rattle.std.proofs.Common.{ap}
use Rattle.ee_flash.specs.Device.{Device}
use Rattle.ee_replay.proofs.Powering.{opens_well, powered}
use Rattle.ee_replay.proofs.desk.Desk.power_on.Goals as goal

pub unreachable-requires : goal.unreachable-requires
unreachable-requires g c =
    opens_well _ _ _ _ _ (powered c.self.inside.flash c.power_on.new.self c.power_on.ensures)
    c.self.invariant.store.legal c.in-Err-Scan.field-0-is
    (c.in-Err-Scan.ensures).failed

pub open_on-requires : goal.open_on-requires
open_on-requires g c =
    ap (λ (device : Device). device.on)
    (powered c.self.inside.flash c.power_on.new.self c.power_on.ensures)
