use Rattle.std.proofs.Common.{inr, sym, subst}
use Rattle.ee_flash.specs.Device.{Device}
use Rattle.ee_pages.specs.Layout.{IsScanFault}
use Rattle.ee_core.proofs.Startable.{scan_fails}
use Rattle.ee_core.proofs.first_start.start_on.Goals as goal

pub returns-in-Ok : goal.returns-in-Ok
returns-in-Ok g c =
    record { started = inr c.in-Ok.ensures.opened; layout = c.in-Ok.ensures.layout; failed = tt }

pub returns-in_default : goal.returns-in_default
returns-in_default g c = record {
  started = tt;
  layout = tt;
  failed = rw c.in_default.is (inr (rw c.in_default.is at c.in-Err.ensures.failed));
}

pub is_startable-requires : goal.is_startable-requires
is_startable-requires g c =
    let old = g.F.Flash.device c.args.flash.now in
    let now = g.F.Flash.device c.open_on.new.flash in
    let left =
    scan_fails old now c.in-Err.fault c.in-Scan.scan c.in-Scan.is c.in-Err.ensures.failed in
    subst (λ (device : Device). IsScanFault device c.in-Scan.scan) (sym left.1) left.0
