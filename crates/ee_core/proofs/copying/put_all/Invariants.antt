use Rattle.ee_pages.specs.Sets.{other}
use Rattle.ee_core.specs.CallSteps.{IsBehind}
use Rattle.ee_core.proofs.Fillings.{FilledBy}
use Rattle.ee_core.proofs.copying.put_all.Given as goal

abbrev pub invariant-puts : goal.invariant-puts
invariant-puts g l =
    let old = g.F.Flash.device l.fn.flash in
    let now = g.F.Flash.device l.flash in
    record {
      filled : FilledBy old l.layout l.puts l.put-index now l.place.slot;
      behind : IsBehind now.size (other l.layout.side) l.place;
    }
