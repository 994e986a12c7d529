use Rattle.ee_store.proofs.PowerCutsLemmas.EmptiedMaps.{told_empty}
use Rattle.ee_store.proofs.power_cuts.driving.is_emptied.Goals as goal

pub returns-in-Ok : goal.returns-in-Ok
returns-in-Ok g c =
    told_empty (g.F.Flash.device c.args.flash.now) c.in-Ok.layout c.next_live.result
    c.is_none.result c.in-Ok.ensures.layout c.next_live.ensures.next c.is_none.ensures
