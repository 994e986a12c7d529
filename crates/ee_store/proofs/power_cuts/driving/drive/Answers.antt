use Rattle.std.proofs.Common.{rules, ◌≡◌, ◌++◌}
use Rattle.ee_store.proofs.PowerCutsLemmas.WholeDrives.{drives}
use Rattle.ee_store.proofs.PowerCutsLemmas.TurnByTurn.{next_met, noted_of}
use Rattle.ee_store.specs.PowerCuts.Bench.{point_of_bench}
use Rattle.ee_store.proofs.power_cuts.driving.drive.Goals as goal
use Rattle.ee_store.proofs.power_cuts.driving.drive.Goals.{in-Some, in_default}

pub events-preserved : goal.events-preserved
events-preserved g c =
    let noted : c.match-note.kept.items
    ≡ c.events.kept.items ++ noted_of c.meet-next.result.1.found =
    elim c.match-note.branch [ in-Some w ↦ search rules | in_default w ↦ search rules ] in
    let met =
    next_met (g.F.Flash.device c.args.flash) c.args.events.now c.events.event-index
    c.event-item.result c.events.log.items c.push_reserved.new.self.items
    c.events.kept.items c.match-note.kept.items
    c.meet-next.result.1.answer c.meet-next.result.1.found
    (point_of_bench g.F.Flash.device c.events.bench)
    (point_of_bench g.F.Flash.device c.meet-next.result.0) c.events.invariant.met in
    search (rules, met)

pub returns-clause-driven : goal.returns-clause-driven
returns-clause-driven g c =
    let drives =
    drives (g.F.Flash.device c.args.flash) (g.F.Flash.device c.into_flash.result)
    c.args.events.now c.events.event-index c.events.log.items c.events.kept.items
    (point_of_bench g.F.Flash.device c.events.bench) (g.met.F.Flash.formed c.args.flash) in
    search (rules, drives)
