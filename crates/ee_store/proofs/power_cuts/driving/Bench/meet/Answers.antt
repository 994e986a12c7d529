use Rattle.std.proofs.Common.{rules}
use Rattle.ee_store.specs.PowerCuts.Bench.{point_of_bench}
use Rattle.ee_store.proofs.power_cuts.driving.Bench.meet.Goals as goal

pub returns-in-Reopen : goal.returns-in-Reopen
returns-in-Reopen g c =
    search (rules, c.reopen.ensures (point_of_bench g.F.Flash.device c.args.self))

pub returns-in-Reopen-event : goal.returns-in-Reopen-event
returns-in-Reopen-event g c =
    search (rules, c.reopen-in-Reopen-event.ensures (point_of_bench g.F.Flash.device c.args.self))

pub returns-in-Start : goal.returns-in-Start
returns-in-Start g c =
    search (rules, c.start_up.ensures (point_of_bench g.F.Flash.device c.args.self))

pub returns-in-Start-event : goal.returns-in-Start-event
returns-in-Start-event g c =
    search (rules, c.start_up-in-Start-event.ensures (point_of_bench g.F.Flash.device c.args.self))

pub returns-in-Clean : goal.returns-in-Clean
returns-in-Clean g c = search rules fits 100 parts 0
