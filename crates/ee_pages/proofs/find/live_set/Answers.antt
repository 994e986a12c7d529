use Rattle.std.proofs.Common.{arith}
use Rattle.ee_pages.proofs.Scans.{first_live, none_live, second_live}
use Rattle.ee_pages.proofs.find.live_set.Goals as goal

pub returns-then-second-first-clause-live : goal.returns-then-second-first-clause-live
returns-then-second-first-clause-live g c = search (first_live (g.F.Flash.device c.args.flash.now)
    c.in-Some-Some.first c.in-Some-Some.second c.in-Some-Some.ensures.generation
    c.in-Some-Some.ensures'.generation c.if-second-first.true)

pub returns-else-second-first-clause-live : goal.returns-else-second-first-clause-live
returns-else-second-first-clause-live g c =
    second_live (g.F.Flash.device c.args.flash.now) c.in-Some-Some.first c.in-Some-Some.second
    c.in-Some-Some.ensures.generation c.in-Some-Some.ensures'.generation
    (omega (arith, c.if-second-first.false, c.if-first-second.false))

pub returns-then-first-second-clause-none : goal.returns-then-first-second-clause-none
returns-then-first-second-clause-none g c =
    none_live (g.F.Flash.device c.args.flash.now) c.in-Some-Some.first c.in-Some-Some.second
    c.in-Some-Some.ensures.generation c.in-Some-Some.ensures'.generation c.if-first-second.true
