use Rattle.std.proofs.Common.{refl}
use Rattle.ee_core.specs.CallSteps.{map_in}
use Rattle.ee_core.specs.Course.{last_given}
use Rattle.ee_core.proofs.Courses.{further, one_taken}
use Rattle.ee_core.proofs.copying.next_given.Goals as goal

pub batches-preserved : goal.batches-preserved
batches-preserved g c =
    further (map_in c.args.layout.now.side (g.F.Flash.device c.args.flash.now))
    (last_given c.args.batch.now.found.items c.args.given.now) c.batches.batch.found.items
    c.next_batch.new.batch.found.items c.batches.batch.through c.next_batch.new.batch.through
    c.batches.given c.in-Some-through.through
    c.in_default.ensures.none c.in-Some-through.is c.batches.invariant c.next_batch.ensures.live
    c.next_batch.ensures.proper

pub returns-in-Some-clause-moved : goal.returns-in-Some-clause-moved
returns-in-Some-clause-moved g c =
    (one_taken (map_in c.args.layout.now.side (g.F.Flash.device c.args.flash.now))
    (last_given c.args.batch.now.found.items c.args.given.now) c.batches.batch.found.items
    c.batches.batch.found.items c.batches.batch.through c.batches.given c.in-Some.live
    refl c.in-Some.ensures.found.0 c.in-Some.ensures.found.1 c.batches.invariant).moved

pub returns-in-Some-clause-over : goal.returns-in-Some-clause-over
returns-in-Some-clause-over g c =
    (one_taken (map_in c.args.layout.now.side (g.F.Flash.device c.args.flash.now))
    (last_given c.args.batch.now.found.items c.args.given.now) c.batches.batch.found.items
    c.batches.batch.found.items c.batches.batch.through c.batches.given c.in-Some.live
    refl c.in-Some.ensures.found.0 c.in-Some.ensures.found.1 c.batches.invariant).over
