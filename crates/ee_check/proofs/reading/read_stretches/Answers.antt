use Rattle.ee_check.proofs.Texts.{one_read}
use Rattle.ee_check.proofs.reading.read_stretches.Goals as goal

pub loop-stretch-preserved : goal.loop-stretch-preserved
loop-stretch-preserved g c =
    let read =
    one_read c.args.text.now c.loop-stretch.stretches.items c.push.new.self.items
    c.in-Some.stretch c.loop-stretch.rest.now c.in-Some.more.now
    c.loop-stretch.invariant.lines c.loop-stretch.invariant.proper c.in-Some.ensures.found
    c.in_ok-push.ensures.items in
    record { lines = read.0; proper = read.1 }
