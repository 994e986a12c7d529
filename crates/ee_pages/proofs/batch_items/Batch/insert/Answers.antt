use Rattle.std.proofs.Common.{rules, ◌≤◌, length, sym, ap, arith}
use Rattle.ee_pages.specs.Nearest.{Batch}
use Rattle.ee_pages.specs.declared.batch_items.TheConstants.{BATCH}
use Rattle.ee_pages.proofs.BatchLists.{length_named, put_among}
use Rattle.ee_pages.proofs.batch_items.Batch.insert.Goals as goal

pub put_in-requires-clause-place : goal.put_in-requires-clause-place
put_in-requires-clause-place c = search (rules, length_named)

pub returns : goal.returns
returns c =
    let i = c.self.inside in
    let few : i.len ≤ length i.numbers = omega (arith, c.self.invariant.0, c.self.invariant.1) in
    let long = length_named i.len i.numbers few in
    let same = ap (λ (b : Batch). length b.named) c.self.view_is in
    rw (sym (ap (λ (b : Batch). b.named) c.self.view_is)) (put_among BATCH i.len c.args.place
    c.one_more-end.result c.args.number i.numbers _
    (omega (arith, long, same, c.requires.within)) few c.self.invariant.0
    c.one_more-end.ensures.room c.one_more-end.ensures.full c.put_in.ensures.put)
