use Rattle.std.proofs.Common.{◌≤◌, length, sym, ap, arith}
use Rattle.ee_pages.specs.Nearest.{Batch}
use Rattle.ee_pages.proofs.BatchLists.{set_anew}
use Rattle.ee_pages.proofs.batch_items.Batch.set.Goals as goal

pub returns : goal.returns
returns c =
    let i = c.self.inside in
    let few : i.len ≤ length i.numbers = omega (arith, c.self.invariant.0, c.self.invariant.1) in
    rw (sym (ap (λ (b : Batch). b.named) c.self.view_is))
    (set_anew i.len i.numbers few c.args.place c.args.number)
