use Rattle.std.proofs.Common.{rules}
use Rattle.ee_core.specs.State.{state_of}
use Rattle.ee_core.proofs.store.Store.read_span.Goals as goal

pub returns-then-count-eq1 : goal.returns-then-count-eq1
returns-then-count-eq1 g c =
    let span = c.of_one.ensures.span (state_of c.args.self.now).map in
    search (rules, span, c.of_one.ensures.first, c.in_ok-value.ensures)
