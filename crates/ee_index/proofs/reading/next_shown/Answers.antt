use Rattle.std.proofs.Common.{nat_lt, arith}
use Rattle.std.proofs.lemmas.Bool.{le-ltb}
use Rattle.ee_index.proofs.IndexReaders.{passes_one}
use Rattle.ee_index.proofs.reading.next_shown.Goals as goal

pub entries-preserved : goal.entries-preserved
entries-preserved c =
    passes_one (λ number. nat_lt number c.args.fill) _ _ c.in-Some.rest.now c.in-Some.entry.now
    c.entries.invariant c.in-Some.ensures.cases.0
    (le-ltb c.in-Some.entry.now.1 c.args.fill (omega (arith, c.if-from-fill.false, c.from.ensures)))
