use Rattle.std.proofs.Common.{Some, None}
use Rattle.std.proofs.lemmas.Result.{IfOk-weaker}
use Rattle.ee_commands.proofs.Ledgers.{wear_memory, wear_names}
use Rattle.ee_commands.proofs.wear.ledger_told.Goals as goal

pub returns-in-None-clause-names : goal.returns-in-None-clause-names
returns-in-None-clause-names g c =
    rw c.in-None.is
    (wear_names c.read_ledger.result c.args.image.now None
    c.read_ledger.ensures.counts c.read_ledger.ensures.fault)

pub returns-in-Some-clause-names : goal.returns-in-Some-clause-names
returns-in-Some-clause-names g c =
    rw c.in-Some.is
    (wear_names c.wear_since.result c.args.image.now (Some c.in-Some.before.now)
    c.wear_since.ensures.counts c.wear_since.ensures.fault)

pub returns-in-None-clause-memory : goal.returns-in-None-clause-memory
returns-in-None-clause-memory g c =
    rw c.in-None.is
    (IfOk-weaker c.read_ledger.result _ _ (λ counts. wear_memory c.args.image.now None counts)
    c.read_ledger.ensures.counts)
