use Rattle.ee_core.specs.State.{state_of}
use Rattle.ee_records.proofs.reading.value_near.Goals as goal

pub returns-in-Some-clause-value : goal.returns-in-Some-clause-value
returns-in-Some-clause-value g c =
    c.in-Some.ensures.value (state_of c.args.store.now).map c.requires.near

pub returns-clause-value : goal.returns-clause-value
returns-clause-value g c =
    c.in_ok-get.ensures.value (state_of c.args.store.now).map c.in-Ok.ensures.2
