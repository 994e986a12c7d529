use Rattle.ee_core.proofs.Words.{subst, arith, All, take_all}
use Rattle.ee_core.proofs.Sets.{IsAddress}
use Rattle.ee_core.specs.declared.change.Put.{Put}
use Rattle.ee_core.proofs.puts.first_twice.Goals as goal

pub returns-clause-proper : goal.returns-clause-proper
returns-clause-proper c =
    subst (All (λ (put : Put). IsAddress put.address))
    (take_all c.entries.place c.args.puts.now (omega (arith, c.entries-test.false)))
    c.entries.invariant.proper
