use Rattle.ee_nor.proofs.CodedLemmas.Wipes.{all_wiped, wiped_is_over}
use Rattle.ee_nor.proofs.coded.coded.Coded.wipe.Goals as goal

pub invariant_of-result : goal.invariant_of-result
invariant_of-result g c = record {
  safe = λ may. rw c.in-Ok.ensures.wiped (wiped_is_over _ (g.met.N.EccNor.formed c.args.nor));
}

pub returns-in-Ok-clause-blank : goal.returns-in-Ok-clause-blank
returns-in-Ok-clause-blank g c =
    λ page at. rw c.in-Ok.ensures.wiped (all_wiped _ (g.met.N.EccNor.formed c.args.nor) page at)
