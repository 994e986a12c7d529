use Rattle.ee_nor.proofs.Wipes.{all_wiped, wiped_is_high}
use Rattle.ee_nor.proofs.pairs.Pairs.wipe.Goals as goal

pub invariant_of-result : goal.invariant_of-result
invariant_of-result g c = record {
  safe =
      λ keeps may. rw c.in-Ok.ensures.wiped (wiped_is_high _ (g.met.N.Nor.formed c.args.nor));
}

pub returns-in-Ok-clause-blank : goal.returns-in-Ok-clause-blank
returns-in-Ok-clause-blank g c =
    λ page at. rw c.in-Ok.ensures.wiped (all_wiped _ (g.met.N.Nor.formed c.args.nor) page at)
