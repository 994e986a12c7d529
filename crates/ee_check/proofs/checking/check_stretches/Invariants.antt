use Rattle.std.proofs.Common.{◌≡◌}
use Rattle.ee_check.proofs.Flaws.{IsSoFar}
use Rattle.ee_check.proofs.checking.check_stretches.Given as goal

-- the stretches so far are forced, and the walk stands where the last of them ends
abbrev pub invariant-loop-stretch : goal.invariant-loop-stretch
invariant-loop-stretch g l = record {
  counted : l.count ≡ l.stretch-index;
  so_far : IsSoFar l.fn.start l.fn.trace l.stretches l.stretch-index l.walk;
}
