use Rattle.std.proofs.Common.{length, nat_lt}
use Rattle.ee_index.specs.Index.{PassesHidden}
use Rattle.ee_index.proofs.reading.next_shown.Given as goal

abbrev pub invariant-entries : goal.invariant-entries
invariant-entries l = PassesHidden (λ number. nat_lt number l.fill) l.entries l.left

abbrev pub decreases-entries : goal.decreases-entries
decreases-entries l = length l.left
