use Rattle.std.proofs.Common.{◌≡◌}
use Rattle.ee_records.specs.Check.{remainder}
use Rattle.ee_records.proofs.check.check_of.Given as goal

abbrev pub invariant-words : goal.invariant-words
invariant-words l = l.rest ≡ remainder l.bytes l.word
