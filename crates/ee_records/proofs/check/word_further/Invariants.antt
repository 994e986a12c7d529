use Rattle.std.proofs.Common.{◌≡◌}
use Rattle.std.specs.Prelude.{bit_xor}
use Rattle.ee_records.specs.Check.{bits_further}
use Rattle.ee_records.proofs.check.word_further.Given as goal

abbrev pub invariant-bits : goal.invariant-bits
invariant-bits l = l.rest ≡ bits_further l._bit (bit_xor l.before l.word)
