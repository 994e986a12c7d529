use Rattle.std.proofs.Common.{◌≡◌}
use Rattle.std.specs.Prelude.{bit_xor}
use Rattle.ee_shell.specs.Xcube.Element.{crc_bits_further}
use Rattle.ee_shell.proofs.xcube.element.half_further.Given as goal

abbrev pub invariant-bits : goal.invariant-bits
invariant-bits l = l.rest ≡ crc_bits_further l._bit (bit_xor l.before l.half)
