-- proofs/numbers/value_of_digits/Invariants.antt
use Rattle.std.proofs.Common.{◌^◌, ◌<◌, drop}
use Rattle.ee_text.proofs.Digits.{IsReadUpTo}
use Rattle.ee_text.proofs.numbers.value_of_digits.Given as goal

abbrev pub invariant-loop-byte : goal.invariant-loop-byte
invariant-loop-byte l =
    (l.value < 2 ^ 64) × IsReadUpTo l.digits (drop l.byte-index l.digits) l.value
