use Rattle.std.proofs.Common.{◌≡◌, ◌%◌, take}
use Rattle.std.specs.List.{sum}
use Rattle.ee_shell.proofs.dumps.intel_hex.record.sum_of.Given as goal

-- the sum of the bytes so far
abbrev pub invariant-loop-byte : goal.invariant-loop-byte
invariant-loop-byte l = l.total ≡ sum (take l.byte-index l.bytes) % 256
