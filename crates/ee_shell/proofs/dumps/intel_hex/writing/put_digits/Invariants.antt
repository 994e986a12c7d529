use Rattle.std.proofs.Common.{◌≡◌, ◌+◌, ◌*◌, ◌++◌, take}
use Rattle.hex.specs.Hex.{encode_upper}
use Rattle.ee_shell.proofs.dumps.intel_hex.writing.put_digits.Given as goal

-- the bytes so far are written
abbrev pub invariant-loop-byte : goal.invariant-loop-byte
invariant-loop-byte l = record {
  written : take l.at l.line ≡ take l.from l.fn.line ++ encode_upper (take l.byte-index l.bytes);
  place : l.at ≡ l.from + 2 * l.byte-index;
}
