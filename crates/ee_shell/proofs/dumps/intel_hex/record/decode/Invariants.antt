use Rattle.std.proofs.Common.{◌<◌, ◌≤◌}
use Rattle.ee_shell.proofs.dumps.intel_hex.Digits.{Decoded, IsRefused}
use Rattle.ee_shell.proofs.dumps.intel_hex.record.decode.Given as goal

-- the bytes so far are decoded, or the digits are refused
abbrev pub invariant-loop-i : goal.invariant-loop-i
invariant-loop-i l = record {
  good : l.seen < 16 → Decoded l.digits l.i l.bytes;
  bad : 16 ≤ l.seen → IsRefused l.digits;
}
