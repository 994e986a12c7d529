use Rattle.std.proofs.Common.{◌≡◌, ◌+◌, ◌++◌, None, length}
use Rattle.ee_shell.proofs.dumps.intel_hex.Written.{text_left}
use Rattle.ee_shell.proofs.dumps.intel_hex.writing.push_rows.Given as goal

-- what is written and what is left are the rows
abbrev pub invariant-loop-rest : goal.invariant-loop-rest
invariant-loop-rest g l = record {
  text : l.out.items ++ text_left l.told l.place l.rest
      ≡ l.fn.out.items ++ text_left None l.fn.from l.fn.bytes;
  place : l.place + length l.rest ≡ l.fn.from + length l.fn.bytes;
}

abbrev pub decreases-loop-rest : goal.decreases-loop-rest
decreases-loop-rest g l = length l.rest
