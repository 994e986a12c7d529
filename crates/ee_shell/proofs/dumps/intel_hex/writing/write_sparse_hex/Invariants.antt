use Rattle.std.proofs.Common.{◌≡◌, ◌≤◌, ◌+◌, ◌-◌, ◌++◌, [], length, take, drop}
use Rattle.ee_shell.proofs.dumps.intel_hex.Sparse.{sparse_left}
use Rattle.ee_shell.proofs.dumps.intel_hex.writing.write_sparse_hex.Given as goal

-- what is written and what is left are the text
abbrev pub invariant-loop-met : goal.invariant-loop-met
invariant-loop-met g l = record {
  text : l.out.items ++ sparse_left l.size l.place (take l.met l.rest) (drop l.met l.rest)
      ≡ sparse_left l.size l.fn.base [] l.fn.bytes;
  within : l.met ≤ length l.rest;
  place : l.place + length l.rest ≡ l.fn.base + length l.fn.bytes;
}

abbrev pub decreases-loop-met : goal.decreases-loop-met
decreases-loop-met g l = length l.rest - l.met
