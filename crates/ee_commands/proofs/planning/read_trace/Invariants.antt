use Rattle.std.proofs.Common.{◌≤◌, ◌+◌, length}
use Rattle.ee_commands.proofs.Traces.{HasRead}
use Rattle.ee_commands.proofs.planning.read_trace.Given as goal

-- so many lines are read, and their writes are in the trace
abbrev pub invariant-lines : goal.invariant-lines
invariant-lines g l = record {
  read : HasRead l.fn.script l.rest l.trace.items l.line;
  counted : l.line + length l.rest ≤ length l.fn.script;
}

-- what is left grows shorter
abbrev pub decreases-lines : goal.decreases-lines
decreases-lines g l = length l.rest
