use Rattle.std.proofs.Common.{◌≡◌, ◌++◌, take}
use Rattle.ee_check.specs.Text.{stretch_lines}
use Rattle.ee_check.proofs.writing.push_stretches.Given as goal

-- the lines so far are written
abbrev pub invariant-loop-stretch : goal.invariant-loop-stretch
invariant-loop-stretch g l =
    l.out.items ≡ l.fn.out.items ++ stretch_lines (take l.stretch-index l.stretches)
