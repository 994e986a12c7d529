use Rattle.std.proofs.Common.{◌≡◌, ◌++◌, length}
use Rattle.ee_check.specs.Text.{stretch_lines, AreStretches}
use Rattle.ee_check.proofs.reading.read_stretches.Given as goal

-- the stretches so far were the front of the text
abbrev pub invariant-loop-stretch : goal.invariant-loop-stretch
invariant-loop-stretch g l = record {
  lines : l.fn.text ≡ stretch_lines l.stretches.items ++ l.rest;
  proper : AreStretches l.stretches.items;
}

-- what is left grows shorter
abbrev pub decreases-loop-stretch : goal.decreases-loop-stretch
decreases-loop-stretch g l = length l.rest
