use Rattle.std.proofs.Common.{◌≡◌, drop, true}
use Rattle.ee_program.specs.Explain.Explaining.{has_loose_space, is_loose_behind}
use Rattle.ee_program.proofs.explain.causes.finds_loose_space.Given as goal

-- what is left decides
abbrev pub invariant-loop-byte : goal.invariant-loop-byte
invariant-loop-byte l =
    has_loose_space l.line ≡ is_loose_behind l.behind_space (drop l.byte-index l.line)
