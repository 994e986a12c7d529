use Rattle.std.proofs.Common.{◌≡◌, ◌<◌, ℕ, get_or}
use Rattle.ee_web.specs.Judging.{bad_flag}
use Rattle.ee_web.proofs.judging.flag_bad.Given as goal

-- the words so far have their flags
abbrev pub invariant-loop-place : goal.invariant-loop-place
invariant-loop-place g l =
    (k : ℕ) → k < l.place → get_or l.bad k 0 ≡ bad_flag (g.F.Flash.device l.flash) l.set.side k
