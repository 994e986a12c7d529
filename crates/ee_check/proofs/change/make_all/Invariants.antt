use Rattle.std.proofs.Common.{◌≡◌, take}
use Rattle.ee_check.specs.Live.{live_after}
use Rattle.ee_check.proofs.change.make_all.Given as goal

-- the changes so far are made
abbrev pub invariant-loop-change : goal.invariant-loop-change
invariant-loop-change g l = l.live ≡ live_after l.fn.live (take l.change-index l.changes)
