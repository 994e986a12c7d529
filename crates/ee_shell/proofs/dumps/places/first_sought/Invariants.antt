use Rattle.std.proofs.Common.{ℕ, ◌<◌}
use Rattle.ee_shell.specs.Dumps.Places.{HasNoneIn}
use Rattle.ee_shell.proofs.dumps.places.first_sought.Given as goal

-- the pages so far have none
abbrev pub invariant-loop-page : goal.invariant-loop-page
invariant-loop-page g l = (k : ℕ) → k < l.page → HasNoneIn l.sought (g.F.Flash.device l.flash) k
