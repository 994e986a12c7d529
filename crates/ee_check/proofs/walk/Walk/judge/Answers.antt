use Rattle.std.proofs.Common.{rules}
use Rattle.ee_check.proofs.walk.Walk.judge.Goals as goal

pub returns : goal.returns
returns g c = search rules fits 100 parts 0

pub returns-then-saturating_add-slots : goal.returns-then-saturating_add-slots
returns-then-saturating_add-slots g c = search rules fits 100 parts 0
