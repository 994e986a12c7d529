use Rattle.std.proofs.Common.{rules}
use Rattle.ee_check.proofs.change.Change.make.Goals as goal

pub returns-in-Forget-clause-ok : goal.returns-in-Forget-clause-ok
returns-in-Forget-clause-ok g c = search rules fits 100 parts 0
