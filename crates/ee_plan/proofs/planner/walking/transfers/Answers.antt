use Rattle.std.proofs.Common.{rules}
use Rattle.ee_plan.proofs.planner.walking.transfers.Goals as goal

pub returns-then-further-walk-clause-made : goal.returns-then-further-walk-clause-made
returns-then-further-walk-clause-made g c = search rules fits 100 parts 0
