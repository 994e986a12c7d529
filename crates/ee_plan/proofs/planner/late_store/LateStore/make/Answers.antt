use Rattle.std.proofs.Common.{rules}
use Rattle.ee_plan.proofs.planner.late_store.LateStore.make.Goals as goal

pub overflow_add-self : goal.overflow_add-self
overflow_add-self g c = search rules fits 100 parts 0
