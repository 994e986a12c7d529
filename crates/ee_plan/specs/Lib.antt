pub mod Planner
pub mod Start
pub mod Wearing
pub mod Lasting
pub use Rattle.ee_plan.specs.Planner.Plan
pub use Rattle.ee_plan.specs.Planner.LateStore
pub use Rattle.ee_plan.specs.Planner.Rounds
pub use Rattle.ee_plan.specs.Planner.Places
