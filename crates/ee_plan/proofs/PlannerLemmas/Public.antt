-- The lemmas that other crates may use. The files that they stand in are this crate's own.
pub use Rattle.ee_plan.proofs.PlannerLemmas.Fitting.{keeps_more, keeps_tail, none_breaks}
pub use Rattle.ee_plan.proofs.PlannerLemmas.Following.{made_more, made_none}
pub use Rattle.ee_plan.proofs.PlannerLemmas.Rising.{from_less, insert_sorted, not_at, remove_sorted}
pub use Rattle.ee_plan.proofs.PlannerLemmas.Whole.{whole_tight}
