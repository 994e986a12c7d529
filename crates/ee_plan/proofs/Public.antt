-- The lemmas that other crates may use. The files that they stand in are this crate's own.
pub use Rattle.ee_plan.proofs.Gathering.{none_sorted}
pub use Rattle.ee_plan.proofs.LiveLists.{live_after_forget, live_after_put, live_count_is}
pub use Rattle.ee_plan.proofs.Starts.{appends, forgetting_fits, length_map, moves_on, not_full, start_stays, stays, write_fits}
pub use Rattle.ee_plan.proofs.Wearing.{fewest_transfers_wear_lem}
