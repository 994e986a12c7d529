-- The lemmas that other crates may use. The files that they stand in are this crate's own.
pub use Rattle.ee_settings.proofs.First.{one_fault}
pub use Rattle.ee_settings.proofs.Forgetting.{each_goes_on}
pub use Rattle.ee_settings.proofs.Names.{names_apart, never_equal}
pub use Rattle.ee_settings.proofs.Once.{never_refused, schema_once}
pub use Rattle.ee_settings.proofs.Outdated.{stale_within}
pub use Rattle.ee_settings.proofs.Readings.{changed_elsewhere, written_map}
pub use Rattle.ee_settings.proofs.TidiedMaps.{leaves_named, leaves_state, none_spent, spent_among}
pub use Rattle.ee_settings.proofs.Trees.{entries_counted, entries_seen, gone_more, integer_found, seen, split_entries}
