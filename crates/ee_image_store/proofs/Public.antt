-- The lemmas that other crates may use. The files that they stand in are this crate's own.
pub use Rattle.ee_image_store.proofs.Erasing.{as_before, both, by_append, by_clean, by_move, by_wear, pages_since, wear_since}
pub use Rattle.ee_image_store.proofs.FileFaults.{no_memory_for, one_file_fault, only_memory, reading_good, reading_named}
pub use Rattle.ee_image_store.proofs.OneCause.{one_open_fault, same_at_rest, same_state, store_is_good}
pub use Rattle.ee_image_store.proofs.Openings.{memory_or_not, no_memory_to_open, not_opened, opening_good, opening_named}
pub use Rattle.ee_image_store.proofs.Stores.{formed_of}
pub use Rattle.ee_image_store.proofs.Told.{told_more, told_none}
