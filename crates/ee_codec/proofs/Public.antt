-- The lemmas that other crates may use. The files that they stand in are this crate's own.
pub use Rattle.ee_codec.proofs.Spelling.{receive_of-receive, slot_of-element, slot_of-forgetting}
