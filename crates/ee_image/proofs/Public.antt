-- The lemmas that other crates may use. The files that they stand in are this crate's own.
pub use Rattle.ee_image.proofs.Texts.{one_device_lem, one_fault_lem, short, texts_are_good_lem}
