-- The lemmas that other crates may use. The files that they stand in are this crate's own.
pub use Rattle.ee_shell.proofs.DumpsLemmas.Dumps.{dumps_are_bytes, dumps_are_read_lem, import_of_export_lem, imports_agree, imports_are_read, one_write_cause, whole_import_lem, write_has_none}
pub use Rattle.ee_shell.proofs.DumpsLemmas.Kinds.{one_kind}
pub use Rattle.ee_shell.proofs.DumpsLemmas.Sought.{none_sought, one_sought}
pub use Rattle.ee_shell.proofs.DumpsLemmas.Pairs.{one_low_fault}
pub use Rattle.ee_shell.proofs.DumpsLemmas.Torn.{no_torn, one_first}
pub use Rattle.ee_shell.proofs.dumps.intel_hex.{one_reading_lem, readings_are_good_lem, sparse_texts_read_back_lem, texts_read_back_lem}
