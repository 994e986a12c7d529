-- The lemmas that other crates may use. The files that they stand in are this crate's own.
pub use Rattle.ee_interface.proofs.ScriptLemmas.Reading.{no_bad_line, one_bad_line, one_first_bad_line_lem, one_reading, one_script_lem, scripts_are_good_lem}
pub use Rattle.ee_interface.proofs.ScriptLemmas.Seen.{IsAnswered-seen}
pub use Rattle.ee_interface.proofs.ScriptLemmas.Streams.{all_given, stream_names}
