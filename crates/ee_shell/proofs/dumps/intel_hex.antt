mod Lines
mod Records
mod Places
mod Judging
mod Written
mod Sparse
mod Answered
mod Digits
mod Parsing
pub use Rattle.ee_shell.proofs.dumps.intel_hex.Judging.{one_reading_lem, readings_are_good_lem}
pub use Rattle.ee_shell.proofs.dumps.intel_hex.Written.{texts_read_back_lem}
pub use Rattle.ee_shell.proofs.dumps.intel_hex.Sparse.{sparse_texts_read_back_lem}
