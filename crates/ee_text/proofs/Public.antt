-- The lemmas that other crates may use. The files that they stand in are this crate's own.
pub use Rattle.ee_text.proofs.Deciding.{begins_and, begins_so, some_below}
pub use Rattle.ee_text.proofs.Joining.{Lacks-joined, joined-append, joined_injective}
pub use Rattle.ee_text.proofs.Lacking.{Lacks-append, Lacks-cons, Lacks-decimal, Lacks-parts, first_place, front_ends, lacks_at, no_place}
pub use Rattle.ee_text.proofs.LineFeeds.{first_line, no_line}
pub use Rattle.ee_text.proofs.NumberText.{IsField-decimal, IsLine-decimal, length-decimal-u64}
pub use Rattle.ee_text.proofs.Results.{error_passed_on, longer_still, on_err_anyway, passed_on}
