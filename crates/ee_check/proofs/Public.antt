-- The lemmas that other crates may use. The files that they stand in are this crate's own.
pub use Rattle.ee_check.proofs.Bounds.{certificates_bound_schedules_lem, certificates_dominate_lem, late_moves, late_stores_meet_it_lem, tight_are_certificates_lem, tight_is_met_lem}
pub use Rattle.ee_check.proofs.Dominance.{end_from}
pub use Rattle.ee_check.proofs.Sizes.{changed-le, remove_key-le}
pub use Rattle.ee_check.proofs.Stretches.{EachStretch-append, last_place-append}
pub use Rattle.ee_check.proofs.Tables.{greater, same, smaller}
pub use Rattle.ee_check.proofs.Texts.{one_first_bad_line_lem as one_bad_line, one_text_lem, texts_are_good_lem}
pub use Rattle.ee_check.proofs.Walks.{live_after-append, live_after_more, one_made}
