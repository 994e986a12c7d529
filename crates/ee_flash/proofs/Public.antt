-- The lemmas that other crates may use. The files that they stand in are this crate's own.
pub use Rattle.ee_flash.proofs.Endurance.{behind, more_erases_of, some_page_wears_lem, still_formed}
pub use Rattle.ee_flash.proofs.Joined.{joined_pages, pages_join}
pub use Rattle.ee_flash.proofs.Outcomes.{below-held, calls_compose, completed_size, length-page_at, some_more, step_changes_one_page, step_keeps_formed, step_leaves_pages, wear_is}
pub use Rattle.ee_flash.proofs.Pages.{All-rewritten, get_or-pages_of, pages_of-replicate, pages_of-rewritten, pages_of-set, refilled}
pub use Rattle.ee_flash.proofs.Fuses.{all_completed_on, completed_by_fuse, completed_on, cut_by_fuse}
pub use Rattle.ee_flash.proofs.Runs.{read_by_place}
