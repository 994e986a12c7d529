-- The lemmas that other crates may use. The files that they stand in are this crate's own.
pub use Rattle.ee_pages.proofs.BlankPages.{erase_lowers_pending, full_set_has_no_blank_page, whole_erase_lowers_pending}
pub use Rattle.ee_pages.proofs.BlankWords.{blank_set, blank_word, erased_word}
pub use Rattle.ee_pages.proofs.Commits.{commits_over, older_live, whole_commits_over, first_in_set, live_commits}
pub use Rattle.ee_pages.proofs.Counts.{gap_to, last_below, last_rises, live_to-end, live_to-next, live_to-suc, live_to-zero}
pub use Rattle.ee_pages.proofs.FillingSteps.{opens_page, opens_set, stages_change}
pub use Rattle.ee_pages.proofs.FirstCommits.{first_commit_commits, first_commits, other_set_stays, other_twice}
pub use Rattle.ee_pages.proofs.LastSaid.{later-none, latest_in-append, silent_behind}
pub use Rattle.ee_pages.proofs.Legal.{fill-front, slots_before_slot, slots_behind}
pub use Rattle.ee_pages.proofs.LiveCounts.{change_counts, live_within_fill, put_there}
pub use Rattle.ee_pages.proofs.LiveSteps.{mark_keeps_live, push_takes, whole_push_takes}
pub use Rattle.ee_pages.proofs.OtherPages.{program_leaves_written, step_keeps_other_pages, written_page}
pub use Rattle.ee_pages.proofs.OtherSet.{other_set_keeps_side, kept_side_is_live, keeps_side_both, keeps_side_same, commit_after, commits, commits_by, elsewhere, first_word, other_set_keeps_live, programmed_word, same_set, side_in}
pub use Rattle.ee_pages.proofs.OwnSet.{page_of_set}
pub use Rattle.ee_pages.proofs.ScanFaults.{legal_is_good, none_live, one_scan_fault}
pub use Rattle.ee_pages.proofs.Slots.{blank_page, get_or-slots_of, length-set_of, length-slots, page_in_range, pages-set_of, place_in_range, slot_at, slot_below, split_by}
pub use Rattle.ee_pages.proofs.Scans.{first_below}
pub use Rattle.ee_pages.proofs.SetPrograms.{as_it_was, word-in_set}
pub use Rattle.ee_pages.proofs.Rescues.{held_is_rescued, held_is_rescued_side, live_is_held, live_is_rescued, map_rescued}
pub use Rattle.ee_pages.proofs.BadWords.{one_word_costs_its_value, bad_word_leaves_held, bad_waiting_word_leaves_held, waiting_word_costs_nothing, neither}
