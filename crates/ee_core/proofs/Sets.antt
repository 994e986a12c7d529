-- The words of the layers below, of devices, pages and sets, that the proofs here share.
pub use Rattle.ee_flash.proofs.Public.{calls_compose, length-page_at, step_changes_one_page, step_keeps_formed, step_leaves_pages}
pub use Rattle.ee_flash.specs.Device.{Device, IsFormed, IsOff, IsOn, all_ones, page_at, wear_at, word_at}
pub use Rattle.ee_flash.specs.Laws.{CanTake, DiffersInPage, IsStep}
pub use Rattle.ee_flash.specs.Power.{Ends, GoesOn, IsCut}
pub use Rattle.ee_flash.specs.Size.{Size, page_count, slot_count}
pub use Rattle.ee_flash.specs.Step.{Erase, IsCutIn, IsPartlyErased, IsUntouched, MayFollow, Program, Step, device_after, one_more, with_page_erased, with_word, with_word_programmed}
pub use Rattle.ee_flash.specs.Wear.{total_wear_of}
pub use Rattle.ee_flash.specs.declared.word.Word.{Word}
pub use Rattle.ee_flash.specs.declared.word.Word.TheVariants.{Erased, Held, Torn}
pub use Rattle.ee_codec.specs.Words.{IsAddress, IsGeneration, element}
pub use Rattle.ee_pages.proofs.Public.{as_it_was, bad_waiting_word_leaves_held, bad_word_leaves_held, blank_page, blank_set, blank_word, change_counts, commit_after, commits, commits_by, commits_over, elsewhere, erase_lowers_pending, erased_word, fill-front, first_below, first_commit_commits, first_commits, first_in_set, first_word, full_set_has_no_blank_page, get_or-slots_of, held_is_rescued, held_is_rescued_side, keeps_side_both, keeps_side_same, kept_side_is_live, legal_is_good, length-set_of, length-slots, live_commits, live_is_held, live_is_rescued, live_to-suc, live_to-zero, live_within_fill, map_rescued, mark_keeps_live, neither, none_live, one_word_costs_its_value, opens_page, opens_set, other_set_keeps_live, other_set_keeps_side, other_set_stays, other_twice, page_in_range, page_of_set, pages-set_of, place_in_range, program_leaves_written, programmed_word, push_takes, same_set, side_in, slot_at, slot_below, slots_behind, split_by, stages_change, step_keeps_other_pages, waiting_word_costs_nothing, whole_commits_over, whole_erase_lowers_pending, whole_push_takes, word-in_set}
pub use Rattle.ee_pages.specs.Filling.{IsCommitted, IsFilling}
pub use Rattle.ee_pages.specs.Laws.{CannotCommit, IsPageOf, KeepsLiveSet, KeepsSide}
pub use Rattle.ee_pages.specs.Layout.{IsLayout, IsScanFault, IsUnformatted}
pub use Rattle.ee_pages.specs.Legal.{IsLegal, IsLive, slots_before}
pub use Rattle.ee_pages.specs.LiveOrder.{AreLiveThrough, IsNextLive, IsNoneLive, last_of}
pub use Rattle.ee_pages.specs.Meaning.{Change, Forget, Map, Put, SpellsChange, changed_by, latest_in, live_in, live_to, map_after, meaning, says, slot_says, value_said}
pub use Rattle.ee_pages.specs.Page.{is_blank, is_marked, is_written, marking, number_of_mark, place_of_mark, state_of_words, word_in}
pub use Rattle.ee_pages.specs.Pending.{address_of}
pub use Rattle.ee_pages.specs.Pushing.{IsMarkBehind, TakesSlot, slot_step}
pub use Rattle.ee_pages.specs.Sets.{committed_generation, fill_of, first_page, front, is_mark, live_of, other, page_of_slot, pending_of, place_of_slot, set_of, slots_of, word_of}
pub use Rattle.ee_pages.specs.declared.find.Layout.{Layout}
pub use Rattle.ee_pages.specs.declared.side.Side.{Side}
pub use Rattle.ee_pages.specs.declared.side.Side.TheVariants.{First, Second}
pub use Rattle.ee_pages.specs.declared.state.Mark.{Mark}
pub use Rattle.ee_pages.specs.declared.state.Mark.TheVariants.{Active, Erasing, Receive, Valid}
