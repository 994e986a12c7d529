-- The lemmas that other crates may use. The files that they stand in are this crate's own.
pub use Rattle.ee_core.proofs.AfterCalls.{goes_on_both, goes_on_same, not_both}
pub use Rattle.ee_core.proofs.Appending.{slot_erased}
pub use Rattle.ee_core.proofs.CopiedMaps.{apart, changed_by-append, changed_by-other, forget-at, forget-other, live_in-nothing, made, map_to-above, map_to-below, put-at, put-other, same_counts, without-at, without-other}
pub use Rattle.ee_core.proofs.CopiedWords.{next_element, no_words, none_between, one_further}
pub use Rattle.ee_core.proofs.CutMaps.{cut_making, cut_map, fill_within}
pub use Rattle.ee_core.proofs.CutMoves.{elements_front}
pub use Rattle.ee_core.proofs.Drawings.{with_word-elsewhere, with_word-there}
pub use Rattle.ee_core.proofs.Effects.{by_effect}
pub use Rattle.ee_core.proofs.Emptying.{cut_clearing}
pub use Rattle.ee_core.proofs.Fillings.{length-put_words, map_with_more}
pub use Rattle.ee_core.proofs.Listed.{each_apart, lists_are_there_lem, names-puts}
pub use Rattle.ee_core.proofs.Making.{always_on_err, few_within, fill_was, generation_proper, map_was, store_marked}
pub use Rattle.ee_core.proofs.LiveMarks.{layout_stays}
pub use Rattle.ee_core.proofs.MovingFacts.{few_slots}
pub use Rattle.ee_core.proofs.Outside.{meaning-zero, meaning_outside}
pub use Rattle.ee_core.proofs.NotBlank.{length-not_blank}
pub use Rattle.ee_core.proofs.Nothing.{forgotten_has, still_none}
pub use Rattle.ee_core.proofs.OpeningFacts.{opening_cut, opens}
pub use Rattle.ee_core.proofs.PageWears.{Aged, Ages, ages, each_page_wears_every_second_transfer_lem, few_wait, in_either, no_page_wears_more_lem, none_more, one_more, same_side, side_in, stays, wears_at_most}
pub use Rattle.ee_core.proofs.PendingPages.{length-pending_pages, times_in_set, waits}
pub use Rattle.ee_core.proofs.Powered.{legal_on, legal_powered, live_powered, state_in_on, state_in_powered}
pub use Rattle.ee_core.proofs.Running.{goes, runs_go_on_lem}
pub use Rattle.ee_core.proofs.SetPages.{page_of_set}
pub use Rattle.ee_core.proofs.ShownStates.{moved_words_are_live_lem}
pub use Rattle.ee_core.proofs.Several.{live_few, needs_transfer, no_generation, no_place, one_counted, puts_within, several_proceed, some_place}
pub use Rattle.ee_core.proofs.Startable.{legal_stays, startable_on}
pub use Rattle.ee_core.proofs.States.{state_is}
pub use Rattle.ee_core.proofs.Wears.{no_wear, times, times_few, wear_adds, wears_both, wears_none, wears_rise}
