-- The words of this crate's specs that the proofs here share.
pub use Rattle.ee_core.specs.CallSteps.{AddsWords, ForgetsHeld, HasMoved, Holds, IsCommittedWith, IsOlder, IsReady, IsSameBut, IsSameSet, KeepsMarks, PageErased, PageErasedPartly, PutsWord, SetsMark, Stands, Stays, map_change, map_in, map_to, number_written, opened_set, replaced_map}
pub use Rattle.ee_core.specs.Calls.{Cleans, ErasesLowest, ErasesOne, IsLowestPending, KeepsAllButLowest, Writes, WritesAll}
pub use Rattle.ee_core.specs.Changes.{Appends, HasChange, HaveNoGeneration, HaveNoPlace, IsAccepted, IsCutAppend, IsCutChange, IsCutMaking, IsCutMove, IsFull, Moves, NeedsTransfer, Proceeds, greatest_generation, pages_left}
pub use Rattle.ee_core.specs.Cuts.{AddsPartly, ErasesPartly, FillsPartly, IsDrawnPartly, IsPartlyDone, MovesMapPartly, MovesPartly, PutsPartly, SetsPartly}
pub use Rattle.ee_core.specs.Finished.{IsFinished, IsLiveMarked, IsMarked, IsOldMarked, IsStore, last_used}
pub use Rattle.ee_core.specs.Openings.{FormatsPartly, IsCutOpening, IsFormatted, OpenFails, Opens, ShowsCutMarks, ShowsMarks, not_blank_pages}
pub use Rattle.ee_core.specs.Picture.{IsDrawn, OfLive, Picture, blank_picture, element_at, elements_of, elements_to, filled_set, is_used, map_without, mark_where, marked_to, marked_word, moved_words, number_of_change, picture_of, picture_with_word, put_words, retired_pages, with_change}
pub use Rattle.ee_core.specs.Points.{with_power_on}
pub use Rattle.ee_core.specs.Puts.{AreApart, HasNew, IsEachOnce, ListsAreThere, changes_of_puts, each_forgotten, forgets_of, is_put, is_put_again, is_twice, names, puts_of}
pub use Rattle.ee_core.specs.State.{CountsWear, State, WearRises, Wears, WearsTo, appended_state, capacity, formatted_state, moved_state, next_live, not_blank_from, not_blank_in, pending_pages, pending_pages_in, state_in, state_of, state_with, torn_slots_in, torn_slots_of, torn_state, used_pages_in, used_pages_of, with_pending, worn_by}
pub use Rattle.ee_core.specs.declared.copying.Place.{Place}
