-- What a transfer that changes need makes of a store, by what it did to the sets.
use Rattle.std.proofs.Common.{ap, arith, subst, List}
use Rattle.ee_flash.specs.Device.{Device, IsFormed}
use Rattle.ee_flash.specs.Taking.{Completes, StopsAmong}
use Rattle.ee_pages.specs.Layout.{IsLayout}
use Rattle.ee_pages.specs.Meaning.{Change}
use Rattle.ee_pages.specs.Sets.{other}
use Rattle.ee_pages.specs.declared.find.Layout.{Layout}
use Rattle.ee_core.specs.CallSteps.{map_in}
use Rattle.ee_core.specs.Changes.{IsCutMaking, Moves, NeedsTransfer, Proceeds}
use Rattle.ee_core.specs.Cuts.{MovesPartly}
use Rattle.ee_core.specs.Finished.{IsStore}
use Rattle.ee_core.specs.Picture.{moved_words}
use Rattle.ee_core.specs.State.{capacity, state_of}
use Rattle.ee_core.specs.StepLists.{steps_to_move}
use Rattle.ee_core.specs.Transfers.{MapMovedPartly, SetMoved}
use Rattle.ee_core.proofs.Making.{cut_in_move, few_pending, moves, shows_cut_move, shows_moved, store_after_move}
use Rattle.ee_core.proofs.MovingFacts.{live_or_moved}
use Rattle.ee_core.proofs.PublicSteps.{move_is}
use Rattle.ee_core.proofs.Taken.{among_on, cut_taken, goes_on_taken}

module _ (old new : Device) (layout : Layout) (changes : List Change) (found : IsLayout old layout)
    (proceeds : Proceeds old changes) (needed : NeedsTransfer (capacity old) (state_of old) changes)
  where
    pub made_by_move : (after : Layout)
        → SetMoved old new layout after changes (moved_words changes (map_in layout.side old))
        → Completes (steps_to_move old layout.side layout.generation
        (moved_words changes (map_in layout.side old))) old new
        → Moves old changes new
    made_by_move after done steps =
        let on = goes_on_taken _ steps in
        moves old new layout.side layout.generation found.live changes proceeds on needed done.moved
        done.wear
        (shows_moved old new layout.side layout.generation found.live changes needed on.same_size
        done.new_pages done.old_pages)
        (subst (λ list. Completes list old new) (move_is old layout changes found) steps)

    module _ (formed : IsFormed new)
        (cut : MapMovedPartly old new layout changes
        (moved_words changes (map_in layout.side old)) MovesPartly)
        (steps : StopsAmong (steps_to_move old layout.side layout.generation
        (moved_words changes (map_in layout.side old))) old new)
      where
        pub cut_by_move : IsCutMaking old changes new
        cut_by_move =
            let stopped = cut_taken (among_on proceeds.on steps) in
            let few = few_pending new (other layout.side) formed in
            cut_in_move old new layout.side layout.generation found.live stopped
            (omega (arith, few, ap (λ size. size.pages) stopped.same_size))
            changes proceeds needed
            (live_or_moved old new layout.side layout.generation changes found.live cut.cut)
            (shows_cut_move old new layout.side layout.generation found.live changes
            (cut.left proceeds.on))
            (subst (λ list. StopsAmong list old new) (move_is old layout changes found) steps)

        pub store_by_cut : IsStore new
        store_by_cut =
            store_after_move old new layout.side layout.generation changes
            (cut_taken (among_on proceeds.on steps)).is_off
            (live_or_moved old new layout.side layout.generation changes found.live cut.cut)
