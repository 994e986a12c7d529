-- The steps of a call, as a function of the device alone.
use Rattle.ee_core.proofs.Words.{◌≡◌, ◌<◌, cond, List, [], ◌∷◌, sym, ap, arith, lt-ltb, le-ltb}
use Rattle.ee_core.proofs.Sets.{Device, IsLayout, Layout, Change}
use Rattle.ee_core.proofs.Calls.{last_used, map_in, moved_words, capacity, state_of}
use Rattle.ee_core.specs.StepLists.{steps_in, steps_of_append, steps_of_clean, steps_of_clear, steps_of_making, steps_of_open, steps_of_transfer, steps_to_clean, steps_to_finish, steps_to_move}

pub move_is : (old : Device) (layout : Layout) (changes : List Change) → IsLayout old layout
    → steps_to_move old layout.side layout.generation
    (moved_words changes (map_in layout.side old))
    ≡ steps_of_transfer changes old
move_is old layout changes found =
    sym
    (ap
    (steps_in (λ side generation.
    steps_to_move old side generation (moved_words changes (map_in side old)))) found.live.live)

pub making_appends : (old : Device) (change : Change) → (state_of old).fill < capacity old
    → steps_of_append change old ≡ steps_of_making (change ∷ []) old
making_appends old change free =
    sym
    (ap (λ b. cond b (steps_of_append change old) (steps_of_transfer (change ∷ []) old))
    (lt-ltb (state_of old).fill (capacity old) free))

pub making_moves : (old : Device) (change : Change) → (state_of old).fill ≡ capacity old
    → steps_of_transfer (change ∷ []) old ≡ steps_of_making (change ∷ []) old
making_moves old change full =
    sym
    (ap (λ b. cond b (steps_of_append change old) (steps_of_transfer (change ∷ []) old))
    (le-ltb (state_of old).fill (capacity old) (omega (arith, full))))

pub clear_is : (old : Device) (layout : Layout) → IsLayout old layout
    → steps_to_move old layout.side layout.generation [] ≡ steps_of_clear old
clear_is old layout found =
    sym (ap (steps_in (λ side generation. steps_to_move old side generation [])) found.live.live)

pub clean_of : (old : Device) (layout : Layout) → IsLayout old layout
    → steps_to_clean old layout.side ≡ steps_of_clean old
clean_of old layout found =
    sym (ap (steps_in (λ side generation. steps_to_clean old side)) found.live.live)

pub open_is : (old : Device) (layout : Layout) → IsLayout old layout
    → steps_to_finish old layout.side (last_used old layout.side) ≡ steps_of_open old
open_is old layout found =
    sym
    (ap (steps_in (λ side generation. steps_to_finish old side (last_used old side)))
    found.live.live)
