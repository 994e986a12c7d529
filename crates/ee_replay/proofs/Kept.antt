-- What a run at a desk keeps of a script's changes, whatever is cut in it.
use Rattle.std.proofs.Common.{◌≡◌, ◌∙◌, ◌==◌, ◌++◌, ◌⊎◌, ◌-◌, ℕ, Bool, Some, List, [], ◌∷◌, ap, arith, false, inl, inr, length, refl, true, rules}
use Rattle.std.proofs.lemmas.Bool.{cases_lt}
use Rattle.std.specs.List.{All}
use Rattle.std.proofs.lemmas.List.Elements.{All-head, All-tail}
use Rattle.ee_flash.specs.Size.{Size}
use Rattle.ee_pages.specs.Meaning.{Change, Map, Put, map_after}
use Rattle.ee_pages.specs.Meaning as meaning
use Rattle.ee_pages.specs.Pending.{address_of}
use Rattle.ee_core.proofs.Public.{forget-other, put-other, made, apart}
use Rattle.ee_core.specs.Changes.{HasChange, IsCutAppend, IsCutMove}
use Rattle.ee_core.specs.State.{State, with_pending}
use Rattle.ee_interface.specs.Script.Run.{Run}
use Rattle.ee_interface.specs.declared.script.answer.Answer.{Answer}
use Rattle.ee_interface.specs.declared.script.answer.Answer.TheVariants.{Appended, Moved, Full, Spent, Cleaned, Idle, Value, NoValue, Absent, Armed, Cut, Off, Opened}
use Rattle.ee_interface.specs.declared.script.command.Command.{Command}
use Rattle.ee_interface.specs.declared.script.command.Command.TheVariants.{Write, Read, Forget, Clean, Arm, PowerOn}
use Rattle.ee_image_store.specs.Machine.{CallStep, CutStep, CutsChange, Desk, DeskStep, PowerStep, MachineStep, StoreStep, is_cut_answer}
use Rattle.ee_replay.specs.Kept.{Keeps, KeepsChange, command_asks_change_of, change_answered}

-- ---- one line

same_map : (old new : State) → new ≡ old → new.map ≡ old.map
same_map old new same = ap (λ (state : State). state.map) same

-- an open store's answer
answered : (size : Size) (old : State) (command : Command) (answer : Answer) (new : State)
    → MachineStep size old command answer new → Keeps old.map command answer new.map
answered size old (Write address value) Full new step = same_map old new step.1
answered size old (Write address value) Spent new step = same_map old new step.2
answered size old (Write address value) Appended new step = ap (λ (state : State). state.map) step.2
answered size old (Write address value) Moved new step = ap (λ (state : State). state.map) step.2
answered size old (Forget address) Absent new step = same_map old new step.1
answered size old (Forget address) Spent new step = same_map old new step.2
answered size old (Forget address) Appended new step = ap (λ (state : State). state.map) step.2
answered size old (Forget address) Moved new step = ap (λ (state : State). state.map) step.2
answered size old (Read address) (Value value) new step = (step.0, same_map old new step.1)
answered size old (Read address) NoValue new step = (step.0, same_map old new step.1)
answered size old Clean Cleaned new step = ap (λ (state : State). state.map) step.1
answered size old Clean Idle new step = same_map old new step.1
answered size old (Arm fuse) Armed new step = same_map old new step
answered size old PowerOn Opened new step = same_map old new step
answered size old command answer new step = absurd step

not_cut : (size : Size) (serving : Bool) (old : State) (command : Command) (answer : Answer)
    (new : State)
    → StoreStep size serving old command answer new → Keeps old.map command answer new.map
not_cut size true old command answer new step = answered size old command answer new step
not_cut size false old (Write address value) Off new same = same_map old new same
not_cut size false old (Forget address) Off new same = same_map old new same
not_cut size false old (Read address) Off new same = (tt, same_map old new same)
not_cut size false old Clean Off new same = same_map old new same
not_cut size false old (Arm fuse) Off new same = same_map old new same
not_cut size false old PowerOn Off new same = same_map old new same
not_cut size false old command answer new step = absurd step

of_append : (change : Change) (old new : State) → IsCutAppend old change new
    → KeepsChange change old.map Cut new.map
of_append change old new (inl same) = inl (same_map old new same)
of_append change old new (inr (inl torn)) = inl (ap (λ (state : State). state.map) torn)
of_append change old new (inr (inr made)) = inr (ap (λ (state : State). state.map) made)

of_move : (change : Change) (pages : ℕ) (old new : State)
    → IsCutMove pages pages old (change ∷ []) new → KeepsChange change old.map Cut new.map
of_move change pages old new (inl same) = inl (ap (λ (state : State). state.map) same.2)
of_move change pages old new (inr made) = inr (ap (λ (state : State). state.map) made)

-- a change that was cut is made or not
of_change : (size : Size) (change : Change) (old new : State) → CutsChange size old change new
    → KeepsChange change old.map Cut new.map
of_change size change old new cut = search (rules, cases_lt, of_append, of_move)

-- a clean step that was cut changes no value
of_clean : (old new : State) (fewer : ℕ) → (new ≡ old) ⊎ (new ≡ with_pending fewer old)
    → new.map ≡ old.map
of_clean old new fewer (inl same) = same_map old new same
of_clean old new fewer (inr less) = ap (λ (state : State). state.map) less

was_cut : (size : Size) (old : State) (command : Command) (new : State)
    → CutStep size old command new → Keeps old.map command Cut new.map
was_cut size old (Write address value) new cut = of_change size (Put address value) old new cut
was_cut size old (Forget address) new cut = of_change size (meaning.Forget address) old new cut
was_cut size old Clean new cut = of_clean old new (old.pending - 1) cut.1
was_cut size old command new cut = absurd cut

-- an answer is `cut`, or it isn't
of_call : (cut : Bool) (size : Size) (old : Desk) (command : Command) (answer : Answer) (new : Desk)
    → is_cut_answer answer ≡ cut → CallStep cut size old command answer new
    → Keeps old.state.map command answer new.state.map
of_call true size old command Cut new is step = was_cut size old.state command new.state step.2
of_call true size old command answer new is step = absurd (cc is)
of_call false size old command answer new is step =
    not_cut size old.serving old.state command answer new.state step.0

of_power : (old : Desk) (answer : Answer) (new : Desk) → PowerStep old answer new
    → new.state.map ≡ old.state.map
of_power old Opened new step = ap (λ (desk : Desk). desk.state.map) step
of_power old Cut new step = ap (λ (desk : Desk). desk.state.map) step.2
of_power old answer new step = absurd step

of_step : (size : Size) (old : Desk) (command : Command) (answer : Answer) (new : Desk)
    → DeskStep size old command answer new → Keeps old.state.map command answer new.state.map
of_step size old (Arm fuse) answer new step = ap (λ (desk : Desk). desk.state.map) step.1
of_step size old PowerOn answer new step = of_power old answer new step
of_step size old (Write address value) answer new step =
    of_call (is_cut_answer answer) size old (Write address value) answer new refl step
of_step size old (Forget address) answer new step =
    of_call (is_cut_answer answer) size old (Forget address) answer new refl step
of_step size old (Read address) answer new step =
    of_call (is_cut_answer answer) size old (Read address) answer new refl step
of_step size old Clean answer new step =
    of_call (is_cut_answer answer) size old Clean answer new refl step

-- ---- all lines

pub keeps_all : (size : Size) (commands : List Command) (answers : List Answer) (old new : Desk)
    → Run (DeskStep size) old commands answers new
    → Run Keeps old.state.map commands answers new.state.map
keeps_all size [] [] old new run = ap (λ (desk : Desk). desk.state.map) run
keeps_all size [] (answer ∷ answers) old new run = absurd run
keeps_all size (command ∷ commands) [] old new run = absurd run
keeps_all size (command ∷ commands) (answer ∷ answers) old new run = (
  run.0.state.map,
  of_step size old command answer run.0 run.1,
  keeps_all size commands answers run.0 new run.2,
)

-- ---- a change that was answered stays

-- the map has it, where a change of another address is made or not
of_other : (change : Change) (address : ℕ) (old : Map) → (address_of change == address) ≡ false
    → map_after change old address ≡ old address
of_other (Put named value) address old other =
    put-other old named value address (apart named address other)
of_other (meaning.Forget named) address old other =
    forget-other old named address (apart named address other)

at_same : (address : ℕ) (old new : Map) → new ≡ old → new address ≡ old address
at_same address old new same = ap (λ (map : Map). map address) same

beside : (change : Change) (address : ℕ) (old : Map) (answer : Answer) (new : Map)
    → (address_of change == address) ≡ false → KeepsChange change old answer new
    → new address ≡ old address
beside change address old Appended new other made =
    at_same address (map_after change old) new made ∙ of_other change address old other
beside change address old Moved new other made =
    at_same address (map_after change old) new made ∙ of_other change address old other
beside change address old Cut new other (inl same) = at_same address old new same
beside change address old Cut new other (inr made) =
    at_same address (map_after change old) new made ∙ of_other change address old other
beside change address old answer new other same = at_same address old new same

elsewhere : (address : ℕ) (command : Command) (answer : Answer) (old new : Map)
    → Keeps old command answer new → command_asks_change_of address command ≡ false
    → new address ≡ old address
elsewhere address (Write named value) answer old new kept other =
    beside (Put named value) address old answer new other kept
elsewhere address (Forget named) answer old new kept other =
    beside (meaning.Forget named) address old answer new other kept
elsewhere address (Read named) answer old new kept other = at_same address old new kept.1
elsewhere address Clean answer old new kept other = at_same address old new kept
elsewhere address (Arm fuse) answer old new kept other = at_same address old new kept
elsewhere address PowerOn answer old new kept other = at_same address old new kept

stays : (address : ℕ) (commands : List Command) (answers : List Answer) (old new : Map)
    → Run Keeps old commands answers new
    → All (λ (one : Command). command_asks_change_of address one ≡ false) commands
    → new address ≡ old address
stays address [] [] old new run others = at_same address old new run
stays address [] (answer ∷ answers) old new run others = absurd run
stays address (command ∷ commands) [] old new run others = absurd run
stays address (command ∷ commands) (answer ∷ answers) old new run others =
    stays address commands answers run.0 new run.2
    (All-tail (λ (one : Command). command_asks_change_of address one ≡ false) command commands
    others)
    ∙ elsewhere address command answer old run.0 run.1
    (All-head (λ (one : Command). command_asks_change_of address one ≡ false) command commands
    others)

-- the map right behind the change
is_made : (command : Command) (answer : Answer) (change : Change) (old new : Map)
    → Keeps old command answer new → change_answered command answer ≡ Some change
    → new ≡ map_after change old
is_made (Write address value) Appended change old new kept is =
    let same : Put address value ≡ change = cc is in
    kept ∙ ap (λ (one : Change). map_after one old) same
is_made (Write address value) Moved change old new kept is =
    let same : Put address value ≡ change = cc is in
    kept ∙ ap (λ (one : Change). map_after one old) same
is_made (Forget address) Appended change old new kept is =
    let same : meaning.Forget address ≡ change = cc is in
    kept ∙ ap (λ (one : Change). map_after one old) same
is_made (Forget address) Moved change old new kept is =
    let same : meaning.Forget address ≡ change = cc is in
    kept ∙ ap (λ (one : Change). map_after one old) same
is_made command answer change old new kept is = absurd (cc is)

pub an_answered_change_stays_lem : (before later : List Command) (said answers : List Answer)
    (command : Command) (answer : Answer) (change : Change) (old new : Map)
    → Run Keeps old (before ++ command ∷ later) (said ++ answer ∷ answers) new
    → length before ≡ length said → change_answered command answer ≡ Some change
    → All (λ (one : Command). command_asks_change_of (address_of change) one ≡ false) later
    → HasChange change new
an_answered_change_stays_lem [] later [] answers command answer change old new run same is others =
    made change old new
    (stays (address_of change) later answers run.0 new run.2 others
    ∙ at_same (address_of change) (map_after change old) run.0
    (is_made command answer change old run.0 run.1 is))
an_answered_change_stays_lem [] later (one ∷ said) answers command answer change old new run same is
    others =
    absurd (cc same)
an_answered_change_stays_lem (first ∷ before) later [] answers command answer change old new run
    same is others =
    absurd (cc same)
an_answered_change_stays_lem (first ∷ before) later (one ∷ said) answers command answer change old
    new run same is others =
    an_answered_change_stays_lem before later said answers command answer change run.0 new run.2
    (omega (arith, same)) is others
