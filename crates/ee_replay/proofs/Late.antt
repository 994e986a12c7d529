-- A run of the report machine is the store that transfers exactly when each slot is used.
use Rattle.std.proofs.Common.{◌≡◌, inl, inr, ℕ, ◌+◌, ◌<◌, ◌≤◌, List, [], ◌∷◌, length, map, refl, sym, subst, ap, ◌∙◌, arith, rules}
use Rattle.ee_flash.specs.Size.{Size, slot_count}
use Rattle.ee_pages.specs.Meaning.{Put, changed_by}
use Rattle.ee_pages.specs.Meaning as meaning
use Rattle.ee_core.specs.State.{State, appended_state, moved_state}
use Rattle.ee_check.specs.declared.change.Change.{Change}
use Rattle.ee_check.specs.declared.change.Change.TheVariants as changes
use Rattle.ee_check.specs.Certificate.{Claim, IsTight, used_at_end}
use Rattle.ee_check.specs.Live.{KeepsWithin, live_after_one}
use Rattle.ee_check.specs.Schedule.{Append, Carry, EachMove, IsLate, IsProper, Move, Situation, after_move, after_moves, carried_at, changes_of}
use Rattle.ee_check.proofs.Public.{changed-le, certificates_bound_schedules_lem, certificates_dominate_lem, late_stores_meet_it_lem, tight_are_certificates_lem, tight_is_met_lem}
use Rattle.ee_plan.specs.Start.{AreLive, IsStartOf}
use Rattle.ee_interface.specs.Script.Run.{Run}
use Rattle.ee_interface.specs.Script.Script.{AreCommands}
use Rattle.ee_interface.specs.declared.script.answer.Answer.{Answer}
use Rattle.ee_interface.specs.declared.script.answer.Answer.TheVariants.{Appended, Moved, Full, Spent, Cleaned, Idle, Value, NoValue, Absent, Armed, Opened}
use Rattle.ee_interface.specs.declared.script.command.Command.{Command}
use Rattle.ee_interface.specs.declared.script.command.Command.TheVariants.{Write, Read, Forget, Clean, Arm, PowerOn}
use Rattle.ee_image_store.specs.Machine.{MachineStep}
use Rattle.ee_image_store.specs.Trace.{AreFewest, TraceFits, ForgetsWhatIsHeld, NoneEndsWithMoreRoom, accepted_commands, moved_at, moves, map_changes, trace_of}
use Rattle.ee_plan.proofs.PlannerLemmas.Public.{keeps_more, keeps_tail}
use Rattle.ee_plan.proofs.Public.{live_after_forget, live_after_put, appends, forgetting_fits, length_map, moves_on, not_full, start_stays, stays, write_fits}

-- ---- a run

-- The run of these commands with these answers is this: the changes that are accepted, made by
-- moves of the late store.
pub record IsLateRun (slots : ℕ) (start : Situation) (commands : List Command)
    (answers : List Answer) (new : State) : Type 0 where
  pub moves : List Move
  pub changes_are : changes_of moves ≡ trace_of (accepted_commands commands answers)
  pub late : EachMove IsLate start moves
  pub carried : (n : ℕ) → carried_at n moves ≡ moved_at n answers
  pub end : IsStartOf slots new (after_moves start moves)
  pub proper : IsProper (after_moves start moves)
  pub keeps : KeepsWithin start.slots start.live (trace_of (accepted_commands commands answers))

-- a command that changes neither the map nor the slots goes before
no_move : (slots : ℕ) (start : Situation) (commands : List Command) (answers : List Answer)
    (new : State) (command : Command) (answer : Answer)
    → accepted_commands (command ∷ commands) (answer ∷ answers) ≡ accepted_commands commands answers
    → ((n : ℕ) → moved_at n (answer ∷ answers) ≡ moved_at n answers)
    → IsLateRun slots start commands answers new
    → IsLateRun slots start (command ∷ commands) (answer ∷ answers) new
no_move slots start commands answers new command answer same same_moved run = search rules

-- the command asks for this change
abbrev AsksFor : Command → Change → Type 0
AsksFor command change =
    (commands : List Command) → trace_of (command ∷ commands) ≡ change ∷ trace_of commands

-- an append goes before
append_first : (slots : ℕ) (start : Situation) (commands : List Command) (answers : List Answer)
    (new : State) (command : Command) (change : Change)
    → AsksFor command change → start.fill < start.slots
    → length (live_after_one start.live change) ≤ start.slots
    → IsLateRun slots (after_move start (Append change)) commands answers new
    → IsLateRun slots start (command ∷ commands) (Appended ∷ answers) new
append_first slots start commands answers new command change asks free fits run =
    let one = asks (accepted_commands commands answers) in
    record {
      moves = Append change ∷ run.moves;
      changes_are = ap (λ l. change ∷ l) run.changes_are ∙ sym one;
      late = (free, run.late);
      carried = λ n. run.carried (n + 1);
      end = run.end;
      proper = run.proper;
      keeps =
          subst (λ l. KeepsWithin start.slots start.live l) (sym one)
          (keeps_more start.slots start.live change
          (trace_of (accepted_commands commands answers)) fits run.keeps);
    }

-- a move goes before
carry_first : (slots : ℕ) (start : Situation) (commands : List Command) (answers : List Answer)
    (new : State) (command : Command) (change : Change)
    → AsksFor command change → start.fill ≡ start.slots
    → length (live_after_one start.live change) ≤ start.slots
    → IsLateRun slots (after_move start (Carry change)) commands answers new
    → IsLateRun slots start (command ∷ commands) (Moved ∷ answers) new
carry_first slots start commands answers new command change asks used fits run =
    let one = asks (accepted_commands commands answers) in
    record {
      moves = Carry change ∷ run.moves;
      changes_are = ap (λ l. change ∷ l) run.changes_are ∙ sym one;
      late = (used, run.late);
      carried = λ n. ap (λ l. (n + 1) ∷ l) (run.carried (n + 1));
      end = run.end;
      proper = run.proper;
      keeps =
          subst (λ l. KeepsWithin start.slots start.live l) (sym one)
          (keeps_more start.slots start.live change
          (trace_of (accepted_commands commands answers)) fits run.keeps);
    }

module _ (size : Size) where
  -- an append and what follows
  append_on : (commands : List Command) (answers : List Answer) (old mid new : State)
      (start : Situation) (command : Command) (change : Change) (meant : meaning.Change)
      → AsksFor command change → old.fill < slot_count size → mid ≡ appended_state meant old
      → AreLive (meaning.map_after meant old.map) (live_after_one start.live change)
      → IsStartOf (slot_count size) old start → IsProper start
      → (IsStartOf (slot_count size) mid (after_move start (Append change))
      → IsProper (after_move start (Append change))
      → IsLateRun (slot_count size) (after_move start (Append change)) commands answers new)
      → IsLateRun (slot_count size) start (command ∷ commands) (Appended ∷ answers) new
  append_on commands answers old mid new start command change meant asks less is live from proper
      rest =
      search (rules, append_first, appends, changed-le)

  -- a move and what follows
  carry_on : (commands : List Command) (answers : List Answer) (old mid new : State)
      (start : Situation) (command : Command) (change : Change) (meant : meaning.Change)
      → AsksFor command change → old.fill ≡ slot_count size
      → mid ≡ moved_state size.pages (meant ∷ []) old
      → length (live_after_one start.live change) ≤ start.slots
      → AreLive (meaning.map_after meant old.map) (live_after_one start.live change)
      → IsStartOf (slot_count size) old start
      → (IsStartOf (slot_count size) mid (after_move start (Carry change))
      → IsProper (after_move start (Carry change))
      → IsLateRun (slot_count size) (after_move start (Carry change)) commands answers new)
      → IsLateRun (slot_count size) start (command ∷ commands) (Moved ∷ answers) new
  carry_on commands answers old mid new start command change meant asks all is fits live from rest =
      let used : start.fill ≡ start.slots = let a = from.fill_is in
      let b = from.slots_are in omega arith in
      let kept : IsProper (after_move start (Carry change)) =
      record { held = omega arith; fits = fits } in
      carry_first (slot_count size) start commands answers new command change asks used fits
      (rest (moves_on size old mid start change meant is live from) kept)

  pub late_run : (commands : List Command) (answers : List Answer) (old new : State)
      (start : Situation)
      → AreCommands commands → IsStartOf (slot_count size) old start → IsProper start
      → Run (MachineStep size) old commands answers new
      → IsLateRun (slot_count size) start commands answers new
  late_run [] [] old new start are is proper run = search (rules, stays)
  late_run [] (answer ∷ answers) old new start are is proper run = absurd run
  late_run (command ∷ commands) [] old new start are is proper run = absurd run
  late_run (Write address value ∷ commands) (Appended ∷ answers) old new start are is proper run =
      append_on commands answers old run.0 new start (Write address value) (changes.Write address)
      (Put address value) (λ rest. refl) run.1.1 run.1.2
      (live_after_put old.map start.live address value are.0.0 is.are_live) is proper
      (λ here kept. late_run commands answers run.0 new
      (after_move start (Append (changes.Write address))) are.1 here kept run.2)
  late_run (Write address value ∷ commands) (Moved ∷ answers) old new start are is proper run =
      carry_on commands answers old run.0 new start (Write address value) (changes.Write address)
      (Put address value) (λ rest. refl) run.1.1 run.1.2
      (write_fits (slot_count size) old start address value are.0.0 is proper run.1.0.has_place)
      (live_after_put old.map start.live address value are.0.0 is.are_live) is
      (λ here kept. late_run commands answers run.0 new
      (after_move start (Carry (changes.Write address))) are.1 here kept run.2)
  late_run (Forget address ∷ commands) (Appended ∷ answers) old new start are is proper run =
      append_on commands answers old run.0 new start (Forget address) (changes.Forget address)
      (meaning.Forget address) (λ rest. refl) run.1.1 run.1.2
      (live_after_forget old.map start.live address is.are_live) is proper
      (λ here kept. late_run commands answers run.0 new
      (after_move start (Append (changes.Forget address))) are.1 here kept run.2)
  late_run (Forget address ∷ commands) (Moved ∷ answers) old new start are is proper run =
      carry_on commands answers old run.0 new start (Forget address) (changes.Forget address)
      (meaning.Forget address) (λ rest. refl) run.1.1 run.1.2
      (forgetting_fits start address proper)
      (live_after_forget old.map start.live address is.are_live) is
      (λ here kept. late_run commands answers run.0 new
      (after_move start (Carry (changes.Forget address))) are.1 here kept run.2)
  late_run (Forget address ∷ commands) (Absent ∷ answers) old new start are is proper run =
      search (
        rules,
        no_move,
        stays,
        (late_run commands answers run.0 new start are.1 (stays size old run.0 start run.1.1 is)
            proper run.2),
      )
  late_run (Forget address ∷ commands) (Spent ∷ answers) old new start are is proper run =
      search (
        rules,
        no_move,
        stays,
        (late_run commands answers run.0 new start are.1 (stays size old run.0 start run.1.2 is)
            proper run.2),
      )
  late_run (Write address value ∷ commands) (Full ∷ answers) old new start are is proper run =
      search (
        rules,
        no_move,
        stays,
        (late_run commands answers run.0 new start are.1 (stays size old run.0 start run.1.1 is)
            proper run.2),
      )
  late_run (Write address value ∷ commands) (Spent ∷ answers) old new start are is proper run =
      search (
        rules,
        no_move,
        stays,
        (late_run commands answers run.0 new start are.1 (stays size old run.0 start run.1.2 is)
            proper run.2),
      )
  late_run (Read address ∷ commands) (Value value ∷ answers) old new start are is proper run =
      search (
        rules,
        no_move,
        stays,
        (late_run commands answers run.0 new start are.1 (stays size old run.0 start run.1.1 is)
            proper run.2),
      )
  late_run (Read address ∷ commands) (NoValue ∷ answers) old new start are is proper run =
      search (
        rules,
        no_move,
        stays,
        (late_run commands answers run.0 new start are.1 (stays size old run.0 start run.1.1 is)
            proper run.2),
      )
  late_run (Clean ∷ commands) (Cleaned ∷ answers) old new start are is proper run =
      let step = run.1 in
      let here =
      start_stays (slot_count size) old run.0 start is (ap (λ s. s.map) step.1)
      (ap (λ s. s.fill) step.1) in
      no_move (slot_count size) start commands answers new Clean Cleaned refl (λ n. refl)
      (late_run commands answers run.0 new start are.1 here proper run.2)
  late_run (Clean ∷ commands) (Idle ∷ answers) old new start are is proper run =
      search (
        rules,
        no_move,
        stays,
        (late_run commands answers run.0 new start are.1 (stays size old run.0 start run.1.1 is)
            proper run.2),
      )
  late_run (Arm fuse ∷ commands) (Armed ∷ answers) old new start are is proper run =
      search (
        rules,
        no_move,
        stays,
        (late_run commands answers run.0 new start are.1 (stays size old run.0 start run.1 is)
            proper run.2),
      )
  late_run (PowerOn ∷ commands) (Opened ∷ answers) old new start are is proper run =
      search (
        rules,
        no_move,
        stays,
        (late_run commands answers run.0 new start are.1 (stays size old run.0 start run.1 is)
            proper run.2),
      )
  late_run (command ∷ commands) (answer ∷ answers) old new start are is proper run = absurd run.1

-- ---- the moves are the fewest

-- the moves of a late run of this trace stand where the tight certificate's stretches end
fewest_moves : (slots : ℕ) (start : Situation) (commands : List Command) (answers : List Answer)
    (new : State) (claim : Claim)
    → IsProper start → IsLateRun slots start commands answers new
    → IsTight start (trace_of (accepted_commands commands answers)) claim
    → AreFewest start (trace_of (accepted_commands commands answers)) answers claim
fewest_moves slots start commands answers new claim proper run tight =
    let trace = trace_of (accepted_commands commands answers) in
    let met =
    late_stores_meet_it_lem start trace claim run.moves proper tight run.changes_are run.late in
    let positions : moved_at 0 answers ≡ map (λ stretch. stretch.to) claim.stretches =
    sym (run.carried 0) ∙ met.0 in
    let count : moves answers ≡ length claim.stretches =
    ap length positions ∙ length_map claim.stretches in
    let reached = tight_is_met_lem start trace claim proper tight in
    record {
      tight = tight;
      certificate = tight_are_certificates_lem start trace claim tight;
      positions = positions;
      reached = (reached.0, reached.1, reached.2 ∙ sym count);
      fewest = λ schedule is.
          let certificate = tight_are_certificates_lem start trace claim tight in
          let bound =
          certificates_bound_schedules_lem start trace claim schedule proper certificate is in
          omega arith;
    }

-- ---- the values

module _ (size : Size) where
  from_map : (before after : meaning.Map) (commands : List Command) (answers : List Answer)
      (new : State)
      → after ≡ before
      → new.map ≡ changed_by (map_changes (accepted_commands commands answers)) after
      → new.map ≡ changed_by (map_changes (accepted_commands commands answers)) before
  from_map before after commands answers new is rest =
      rest ∙ ap (λ m. changed_by (map_changes (accepted_commands commands answers)) m) is

  -- the map at the end has what was written last
  pub values_are : (commands : List Command) (answers : List Answer) (old new : State)
      → Run (MachineStep size) old commands answers new
      → new.map ≡ changed_by (map_changes (accepted_commands commands answers)) old.map
  values_are [] [] old new run = ap (λ s. s.map) run
  values_are [] (answer ∷ answers) old new run = absurd run
  values_are (command ∷ commands) [] old new run = absurd run
  values_are (Write address value ∷ commands) (Appended ∷ answers) old new run =
      from_map (meaning.map_after (Put address value) old.map) run.0.map commands answers new
      (ap (λ (s : State). s.map) run.1.2) (values_are commands answers run.0 new run.2)
  values_are (Write address value ∷ commands) (Moved ∷ answers) old new run =
      from_map (meaning.map_after (Put address value) old.map) run.0.map commands answers new
      (ap (λ (s : State). s.map) run.1.2) (values_are commands answers run.0 new run.2)
  values_are (Write address value ∷ commands) (Full ∷ answers) old new run =
      from_map old.map run.0.map commands answers new (ap (λ (s : State). s.map) run.1.1)
      (values_are commands answers run.0 new run.2)
  values_are (Write address value ∷ commands) (Spent ∷ answers) old new run =
      from_map old.map run.0.map commands answers new (ap (λ (s : State). s.map) run.1.2)
      (values_are commands answers run.0 new run.2)
  values_are (Forget address ∷ commands) (Appended ∷ answers) old new run =
      from_map (meaning.map_after (meaning.Forget address) old.map) run.0.map commands answers new
      (ap (λ (s : State). s.map) run.1.2) (values_are commands answers run.0 new run.2)
  values_are (Forget address ∷ commands) (Moved ∷ answers) old new run =
      from_map (meaning.map_after (meaning.Forget address) old.map) run.0.map commands answers new
      (ap (λ (s : State). s.map) run.1.2) (values_are commands answers run.0 new run.2)
  values_are (Forget address ∷ commands) (Absent ∷ answers) old new run =
      from_map old.map run.0.map commands answers new (ap (λ (s : State). s.map) run.1.1)
      (values_are commands answers run.0 new run.2)
  values_are (Forget address ∷ commands) (Spent ∷ answers) old new run =
      from_map old.map run.0.map commands answers new (ap (λ (s : State). s.map) run.1.2)
      (values_are commands answers run.0 new run.2)
  values_are (Read address ∷ commands) (Value value ∷ answers) old new run =
      from_map old.map run.0.map commands answers new (ap (λ (s : State). s.map) run.1.1)
      (values_are commands answers run.0 new run.2)
  values_are (Read address ∷ commands) (NoValue ∷ answers) old new run =
      from_map old.map run.0.map commands answers new (ap (λ (s : State). s.map) run.1.1)
      (values_are commands answers run.0 new run.2)
  values_are (Clean ∷ commands) (Cleaned ∷ answers) old new run =
      from_map old.map run.0.map commands answers new (ap (λ (s : State). s.map) run.1.1)
      (values_are commands answers run.0 new run.2)
  values_are (Clean ∷ commands) (Idle ∷ answers) old new run =
      from_map old.map run.0.map commands answers new (ap (λ (s : State). s.map) run.1.1)
      (values_are commands answers run.0 new run.2)
  values_are (Arm fuse ∷ commands) (Armed ∷ answers) old new run =
      from_map old.map run.0.map commands answers new (ap (λ (s : State). s.map) run.1)
      (values_are commands answers run.0 new run.2)
  values_are (PowerOn ∷ commands) (Opened ∷ answers) old new run =
      from_map old.map run.0.map commands answers new (ap (λ (s : State). s.map) run.1)
      (values_are commands answers run.0 new run.2)
  values_are (command ∷ commands) (answer ∷ answers) old new run = absurd run.1

  -- ---- where all changes fit

  -- after a command that changes nothing and takes no generation the others fit
  fits_on : (old mid : State) (start : Situation) (command : Command) (commands : List Command)
      → trace_of (command ∷ commands) ≡ trace_of commands
      → (ForgetsWhatIsHeld old.map (command ∷ commands) → ForgetsWhatIsHeld old.map commands)
      → mid.generation ≡ old.generation → mid.map ≡ old.map
      → TraceFits start old (command ∷ commands) → TraceFits start mid commands
  fits_on old mid start command commands none held same map fits = search rules

  -- after a change that takes one generation at most, the other changes fit
  fits_after : (old mid : State) (start next : Situation) (command : Command) (change : Change)
      (meant : meaning.Change) (commands : List Command)
      → AsksFor command change → mid.generation ≤ old.generation + 1
      → mid.map ≡ meaning.map_after meant old.map → next.slots ≡ start.slots
      → next.live ≡ live_after_one start.live change
      → ForgetsWhatIsHeld (meaning.map_after meant old.map) commands
      → TraceFits start old (command ∷ commands) → TraceFits next mid commands
  fits_after old mid start next command change meant commands asks later map slots live held fits =
      search (rules, keeps_tail)

  pub all_put : (commands : List Command) (answers : List Answer) (old new : State)
      (start : Situation)
      → AreCommands commands → IsStartOf (slot_count size) old start
      → Run (MachineStep size) old commands answers new → TraceFits start old commands
      → map_changes (accepted_commands commands answers) ≡ map_changes commands
  all_put [] [] old new start are is run fits = refl
  all_put [] (answer ∷ answers) old new start are is run fits = absurd run
  all_put (command ∷ commands) [] old new start are is run fits = absurd run
  all_put (Write address value ∷ commands) (Appended ∷ answers) old new start are is run fits =
      let next = after_move start (Append (changes.Write address)) in
      let live = live_after_put old.map start.live address value are.0.0 is.are_live in
      let here : IsStartOf (slot_count size) run.0 next =
      appends size old run.0 start (changes.Write address) (Put address value) run.1.2 live
      is in
      ap (λ l. Put address value ∷ l) (all_put commands answers run.0 new next are.1 here run.2
      (fits_after old run.0 start next (Write address value) (changes.Write address)
      (Put address value) commands (λ rest. refl)
      (omega (arith, ap (λ (s : State). s.generation) run.1.2)) (ap (λ s. s.map) run.1.2) refl
      refl fits.held fits))
  all_put (Write address value ∷ commands) (Moved ∷ answers) old new start are is run fits =
      let next = after_move start (Carry (changes.Write address)) in
      let live = live_after_put old.map start.live address value are.0.0 is.are_live in
      let here : IsStartOf (slot_count size) run.0 next =
      moves_on size old run.0 start (changes.Write address) (Put address value) run.1.2 live
      is in
      ap (λ l. Put address value ∷ l) (all_put commands answers run.0 new next are.1 here run.2
      (fits_after old run.0 start next (Write address value) (changes.Write address)
      (Put address value) commands (λ rest. refl)
      (omega (arith, ap (λ (s : State). s.generation) run.1.2)) (ap (λ s. s.map) run.1.2) refl
      refl fits.held fits))
  all_put (Write address value ∷ commands) (Full ∷ answers) old new start are is run fits =
      absurd (not_full (slot_count size) old start address are.0.0 is fits.keeps.0 run.1.0)
  all_put (Write address value ∷ commands) (Spent ∷ answers) old new start are is run fits =
      absurd (let g = fits.generations in
      let last = run.1.1.last_generation in omega arith)
  all_put (Forget address ∷ commands) (Appended ∷ answers) old new start are is run fits =
      let next = after_move start (Append (changes.Forget address)) in
      let live = live_after_forget old.map start.live address is.are_live in
      let here : IsStartOf (slot_count size) run.0 next =
      appends size old run.0 start (changes.Forget address) (meaning.Forget address) run.1.2
      live is in
      ap (λ l. meaning.Forget address ∷ l) (all_put commands answers run.0 new next are.1 here run.2
      (fits_after old run.0 start next (Forget address) (changes.Forget address)
      (meaning.Forget address) commands (λ rest. refl)
      (omega (arith, ap (λ (s : State). s.generation) run.1.2)) (ap (λ s. s.map) run.1.2) refl
      refl fits.held.1 fits))
  all_put (Forget address ∷ commands) (Moved ∷ answers) old new start are is run fits =
      let next = after_move start (Carry (changes.Forget address)) in
      let live = live_after_forget old.map start.live address is.are_live in
      let here : IsStartOf (slot_count size) run.0 next =
      moves_on size old run.0 start (changes.Forget address) (meaning.Forget address) run.1.2
      live is in
      ap (λ l. meaning.Forget address ∷ l) (all_put commands answers run.0 new next are.1 here run.2
      (fits_after old run.0 start next (Forget address) (changes.Forget address)
      (meaning.Forget address) commands (λ rest. refl)
      (omega (arith, ap (λ (s : State). s.generation) run.1.2)) (ap (λ s. s.map) run.1.2) refl
      refl fits.held.1 fits))
  all_put (Forget address ∷ commands) (Absent ∷ answers) old new start are is run fits =
      absurd (fits.held.0 run.1.0)
  all_put (Forget address ∷ commands) (Spent ∷ answers) old new start are is run fits =
      absurd (let g = fits.generations in
      let last = run.1.1.last_generation in omega arith)
  all_put (Read address ∷ commands) (Value value ∷ answers) old new start are is run fits =
      search (
        rules,
        fits_on,
        stays,
        (all_put commands answers run.0 new start are.1 (stays size old run.0 start run.1.1 is)
            run.2
            (fits_on old run.0 start (Read address) commands refl (λ h. h)
            (ap (λ s. s.generation) run.1.1) (ap (λ s. s.map) run.1.1) fits)),
      )
  all_put (Read address ∷ commands) (NoValue ∷ answers) old new start are is run fits =
      search (
        rules,
        fits_on,
        stays,
        (all_put commands answers run.0 new start are.1 (stays size old run.0 start run.1.1 is)
            run.2
            (fits_on old run.0 start (Read address) commands refl (λ h. h)
            (ap (λ s. s.generation) run.1.1) (ap (λ s. s.map) run.1.1) fits)),
      )
  all_put (Clean ∷ commands) (Cleaned ∷ answers) old new start are is run fits =
      let here =
      start_stays (slot_count size) old run.0 start is (ap (λ s. s.map) run.1.1)
      (ap (λ s. s.fill) run.1.1) in
      all_put commands answers run.0 new start are.1 here run.2
      (fits_on old run.0 start Clean commands refl (λ h. h) (ap (λ s. s.generation) run.1.1)
      (ap (λ s. s.map) run.1.1) fits)
  all_put (Clean ∷ commands) (Idle ∷ answers) old new start are is run fits =
      search (
        rules,
        fits_on,
        stays,
        (all_put commands answers run.0 new start are.1 (stays size old run.0 start run.1.1 is)
            run.2
            (fits_on old run.0 start Clean commands refl (λ h. h) (ap (λ s. s.generation) run.1.1)
            (ap (λ s. s.map) run.1.1) fits)),
      )
  all_put (Arm fuse ∷ commands) (Armed ∷ answers) old new start are is run fits =
      search (
        rules,
        fits_on,
        stays,
        (all_put commands answers run.0 new start are.1 (stays size old run.0 start run.1 is)
            run.2
            (fits_on old run.0 start (Arm fuse) commands refl (λ h. h)
            (ap (λ s. s.generation) run.1) (ap (λ s. s.map) run.1) fits)),
      )
  all_put (PowerOn ∷ commands) (Opened ∷ answers) old new start are is run fits =
      search (
        rules,
        fits_on,
        stays,
        (all_put commands answers run.0 new start are.1 (stays size old run.0 start run.1 is)
            run.2
            (fits_on old run.0 start PowerOn commands refl (λ h. h) (ap (λ s. s.generation) run.1)
            (ap (λ s. s.map) run.1) fits)),
      )
  all_put (command ∷ commands) (answer ∷ answers) old new start are is run fits = absurd run.1

-- ---- the run of a script, together

module _ (size : Size) where
  -- and its moves are the fewest
  pub run_fewest : (commands : List Command) (answers : List Answer) (old new : State)
      (start : Situation) (claim : Claim)
      → AreCommands commands → IsStartOf (slot_count size) old start → IsProper start
      → Run (MachineStep size) old commands answers new
      → IsTight start (trace_of (accepted_commands commands answers)) claim
      → AreFewest start (trace_of (accepted_commands commands answers)) answers claim
  run_fewest commands answers old new start claim are is proper run tight =
      fewest_moves (slot_count size) start commands answers new claim proper
      (late_run size commands answers old new start are is proper run) tight

  -- as many as the certificate has stretches
  pub run_count : (commands : List Command) (answers : List Answer) (old new : State)
      (start : Situation) (claim : Claim)
      → AreCommands commands → IsStartOf (slot_count size) old start → IsProper start
      → Run (MachineStep size) old commands answers new
      → IsTight start (trace_of (accepted_commands commands answers)) claim
      → moves answers ≡ length claim.stretches
  run_count commands answers old new start claim are is proper run tight =
      search (rules, length_map, run_fewest)

  -- and as many slots are used at the end as the certificate says
  pub run_fill : (commands : List Command) (answers : List Answer) (old new : State)
      (start : Situation) (claim : Claim)
      → AreCommands commands → IsStartOf (slot_count size) old start → IsProper start
      → Run (MachineStep size) old commands answers new
      → IsTight start (trace_of (accepted_commands commands answers)) claim
      → new.fill ≡ used_at_end start (trace_of (accepted_commands commands answers)) claim.stretches
  run_fill commands answers old new start claim are is proper run tight =
      let late = late_run size commands answers old new start are is proper run in
      let met =
      late_stores_meet_it_lem start (trace_of (accepted_commands commands answers)) claim
      late.moves proper tight late.changes_are late.late in
      sym late.end.fill_is ∙ met.1

  -- so each store makes more transfers, or as many, and ends with no more room
  pub run_room : (commands : List Command) (answers : List Answer) (old new : State)
      (start : Situation) (claim : Claim)
      → AreCommands commands → IsStartOf (slot_count size) old start → IsProper start
      → Run (MachineStep size) old commands answers new
      → IsTight start (trace_of (accepted_commands commands answers)) claim
      → NoneEndsWithMoreRoom start (trace_of (accepted_commands commands answers)) (moves answers)
      new.fill
  run_room commands answers old new start claim are is proper run tight = λ schedule scheduled.
      let trace = trace_of (accepted_commands commands answers) in
      let count = run_count commands answers old new start claim are is proper run tight in
      let fill = run_fill commands answers old new start claim are is proper run tight in
      let certificate = tight_are_certificates_lem start trace claim tight in
      elim (certificates_dominate_lem start trace claim schedule proper certificate scheduled) [
        | inl more ↦ inl (omega arith)
        | inr same ↦ inr (same.0 ∙ sym count, omega arith)
      ]
