-- What is noted of a store's changes is the tight certificate of its trace.
use Rattle.std.proofs.Common.{◌≡◌, ◌∙◌, ◌++◌, ℕ, ◌+◌, ◌*◌, ◌<◌, ◌≤◌, List, [], ◌∷◌, length, get_or, ap, arith, inl, inr, refl, subst, sym, append_assoc, append-nil, length-append, add-mul, one-mul, rules}
use Rattle.std.proofs.Math.Bool.{or-false, or_assoc, or_comm}
use Rattle.std.proofs.Math.Seq.{get_or-append_seam}
use Rattle.std.specs.Prelude.{Bool, false, true, ◌||◌, Err}
use Rattle.ee_flash.specs.Device.{Device, IsOn}
use Rattle.ee_flash.specs.Taking.{HasFuse}
use Rattle.ee_flash.specs.Size.{Size, slot_count}
use Rattle.ee_pages.specs.Meaning.{Put}
use Rattle.ee_pages.specs.Meaning as meaning
use Rattle.ee_core.specs.Changes.{Appends, IsAccepted, IsCutAppend, IsCutChange, IsCutMove, Moves}
use Rattle.ee_core.specs.State.{State, appended_state, moved_state, state_of}
use Rattle.std.proofs.lemmas.Bool.{cases_order}
use Rattle.std.proofs.lemmas.Grind.{common_steps}
use Rattle.ee_check.specs.declared.change.Change.{Change}
use Rattle.ee_check.specs.declared.change.Change.TheVariants as changes
use Rattle.ee_check.specs.Certificate.{IsCertificateHeader, IsTight}
use Rattle.ee_check.specs.Live.{live_after_one}
use Rattle.ee_check.specs.Schedule.{Append, Carry, IsProper, Situation, after_move}
use Rattle.ee_check.proofs.Public.{changed-le}
use Rattle.ee_plan.specs.Planner.LateStore.{HasMade}
use Rattle.ee_plan.specs.Start.{AreLive, IsStartOf}
use Rattle.ee_plan.proofs.PlannerLemmas.Public.{made_more, made_none, whole_tight}
use Rattle.ee_plan.proofs.Public.{live_after_forget, live_after_put, appends, forgetting_fits, moves_on, start_stays, write_fits}
use Rattle.ee_interface.specs.Script.Run.{Run}
use Rattle.ee_interface.specs.Script.Script.{AreCommands}
use Rattle.ee_interface.specs.Script.Whole.{IsAnswered}
use Rattle.ee_interface.specs.declared.script.answer.Answer.{Answer}
use Rattle.ee_interface.specs.declared.script.answer.Answer.TheVariants.{Appended, Moved, Full, Spent, Cleaned, Idle, Value, NoValue, Absent, Armed, Cut, Opened}
use Rattle.ee_interface.specs.declared.script.command.Command.{Command}
use Rattle.ee_interface.specs.declared.script.command.Command.TheVariants.{Write, Read, Forget, Clean, Arm, PowerOn}
use Rattle.ee_interface.proofs.ScriptLemmas.Public.{IsAnswered-seen}
use Rattle.ee_core.specs.Finished.{IsStore}
use Rattle.ee_core.specs.Points.{Point}
use Rattle.ee_core.specs.Runs.{Forgot, Wrote}
use Rattle.ee_core.specs.declared.variables.ForgetFault.{ForgetFault}
use Rattle.ee_core.specs.declared.variables.ForgetFault.TheVariants as forgetting
use Rattle.ee_core.specs.declared.variables.WriteFault.{WriteFault}
use Rattle.ee_core.specs.declared.variables.WriteFault.TheVariants as fault
use Rattle.ee_replay.specs.Desk.{CallsAtDesk, SaysTheSame}
use Rattle.ee_image_store.specs.Machine.{is_cut_answer, was_cut}
use Rattle.ee_replay.specs.Lines.{answers_of, point_behind}
use Rattle.ee_replay.proofs.Deciding.{ServesOn, run_decided}
use Rattle.ee_replay.specs.Serving.{LineAnswers, IsCounted, IsTraced, Noted, Notes, LineIsNoted, UncutLineAnswers, claim_noted, no_notes, notes_after, notes_behind, serving_on}
use Rattle.ee_image_store.specs.Trace.{accepted_commands, moved_at, trace_of}
use Rattle.ee_replay.proofs.Powering.{state_armed}
use Rattle.ee_replay.proofs.Runs.{neither}
use Rattle.ee_replay.proofs.UncutRuns.{at_open, served_open}

-- ---- a store that stays open

-- its device, and what is noted
record Held : Type 0 where
  device : Device
  notes : Notes

-- a line is served, and its answer is noted
record IsHeld (old : Held) (command : Command) (answer : Answer) (new : Held) : Type 0 where
  serves : UncutLineAnswers old.device command answer new.device
  notes_are : new.notes ≡ notes_after answer (state_of new.device).fill old.notes

abbrev held_at : Noted → Held
held_at noted = record { device = noted.point.device; notes = noted.notes }

-- ---- one change

-- What is noted after n changes of the trace is the late store's, and the state is such a store's.
record AreNoted (slots : ℕ) (start : Situation) (trace : List Change) (n : ℕ) (state : State)
    (notes : Notes) : Type 0 where
  now : Situation
  is : IsStartOf slots state now
  made : HasMade start trace n record { now = now; from = notes.from; stretches = notes.stretches }
  counted : notes.changes ≡ n

module _ (size : Size) (start : Situation) (trace : List Change) (n : ℕ) (below : n < length trace)
    (old new : State) (change : Change) (meant : meaning.Change)
    (here : change ≡ get_or trace n change) (notes : Notes)
    (so_far : AreNoted (slot_count size) start trace n old notes)
    (live : AreLive (meaning.map_after meant old.map) (live_after_one so_far.now.live change)) where
  note_append : old.fill < slot_count size → new ≡ appended_state meant old → (fill : ℕ)
      → AreNoted (slot_count size) start trace (n + 1) new (notes_after Appended fill notes)
  note_append free is fill =
      let now = so_far.now in
      let next = after_move now (Append change) in
      let room : now.fill < now.slots = let a = so_far.is.fill_is in
      let b = so_far.is.slots_are in omega arith in
      let more = changed-le now.live change in
      let held = so_far.made.held in
      record {
        now = next;
        is = appends size old new now change meant is live so_far.is;
        made = made_more start trace n (n + 1) change _
            record { now = next; from = notes.from; stretches = notes.stretches } refl below
            so_far.made here
            (inl (record { free = room; new_is = refl })) (omega arith);
        counted = ap (λ m. m + 1) so_far.counted;
      }

  note_move : length (live_after_one so_far.now.live change) ≤ so_far.now.slots
      → old.fill ≡ slot_count size → new ≡ moved_state size.pages (meant ∷ []) old
      → AreNoted (slot_count size) start trace (n + 1) new (notes_after Moved new.fill notes)
  note_move fits used is =
      let now = so_far.now in
      let next = after_move now (Carry change) in
      let all : now.slots ≤ now.fill = let a = so_far.is.fill_is in
      let b = so_far.is.slots_are in omega arith in
      let there = moves_on size old new now change meant is live so_far.is in
      let from : next.fill ≡ new.fill = there.fill_is in
      let made =
      made_more start trace n (n + 1) change _ record {
        now = next;
        from = next.fill;
        stretches = notes.stretches ++ record { to = n + 1; from = notes.from } ∷ [];
      }
      refl below so_far.made here (inr (record { used = all; new_is = refl })) fits in
      record {
        now = next;
        is = there;
        made = subst
            (λ m. HasMade start trace (n + 1) record {
              now = next;
              from = new.fill;
              stretches = notes.stretches ++ record { to = m + 1; from = notes.from } ∷ [];
            })
            (sym so_far.counted)
            (subst
            (λ m. HasMade start trace (n + 1) record {
              now = next;
              from = m;
              stretches =
                  notes.stretches ++ record { to = n + 1; from = notes.from } ∷ [];
            }) from
            made);
        counted = ap (λ m. m + 1) so_far.counted;
      }

-- what is so far is proper
proper_now : (slots : ℕ) (start : Situation) (trace : List Change) (n : ℕ) (state : State)
    (notes : Notes) (so_far : AreNoted slots start trace n state notes)
    → IsProper so_far.now
proper_now slots start trace n state notes so_far = record {
  held = so_far.made.held;
  fits = let a = so_far.made.fits in
      let b = so_far.made.slots in omega arith;
}

-- what leaves the map and the slots as they are is not noted
note_none : (slots : ℕ) (start : Situation) (trace : List Change) (n : ℕ) (old new : State)
    (notes : Notes)
    → new.map ≡ old.map → new.fill ≡ old.fill → AreNoted slots start trace n old notes
    → AreNoted slots start trace n new notes
note_none slots start trace n old new notes map fill so_far = search (rules, start_stays)

-- a call that leaves the device and the notes as they were
unchanged : (slots : ℕ) (start : Situation) (trace : List Change) (n : ℕ) (old new : Held)
    → new.device ≡ old.device → new.notes ≡ old.notes
    → AreNoted slots start trace n (state_of old.device) old.notes
    → AreNoted slots start trace n (state_of new.device) new.notes
unchanged slots start trace n old new device notes so_far = search rules

-- ---- a run

module _ (size : Size) (start : Situation) (trace : List Change) where
  -- the change here, with so many before it
  there : (before : List Change) (change : Change) (rest : List Change)
      → trace ≡ before ++ change ∷ rest
      → (length before < length trace) × (change ≡ get_or trace (length before) change)
  there before change rest parts = search (rules, get_or-append_seam, length-append)

  one_longer : (before : List Change) (change : Change)
      → length (before ++ change ∷ []) ≡ length before + 1
  one_longer before change = length-append before (change ∷ [])

  -- with the change among those before
  passed : (before : List Change) (change : Change) (rest : List Change)
      → trace ≡ before ++ change ∷ rest → trace ≡ (before ++ change ∷ []) ++ rest
  passed before change rest parts = parts ∙ sym (append_assoc before (change ∷ []) rest)

  -- an appended change, and what was noted of it
  appended_noted : (before : List Change) (old mid : Held) (change : Change)
      (meant : meaning.Change) (rest : List Change)
      → trace ≡ before ++ change ∷ rest → old.device.size ≡ size
      → Appends old.device meant mid.device
      → mid.notes ≡ notes_after Appended (state_of mid.device).fill old.notes
      → (so_far : AreNoted (slot_count size) start trace (length before) (state_of old.device)
      old.notes)
      → AreLive (meaning.map_after meant (state_of old.device).map)
      (live_after_one so_far.now.live change)
      → AreNoted (slot_count size) start trace (length (before ++ change ∷ []))
      (state_of mid.device) mid.notes
  appended_noted before old mid change meant rest parts sized call notes so_far live =
      let at = there before change rest parts in
      let free = subst (λ (s : Size). (state_of old.device).fill < slot_count s) sized call.free in
      let next =
      note_append size start trace (length before) at.0 (state_of old.device)
      (state_of mid.device) change meant at.1 old.notes so_far live free call.state_is
      (state_of mid.device).fill in
      let here =
      subst
      (λ (kept : Notes). AreNoted (slot_count size) start trace (length before + 1)
      (state_of mid.device) kept) (sym notes) next in
      subst (λ m. AreNoted (slot_count size) start trace m (state_of mid.device) mid.notes)
      (sym (one_longer before change)) here

  -- a change that was moved with the map
  moved_noted : (before : List Change) (old mid : Held) (change : Change) (meant : meaning.Change)
      (rest : List Change)
      → trace ≡ before ++ change ∷ rest → old.device.size ≡ size
      → Moves old.device (meant ∷ []) mid.device
      → mid.notes ≡ notes_after Moved (state_of mid.device).fill old.notes
      → (so_far : AreNoted (slot_count size) start trace (length before) (state_of old.device)
      old.notes)
      → AreLive (meaning.map_after meant (state_of old.device).map)
      (live_after_one so_far.now.live change)
      → length (live_after_one so_far.now.live change) ≤ so_far.now.slots
      → AreNoted (slot_count size) start trace (length (before ++ change ∷ []))
      (state_of mid.device) mid.notes
  moved_noted before old mid change meant rest parts sized call notes so_far live fits =
      let at = there before change rest parts in
      let used =
      subst (λ (s : Size). (state_of old.device).fill ≡ slot_count s) sized call.needed in
      let state =
      subst
      (λ (s : Size).
      state_of mid.device ≡ moved_state s.pages (meant ∷ []) (state_of old.device))
      sized call.state_is in
      let next =
      note_move size start trace (length before) at.0 (state_of old.device)
      (state_of mid.device) change meant at.1 old.notes so_far live fits used state in
      let here =
      subst
      (λ (kept : Notes). AreNoted (slot_count size) start trace (length before + 1)
      (state_of mid.device) kept) (sym notes) next in
      subst (λ m. AreNoted (slot_count size) start trace m (state_of mid.device) mid.notes)
      (sym (one_longer before change)) here

  notes_of_run : (commands : List Command) (answers : List Answer) (old new : Held)
      (before : List Change)
      → AreCommands commands → trace ≡ before ++ trace_of (accepted_commands commands answers)
      → old.device.size ≡ size → Run IsHeld old commands answers new
      → AreNoted (slot_count size) start trace (length before) (state_of old.device) old.notes
      → AreNoted (slot_count size) start trace (length trace) (state_of new.device) new.notes
  notes_of_run [] [] old new before are parts sized run so_far = search (rules, append-nil)
  notes_of_run [] (answer ∷ answers) old new before are parts sized run so_far = absurd run
  notes_of_run (command ∷ commands) [] old new before are parts sized run so_far = absurd run
  notes_of_run (Write address value ∷ commands) (Appended ∷ answers) old new before are parts sized
      run so_far =
      let rest = trace_of (accepted_commands commands answers) in
      let live =
      live_after_put (state_of old.device).map so_far.now.live address value are.0.0
      so_far.is.are_live in
      notes_of_run commands answers run.0 new (before ++ changes.Write address ∷ []) are.1
      (passed before (changes.Write address) rest parts) (run.1.serves.goes_on.same_size ∙ sized)
      run.2
      (appended_noted before old run.0 (changes.Write address) (Put address value) rest parts sized
      run.1.serves run.1.notes_are so_far live)
  notes_of_run (Write address value ∷ commands) (Moved ∷ answers) old new before are parts sized run
      so_far =
      let rest = trace_of (accepted_commands commands answers) in
      let live =
      live_after_put (state_of old.device).map so_far.now.live address value are.0.0
      so_far.is.are_live in
      let place =
      subst
      (λ (s : Size).
      IsAccepted (slot_count s) (state_of old.device) (Put address value ∷ [])) sized
      run.1.serves.proceeds.accepted in
      let fits =
      write_fits (slot_count size) (state_of old.device) so_far.now address value are.0.0
      so_far.is
      (proper_now (slot_count size) start trace (length before) (state_of old.device) old.notes
      so_far) place.has_place in
      notes_of_run commands answers run.0 new (before ++ changes.Write address ∷ []) are.1
      (passed before (changes.Write address) rest parts) (run.1.serves.goes_on.same_size ∙ sized)
      run.2
      (moved_noted before old run.0 (changes.Write address) (Put address value) rest parts sized
      run.1.serves run.1.notes_are so_far live fits)
  notes_of_run (Forget address ∷ commands) (Appended ∷ answers) old new before are parts sized run
      so_far =
      let rest = trace_of (accepted_commands commands answers) in
      let live =
      live_after_forget (state_of old.device).map so_far.now.live address so_far.is.are_live in
      notes_of_run commands answers run.0 new (before ++ changes.Forget address ∷ []) are.1
      (passed before (changes.Forget address) rest parts) (run.1.serves.goes_on.same_size ∙ sized)
      run.2
      (appended_noted before old run.0 (changes.Forget address) (meaning.Forget address) rest parts
      sized run.1.serves run.1.notes_are so_far live)
  notes_of_run (Forget address ∷ commands) (Moved ∷ answers) old new before are parts sized run
      so_far =
      let rest = trace_of (accepted_commands commands answers) in
      let live =
      live_after_forget (state_of old.device).map so_far.now.live address so_far.is.are_live in
      let fits =
      forgetting_fits so_far.now address
      (proper_now (slot_count size) start trace (length before) (state_of old.device)
      old.notes so_far) in
      notes_of_run commands answers run.0 new (before ++ changes.Forget address ∷ []) are.1
      (passed before (changes.Forget address) rest parts) (run.1.serves.goes_on.same_size ∙ sized)
      run.2
      (moved_noted before old run.0 (changes.Forget address) (meaning.Forget address) rest parts
      sized run.1.serves run.1.notes_are so_far live fits)
  notes_of_run (Write address value ∷ commands) (Full ∷ answers) old new before are parts sized run
      so_far = search (
        rules,
        unchanged,
        (notes_of_run commands answers run.0 new before are.1 parts
            (ap (λ (device : Device). device.size) run.1.serves.2 ∙ sized) run.2
            (unchanged (slot_count size) start trace (length before) old run.0 run.1.serves.2
            run.1.notes_are so_far)),
      )
  notes_of_run (Write address value ∷ commands) (Spent ∷ answers) old new before are parts sized run
      so_far = search (
        rules,
        unchanged,
        (notes_of_run commands answers run.0 new before are.1 parts
            (ap (λ (device : Device). device.size) run.1.serves.3 ∙ sized) run.2
            (unchanged (slot_count size) start trace (length before) old run.0 run.1.serves.3
            run.1.notes_are so_far)),
      )
  notes_of_run (Forget address ∷ commands) (Absent ∷ answers) old new before are parts sized run
      so_far = search (
        rules,
        unchanged,
        (notes_of_run commands answers run.0 new before are.1 parts
            (ap (λ (device : Device). device.size) run.1.serves.2 ∙ sized) run.2
            (unchanged (slot_count size) start trace (length before) old run.0 run.1.serves.2
            run.1.notes_are so_far)),
      )
  notes_of_run (Forget address ∷ commands) (Spent ∷ answers) old new before are parts sized run
      so_far = search (
        rules,
        unchanged,
        (notes_of_run commands answers run.0 new before are.1 parts
            (ap (λ (device : Device). device.size) run.1.serves.3 ∙ sized) run.2
            (unchanged (slot_count size) start trace (length before) old run.0 run.1.serves.3
            run.1.notes_are so_far)),
      )
  notes_of_run (Read address ∷ commands) (Value value ∷ answers) old new before are parts sized run
      so_far = search (
        rules,
        unchanged,
        (notes_of_run commands answers run.0 new before are.1 parts
            (ap (λ (device : Device). device.size) run.1.serves.1 ∙ sized) run.2
            (unchanged (slot_count size) start trace (length before) old run.0 run.1.serves.1
            run.1.notes_are so_far)),
      )
  notes_of_run (Read address ∷ commands) (NoValue ∷ answers) old new before are parts sized run
      so_far = search (
        rules,
        unchanged,
        (notes_of_run commands answers run.0 new before are.1 parts
            (ap (λ (device : Device). device.size) run.1.serves.1 ∙ sized) run.2
            (unchanged (slot_count size) start trace (length before) old run.0 run.1.serves.1
            run.1.notes_are so_far)),
      )
  notes_of_run (Clean ∷ commands) (Idle ∷ answers) old new before are parts sized run so_far =
      search (
        rules,
        unchanged,
        (notes_of_run commands answers run.0 new before are.1 parts
            (ap (λ (device : Device). device.size) run.1.serves.2 ∙ sized) run.2
            (unchanged (slot_count size) start trace (length before) old run.0 run.1.serves.2
            run.1.notes_are so_far)),
      )
  notes_of_run (Clean ∷ commands) (Cleaned ∷ answers) old new before are parts sized run so_far =
      let mid = run.0 in
      let call = run.1.serves in
      let next =
      note_none (slot_count size) start trace (length before) (state_of old.device)
      (state_of mid.device) old.notes (ap (λ (s : State). s.map) call.state_is)
      (ap (λ (s : State). s.fill) call.state_is) so_far in
      notes_of_run commands answers mid new before are.1 parts (call.goes_on.same_size ∙ sized)
      run.2
      (subst
      (λ (notes : Notes).
      AreNoted (slot_count size) start trace (length before) (state_of mid.device) notes)
      (sym run.1.notes_are) next)
  notes_of_run (Arm fuse ∷ commands) (Armed ∷ answers) old new before are parts sized run so_far =
      let mid = run.0 in
      let same = ap state_of run.1.serves ∙ state_armed fuse old.device in
      let next =
      note_none (slot_count size) start trace (length before) (state_of old.device)
      (state_of mid.device) old.notes (ap (λ (s : State). s.map) same)
      (ap (λ (s : State). s.fill) same) so_far in
      notes_of_run commands answers mid new before are.1 parts
      (ap (λ (device : Device). device.size) run.1.serves ∙ sized) run.2
      (subst
      (λ (notes : Notes).
      AreNoted (slot_count size) start trace (length before) (state_of mid.device) notes)
      (sym run.1.notes_are) next)
  notes_of_run (PowerOn ∷ commands) (Opened ∷ answers) old new before are parts sized run so_far =
      search (
        rules,
        unchanged,
        (notes_of_run commands answers run.0 new before are.1 parts
            (ap (λ (device : Device). device.size) run.1.serves ∙ sized) run.2
            (unchanged (slot_count size) start trace (length before) old run.0 run.1.serves
            run.1.notes_are so_far)),
      )
  notes_of_run (command ∷ commands) (answer ∷ answers) old new before are parts sized run so_far =
      absurd run.1.serves

-- ---- a script

-- what was noted of a run is the tight certificate of its trace
noted_tight : (old new : Held) (commands : List Command) (answers : List Answer) (start : Situation)
    → AreCommands commands → old.notes ≡ no_notes (state_of old.device).fill
    → Run IsHeld old commands answers new
    → IsStartOf (slot_count old.device.size) (state_of old.device) start → IsProper start
    → IsTight start (trace_of (accepted_commands commands answers)) (claim_noted start new.notes)
noted_tight old new commands answers start are fresh run is proper =
    let trace = trace_of (accepted_commands commands answers) in
    let begun : AreNoted (slot_count old.device.size) start trace 0 (state_of old.device)
    (no_notes (state_of old.device).fill) =
    record {
      now = start;
      is = is;
      made = made_none start trace _ proper
          (ap (λ m. record { now = start; from = m; stretches = [] }) (sym is.fill_is));
      counted = refl;
    } in
    let first =
    subst
    (λ (notes : Notes).
    AreNoted (slot_count old.device.size) start trace 0 (state_of old.device) notes)
    (sym fresh) begun in
    let last =
    notes_of_run old.device.size start trace commands answers old new [] are refl refl run
    first in
    let header : IsCertificateHeader start trace (claim_noted start new.notes) =
    record { slots = refl; fill = refl; live = refl; writes = last.counted } in
    whole_tight start trace
    record { now = last.now; from = new.notes.from; stretches = new.notes.stretches }
    (claim_noted start new.notes) last.made refl header

-- a run at a desk in which no line was cut is one of a store that stays open
held_run : (device : Device) (old new : Noted) (commands : List Command) (answers : List Answer)
    → was_cut answers ≡ false → old.point ≡ serving_on device
    → Run LineIsNoted old commands answers new
    → Run IsHeld (record { device = device; notes = old.notes }) commands answers (held_at new)
held_run device old new [] [] plain still run = search (rules, there)
held_run device old new [] (answer ∷ answers) plain still run = absurd run
held_run device old new (command ∷ commands) [] plain still run = absurd run
held_run device old new (command ∷ commands) (answer ∷ answers) plain still run =
    let parts = neither (is_cut_answer answer) (was_cut answers) plain in
    let mid = run.0 in
    let point = mid.point in
    let here =
    served_open device command answer point parts.0
    (subst (λ (from : Point). LineAnswers from command answer point) still run.1.attends) in (
      held_at mid,
      record { serves = here.serves; notes_are = run.1.notes_are },
      held_run point.device mid new commands answers parts.1 (at_open point here.still) run.2,
    )

-- without what is noted
run_attended : (old new : Noted) (commands : List Command) (answers : List Answer)
    → Run LineIsNoted old commands answers new
    → Run LineAnswers old.point commands answers new.point
run_attended old new [] [] run = ap (λ (n : Noted). n.point) run
run_attended old new [] (answer ∷ answers) run = absurd run
run_attended old new (command ∷ commands) [] run = absurd run
run_attended old new (command ∷ commands) (answer ∷ answers) run =
    (run.0.point, run.1.attends, run_attended run.0 new commands answers run.2)

-- each answer `moved` ends a stretch
one_stretch : (answer : Answer) (fill n : ℕ) (notes : Notes) (answers : List Answer)
    → (m : ℕ)
    × (length (moved_at n (answer ∷ answers)) + length notes.stretches
    ≡ length (moved_at m answers) + length (notes_after answer fill notes).stretches)
one_stretch Appended fill n notes answers = (n + 1, refl)
one_stretch Moved fill n notes answers = (
  n + 1,
  omega (
    arith,
    length-append notes.stretches
        (record { to = notes.changes + 1; from = notes.from } ∷ []),
  ),
)
one_stretch answer fill n notes answers = (n, refl)

stretches_are : (old new : Noted) (commands : List Command) (answers : List Answer) (n : ℕ)
    → Run LineIsNoted old commands answers new
    → length new.notes.stretches ≡ length (moved_at n answers) + length old.notes.stretches
stretches_are old new [] [] n run =
    let same = ap (λ (noted : Noted). length noted.notes.stretches) run in omega arith
stretches_are old new [] (answer ∷ answers) n run = absurd run
stretches_are old new (command ∷ commands) [] n run = absurd run
stretches_are old new (command ∷ commands) (answer ∷ answers) n run =
    let one = one_stretch answer (state_of run.0.point.device).fill n old.notes answers in
    let rest = stretches_are run.0 new commands answers one.0 run.2 in
    let same = ap (λ (notes : Notes). length notes.stretches) run.1.notes_are in
    omega (arith, one.1, rest, same)

-- and each `cut` is noted
one_cut : (answer : Answer) (fill : ℕ) (notes : Notes)
    → (notes_after answer fill notes).cut ≡ (is_cut_answer answer || notes.cut)
one_cut Cut fill notes = refl
one_cut answer fill notes = refl

cuts_are : (old new : Noted) (commands : List Command) (answers : List Answer)
    → Run LineIsNoted old commands answers new → new.notes.cut ≡ (was_cut answers || old.notes.cut)
cuts_are old new [] [] run = ap (λ (n : Noted). n.notes.cut) run
cuts_are old new [] (answer ∷ answers) run = absurd run
cuts_are old new (command ∷ commands) [] run = absurd run
cuts_are old new (command ∷ commands) (answer ∷ answers) run =
    let was = was_cut answers in
    let kept =
    ap (λ (notes : Notes). was || notes.cut) run.1.notes_are
    ∙ ap (λ (cut : Bool). was || cut)
    (one_cut answer (state_of run.0.point.device).fill old.notes) in
    cuts_are run.0 new commands answers run.2 ∙ kept
    ∙ sym (or_assoc was (is_cut_answer answer) old.notes.cut)
    ∙ ap (λ (cut : Bool). cut || old.notes.cut) (or_comm was (is_cut_answer answer))

-- what serves, as its desk and its notes are seen
pub is_traced : {S : Type 0} (see : S → Noted) (device : Device) (old new : S) (text lines : List ℕ)
    → IsAnswered (λ from command answer to. LineIsNoted (see from) command answer (see to)) old text
    new lines
    → (see old).point ≡ serving_on device → (see old).notes ≡ no_notes (state_of device).fill
    → IsOn device → HasFuse device → IsTraced device text (see new).point (see new).notes lines
is_traced see device old new text lines answered still fresh on fused =
    let seen = IsAnswered-seen see LineIsNoted old new text lines answered in
    let attended =
    subst
    (λ (point : Point). Run LineAnswers point seen.commands seen.answers (see new).point) still
    (run_attended (see old) (see new) seen.commands seen.answers seen.run) in
    let decided =
    run_decided (see old) (see new) seen.commands seen.answers
    (subst ServesOn (sym still) (λ serves. on))
    (subst (λ (point : Point). HasFuse point.device) (sym still) fused) seen.run in
    record {
      answered = record {
        commands = seen.commands;
        answers = seen.answers;
        is_script = seen.is_script;
        run = attended;
        report_is = seen.report_is;
      };
      answers_are = decided.said ∙ ap (answers_of seen.commands) still;
      point_is = decided.left ∙ ap (point_behind seen.commands) still;
      notes_are = decided.noted
          ∙ ap (λ (point : Point). notes_behind seen.commands point (see old).notes) still
          ∙ ap (notes_behind seen.commands (serving_on device)) fresh;
      transfers =
          omega (
            arith,
            stretches_are (see old) (see new) seen.commands seen.answers 0 seen.run,
            ap (λ (notes : Notes). length notes.stretches) fresh,
          );
      cut = cuts_are (see old) (see new) seen.commands seen.answers seen.run
          ∙ ap (λ (notes : Notes). was_cut seen.answers || notes.cut) fresh
          ∙ or-false (was_cut seen.answers);
      tight = λ plain start is proper.
          noted_tight (record { device = device; notes = (see old).notes }) (held_at (see new))
          seen.commands seen.answers start seen.is_script.proper fresh
          (held_run device (see old) (see new) seen.commands seen.answers plain still seen.run) is
          proper;
    }

-- ---- how many changes are counted

count_one : (counted generation slots fill next wide full : ℕ) → next ≡ generation → wide ≡ slots
    → full ≡ fill + 1 → counted ≤ generation * (slots + 1) + fill
    → counted + 1 ≤ next * (wide + 1) + full
count_one counted generation slots fill next wide full a b c h = rw (a, b, c) (omega (arith, h))

count_turn : (counted generation slots fill next wide full : ℕ) → next ≡ generation + 1
    → wide ≡ slots → fill ≡ slots → counted ≤ generation * (slots + 1) + fill
    → counted + 1 ≤ next * (wide + 1) + full
count_turn counted generation slots fill next wide full a b c h = search (rules, add-mul, one-mul)

-- before the first change
pub none_counted : (device : Device) (fill : ℕ) → IsStore device → fill ≡ (state_of device).fill
    → IsCounted device (no_notes fill)
none_counted device fill store is = grind (arith, common_steps)

-- where the size and the state are as before
same_place : (old new : Device) (notes : Notes) → new.size ≡ old.size → state_of new ≡ state_of old
    → IsCounted old notes → IsCounted new notes
same_place old new notes sized same counted = search rules

-- and where one slot more is used
one_slot_more : (old new : Device) (notes : Notes) → new.size ≡ old.size
    → (state_of new).generation ≡ (state_of old).generation
    → (state_of new).fill ≡ (state_of old).fill + 1 → IsCounted old notes → IsCounted new notes
one_slot_more old new notes sized same filled counted = search (rules, count_one)

-- nor is it passed by a change that is cut
cut_append_counted : (old new : Device) (change : meaning.Change) (notes : Notes)
    → new.size ≡ old.size → IsCutAppend (state_of old) change (state_of new) → IsCounted old notes
    → IsCounted new notes
cut_append_counted old new change notes sized (inl same) counted =
    same_place old new notes sized same counted
cut_append_counted old new change notes sized (inr (inl torn)) counted =
    one_slot_more old new notes sized (ap (λ (s : State). s.generation) torn)
    (ap (λ (s : State). s.fill) torn) counted
cut_append_counted old new change notes sized (inr (inr made)) counted =
    one_slot_more old new notes sized (ap (λ (s : State). s.generation) made)
    (ap (λ (s : State). s.fill) made) counted

cut_move_counted : (old new : Device) (change : meaning.Change) (notes : Notes)
    → new.size ≡ old.size → (state_of old).fill ≡ slot_count old.size
    → IsAccepted (slot_count old.size) (state_of old) (change ∷ [])
    → IsCutMove old.size.pages old.size.pages (state_of old) (change ∷ []) (state_of new)
    → IsCounted old notes → IsCounted new notes
cut_move_counted old new change notes sized used accepted (inl kept) counted = search rules
cut_move_counted old new change notes sized used accepted (inr made) counted =
    search (rules, count_turn)

pub counted_cut : (old new : Device) (change : meaning.Change) (notes : Notes)
    → IsCutChange old change new → IsCounted old notes → IsCounted new (notes_after Cut 0 notes)
counted_cut old new change notes cut counted =
    let there : IsCounted new notes = elim (cases_order (state_of old).fill (slot_count old.size)) [
      | inl used ↦ cut_move_counted old new change notes cut.cut.same_size used
          cut.proceeds.accepted (cut.all_used used) counted
      | inr (inl free) ↦ cut_append_counted old new change notes cut.cut.same_size (cut.free free)
          counted
      | inr (inr more) ↦ absurd (omega (arith, more, cut.within))
    ] in
    record { slots = there.slots; generation = there.generation; changes = there.changes }

-- where a call at a desk is cut
wrote_counted : (serving : Bool) (old : Device) (new : Point) (address value : ℕ) (notes : Notes)
    → CallsAtDesk serving old (Wrote address value (Err fault.Cut)) new → IsCounted old notes
    → IsCounted new.device (notes_after Cut 0 notes)
wrote_counted true old new address value notes calls counted =
    counted_cut old new.device (Put address value) notes calls.1 counted
wrote_counted false old new address value notes calls counted = absurd calls.0

pub wrote_cut_counted : (serving : Bool) (old : Device) (new : Point) (address value : ℕ)
    (notes kept : Notes) (answer : WriteFault)
    → answer ≡ fault.Cut → CallsAtDesk serving old (Wrote address value (Err answer)) new
    → IsCounted old notes → kept ≡ notes_after Cut 0 notes → IsCounted new.device kept
wrote_cut_counted serving old new address value notes kept answer cut calls counted is =
    subst (IsCounted new.device) (sym is)
    (wrote_counted serving old new address value notes
    (subst (λ (one : WriteFault). CallsAtDesk serving old (Wrote address value (Err one)) new)
    cut calls) counted)

forgot_counted : (serving : Bool) (old : Device) (new : Point) (address : ℕ) (notes : Notes)
    → CallsAtDesk serving old (Forgot address (Err forgetting.Cut)) new → IsCounted old notes
    → IsCounted new.device (notes_after Cut 0 notes)
forgot_counted true old new address notes calls counted =
    counted_cut old new.device (meaning.Forget address) notes calls.1 counted
forgot_counted false old new address notes calls counted = absurd calls.0

pub forgot_cut_counted : (serving : Bool) (old : Device) (new : Point) (address : ℕ)
    (notes kept : Notes) (answer : ForgetFault)
    → answer ≡ forgetting.Cut → CallsAtDesk serving old (Forgot address (Err answer)) new
    → IsCounted old notes → kept ≡ notes_after Cut 0 notes → IsCounted new.device kept
forgot_cut_counted serving old new address notes kept answer cut calls counted is =
    subst (IsCounted new.device) (sym is)
    (forgot_counted serving old new address notes
    (subst (λ (one : ForgetFault). CallsAtDesk serving old (Forgot address (Err one)) new) cut
    calls) counted)

-- where the image says the same
pub counted_same : (old new : Device) (notes kept : Notes) → SaysTheSame old new
    → kept.changes ≡ notes.changes → IsCounted old notes → IsCounted new kept
counted_same old new notes kept same changes counted = search (rules, same_place, there)
