-- What a report says in the end.
use Rattle.std.proofs.Common.{◌≡◌, ◌∙◌, ◌-◌, ◌++◌, ℕ, Bool, cond, List, ap, append_assoc, codes, decimal, false, inl, inr, length, refl, subst, sym, true, arith}
use Rattle.std.proofs.lemmas.Grind.{common_steps}
use Rattle.ee_flash.specs.Device.{Device}
use Rattle.std.proofs.lemmas.Bool.{cases_Bool}
use Rattle.ee_flash.specs.Size.{Size, slot_count}
use Rattle.ee_check.specs.Schedule.{IsProper, Situation}
use Rattle.ee_check.specs.Text.{text_of}
use Rattle.ee_plan.specs.Start.{IsStartOf}
use Rattle.ee_interface.specs.Script.Answer.{report}
use Rattle.ee_pages.specs.Meaning.{live_in}
use Rattle.ee_core.specs.State.{State, state_of}
use Rattle.ee_core.specs.Points.{Point}
use Rattle.ee_interface.specs.declared.script.command.Command.{Command}
use Rattle.ee_interface.specs.Script.Run.{Run}
use Rattle.ee_image_store.specs.Machine.{Desk, DeskStep, desk_with, was_cut}
use Rattle.ee_replay.specs.Report.{IsReported, cut_report_text, desk_line, end_line}
use Rattle.ee_replay.specs.Lines.{answers_of, point_behind}
use Rattle.ee_replay.specs.Serving.{IsServed, IsTraced, Notes, certificate_text, claim_noted, claim_since, desk_of, report_of, serving_on}
use Rattle.ee_image_store.specs.Opening.{StaysOn}
use Rattle.ee_image_store.specs.Trace.{accepted_commands, moves, trace_of}
use Rattle.ee_plan.proofs.Public.{fewest_transfers_wear_lem, live_count_is}
use Rattle.ee_replay.proofs.Desks.{IsDeskRun, desk_run}
use Rattle.ee_replay.proofs.Kept.{keeps_all}
use Rattle.ee_replay.proofs.Late.{all_put, run_fewest, run_room, values_are}
use Rattle.ee_replay.proofs.Runs.{machine_run}
use Rattle.ee_replay.proofs.ScriptWears.{made_of}
use Rattle.ee_replay.proofs.UncutRuns.{IsRunOpen, run_open}

-- a name and a number written behind what was written before them
further : (old mid new before name number : List ℕ) → mid ≡ old ++ before
    → new ≡ mid ++ (name ++ number) → new ≡ old ++ (before ++ name ++ number)
further old mid new before name number begun ended =
    ended ∙ ap (λ l. l ++ (name ++ number)) begun ∙ append_assoc old before (name ++ number)
    ∙ ap (λ l. old ++ l) (sym (append_assoc before name number))

-- the line of the end, part by part
pub end_written : (old one two three four five new : List ℕ)
    (slots transfers fill room live pending : ℕ) (state : State)
    → fill ≡ state.fill → room ≡ slots - fill → live ≡ live_in state.map → pending ≡ state.pending
    → one ≡ old ++ (codes "end fill " ++ decimal fill)
    → two ≡ one ++ (codes " room " ++ decimal room)
    → three ≡ two ++ (codes " live " ++ decimal live)
    → four ≡ three ++ (codes " pending " ++ decimal pending)
    → five ≡ four ++ (codes " transfers " ++ decimal transfers) → new ≡ five ++ codes "\n"
    → new ≡ old ++ end_line slots state transfers
end_written old one two three four five new slots transfers fill room live pending state a b c d e f
    g h i j =
    grind (arith, common_steps, further)

-- ---- the whole report

-- what was answered, and what was noted
module _ (old : Device) (new : Point) (text lines : List ℕ) (notes : Notes)
    (run : IsTraced old text new notes lines) where
  -- the parts of the report, put together
  all_parts : (ended reported line rest : List ℕ) → ended ≡ lines ++ line → reported ≡ ended ++ rest
      → reported ≡ report run.answered.answers ++ (line ++ rest)
  all_parts ended reported line rest end all =
      all ∙ ap (λ l. l ++ rest) (end ∙ ap (λ l. l ++ line) run.answered.report_is)
      ∙ append_assoc (report run.answered.answers) line rest

  -- how the desk stands at the end
  line_is : (ended : List ℕ) → new.device.size ≡ old.size
      → ended
      ≡ lines
      ++ desk_line (slot_count new.device.size) new.serving (state_of new.device)
      (length notes.stretches)
      → ended
      ≡ lines
      ++ desk_line (slot_count old.size) new.serving (state_of new.device)
      (moves run.answered.answers)
  line_is ended sizes end = cc

  -- after a cut
  cut_report : (ended reported : List ℕ) → new.device.size ≡ old.size
      → ended
      ≡ lines
      ++ desk_line (slot_count new.device.size) new.serving (state_of new.device)
      (length notes.stretches)
      → reported ≡ ended ++ codes "no certificate\n"
      → reported ≡ cut_report_text (slot_count old.size) run.answered.answers (desk_of new)
  cut_report ended reported sizes end all =
      all_parts ended reported _ (codes "no certificate\n") (line_is ended sizes end) all

  -- and where no line was cut
  module _ (start : Situation) (is : IsStartOf (slot_count old.size) (state_of old) start)
      (proper : IsProper start) (plain : was_cut run.answered.answers ≡ false) where
    uncut_report : (ended reported : List ℕ)
        → ended
        ≡ lines
        ++ desk_line (slot_count new.device.size) new.serving (state_of new.device)
        (length notes.stretches)
        → reported ≡ ended ++ text_of (claim_noted start notes)
        → IsReported old.size (state_of old) run.answered.commands run.answered.answers
        (state_of new.device) reported
    uncut_report ended reported end all =
        let commands = run.answered.commands in
        let answers = run.answered.answers in
        let are = run.answered.is_script.proper in
        let claim = claim_noted start notes in
        let whole : IsRunOpen old commands answers new =
        run_open old new commands answers plain run.answered.run in
        let machine = machine_run old new.device commands answers whole.run in
        let tight = run.tight plain start is proper in
        let line = line_is ended machine.same_size end in
        let fewest =
        run_fewest old.size commands answers (state_of old) (state_of new.device) start claim
        are is proper machine.run tight in
        let standing : ended
        ≡ lines ++ end_line (slot_count old.size) (state_of new.device) (moves answers) =
        line
        ∙ ap
        (λ serving. lines
        ++ desk_line (slot_count old.size) serving (state_of new.device)
        (moves answers)) whole.still in
        record {
          start = start;
          claim = claim;
          run = machine.run;
          start_is = is;
          fewest = fewest;
          lasts =
              fewest_transfers_wear_lem start (trace_of (accepted_commands commands answers))
              (moves answers) fewest.fewest;
          room = run_room old.size commands answers (state_of old) (state_of new.device) start claim
              are is proper machine.run tight;
          values =
              values_are old.size commands answers (state_of old) (state_of new.device) machine.run;
          all_accepted =
              all_put old.size commands answers (state_of old) (state_of new.device) start are is
              machine.run;
          report_is = all_parts ended reported _ (text_of claim) standing all;
        }

-- the report is the function's
claim_is : (slots : ℕ) (state : State) (start : Situation) (notes : Notes)
    → IsStartOf slots state start → claim_noted start notes ≡ claim_since slots state notes
claim_is slots state start notes is =
    let writes = notes.changes in
    let stretches = notes.stretches in
    let live = length start.live in
    let fill = start.fill in
    ap
    (λ (n : ℕ). record {
      slots = n;
      fill = fill;
      live = live;
      writes = writes;
      stretches = stretches;
    }) is.slots_are
    ∙ ap
    (λ (n : ℕ). record {
      slots = slots;
      fill = n;
      live = live;
      writes = writes;
      stretches = stretches;
    }) is.fill_is
    ∙ ap
    (λ (n : ℕ). record {
      slots = slots;
      fill = state.fill;
      live = n;
      writes = writes;
      stretches = stretches;
    }) (sym (live_count_is state.map start.live is.are_live))

certificate_is : (slots : ℕ) (state : State) (start : Situation) (notes : Notes)
    (ended reported : List ℕ)
    → IsStartOf slots state start
    → (notes.cut ≡ true → reported ≡ ended ++ codes "no certificate\n")
    → (notes.cut ≡ false → reported ≡ ended ++ text_of (claim_noted start notes))
    → reported ≡ ended ++ certificate_text slots state notes
certificate_is slots state start notes ended reported is cut plain =
    let by_cut : Bool → List ℕ =
    λ b. ended ++ cond b (codes "no certificate\n") (text_of (claim_since slots state notes)) in
    elim (cases_Bool notes.cut) [
      | inl was ↦ cut was ∙ ap by_cut (sym was)
      | inr never ↦
          plain never
          ∙ ap (λ claim. ended ++ text_of claim) (claim_is slots state start notes is)
          ∙ ap by_cut (sym never)
    ]

function_report : (old : Device) (new : Point) (text lines : List ℕ) (notes : Notes)
    (start : Situation) (ended reported : List ℕ)
    → (run : IsTraced old text new notes lines)
    → IsStartOf (slot_count old.size) (state_of old) start → new.device.size ≡ old.size
    → ended
    ≡ lines
    ++ desk_line (slot_count new.device.size) new.serving (state_of new.device)
    (length notes.stretches)
    → (notes.cut ≡ true → reported ≡ ended ++ codes "no certificate\n")
    → (notes.cut ≡ false → reported ≡ ended ++ text_of (claim_noted start notes))
    → reported ≡ report_of old run.answered.commands
function_report old new text lines notes start ended reported run is sizes end cut plain =
    let slots : ℕ = slot_count old.size in
    let state : State = state_of old in
    let commands : List Command = run.answered.commands in
    let desk : Point → Notes → List ℕ =
    λ point noted. desk_line slots point.serving (state_of point.device) (length noted.stretches)
    ++ certificate_text slots state noted in
    let sized : ended ≡ lines
    ++ desk_line slots new.serving (state_of new.device) (length notes.stretches) =
    end
    ∙ ap
    (λ (size : Size). lines
    ++ desk_line (slot_count size) new.serving (state_of new.device) (length notes.stretches))
    sizes in
    certificate_is slots state start notes ended reported is cut plain
    ∙ ap (λ front. front ++ certificate_text slots state notes) sized
    ∙ append_assoc lines
    (desk_line slots new.serving (state_of new.device) (length notes.stretches))
    (certificate_text slots state notes)
    ∙ ap (λ front. front ++ desk new notes) (run.answered.report_is ∙ ap report run.answers_are)
    ∙ ap (λ point. report (answers_of commands (serving_on old)) ++ desk point notes) run.point_is
    ∙ ap
    (λ noted. report (answers_of commands (serving_on old))
    ++ desk (point_behind commands (serving_on old)) noted) run.notes_are

-- no cut is to come yet
unarmed : (old : Device) → StaysOn old → desk_of (serving_on old) ≡ desk_with (state_of old)
unarmed old stays = rw stays.never_cut refl

-- the report of a script that was answered
pub is_served : (old : Device) (new : Point) (text lines : List ℕ) (notes : Notes)
    (start : Situation)
    → IsTraced old text new notes lines → IsStartOf (slot_count old.size) (state_of old) start
    → IsProper start → StaysOn old → (ended reported : List ℕ)
    → ended
    ≡ lines
    ++ desk_line (slot_count new.device.size) new.serving (state_of new.device)
    (length notes.stretches)
    → (notes.cut ≡ true → reported ≡ ended ++ codes "no certificate\n")
    → (notes.cut ≡ false → reported ≡ ended ++ text_of (claim_noted start notes))
    → IsServed old text new reported
is_served old new text lines notes start run is proper stays ended reported end cut plain =
    let commands = run.answered.commands in
    let answers = run.answered.answers in
    let desk : IsDeskRun (serving_on old) commands answers new =
    desk_run (serving_on old) new commands answers (inl stays.never_cut) run.answered.run in
    let machine =
    subst (λ (state : Desk). Run (DeskStep old.size) state commands answers (desk_of new))
    (unarmed old stays) desk.run in
    record {
      report = record {
        commands = commands;
        answers = answers;
        is_script = run.answered.is_script;
        run = machine;
        kept = keeps_all old.size commands answers (desk_with (state_of old)) (desk_of new) machine;
        uncut =
            λ e. uncut_report old new text lines notes run start is proper e ended reported end
            (plain (run.cut ∙ e));
        cut = λ e. cut_report old new text lines notes run ended reported desk.same_size end
            (cut (run.cut ∙ e));
      };
      made = made_of old new commands answers run.answered.run run.answers_are run.point_is;
      same_size = desk.same_size;
      report_is = function_report old new text lines notes start ended reported run is
          desk.same_size end cut plain;
    }
