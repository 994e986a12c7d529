use Rattle.std.proofs.Common.{◌≡◌, Bool, true, false, Err, subst, sym}
use Rattle.ee_flash.specs.Device.{Device}
use Rattle.ee_flash.specs.Taking.{HasFuse}
use Rattle.ee_core.specs.Points.{open_point}
use Rattle.ee_core.specs.Runs.{Cleaned}
use Rattle.ee_core.specs.declared.variables.WriteFault.{WriteFault}
use Rattle.ee_core.specs.declared.variables.WriteFault.TheVariants as fault
use Rattle.ee_interface.specs.declared.script.answer.Answer.{Answer}
use Rattle.ee_interface.specs.declared.script.answer.Answer.TheVariants.{Cut}
use Rattle.ee_interface.specs.declared.script.command.Command.TheVariants.{Clean}
use Rattle.ee_replay.specs.Desk.{CallsAtDesk}
use Rattle.ee_replay.specs.Serving.{CallAnswers, LineIsNoted, Notes, notes_after, with_notes}
use Rattle.ee_replay.proofs.serving.Server.clean.Goals as goal

-- a clean step in which power was cut is answered so
attends_cut : (serving : Bool) (old new : Device)
    → CallsAtDesk serving old (Cleaned (Err fault.Cut)) (open_point new)
    → CallAnswers serving old Clean Cut (open_point new)
attends_cut true old new calls = (calls.1, calls.1.cut.is_off)
attends_cut false old new calls = absurd calls.0

noted_cut : (old new : Device) (notes kept : Notes) (answer : Answer) (stopped : WriteFault)
    → stopped ≡ fault.Cut
    → CallsAtDesk old.on old (Cleaned (Err stopped)) (open_point new)
    → answer ≡ Cut → kept ≡ notes_after Cut 0 notes → HasFuse new
    → LineIsNoted (with_notes (open_point old) notes) Clean answer
    (with_notes (open_point new) kept)
noted_cut old new notes kept answer stopped cut calls says noted fused =
    subst
    (λ (one : Answer).
    LineIsNoted (with_notes (open_point old) notes) Clean one (with_notes (open_point new) kept))
    (sym says)
    (record {
      attends =
          attends_cut old.on old new
          (subst
          (λ (one : WriteFault).
          CallsAtDesk old.on old (Cleaned (Err one)) (open_point new))
          cut calls);
      notes_are = noted;
      fused = fused;
    })

pub returns-in-Err-Cut : goal.returns-in-Err-Cut
returns-in-Err-Cut g c =
    noted_cut c.args.self.now.desk c.clean_step.new.self c.args.self.now.notes c.note_cut.new.self
    c.note_cut.result _ c.in-Err-Cut.field-0-is c.in-Err-Cut.ensures.calls c.note_cut.ensures.answer
    c.note_cut.ensures.noted c.clean_step.ensures.fused
