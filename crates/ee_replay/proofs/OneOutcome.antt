-- What a script leaves is a function of texts.
use Rattle.std.proofs.Common.{◌≡◌, ◌∙◌, ap, sym}
use Rattle.ee_flash.specs.Device.{Device}
use Rattle.ee_interface.proofs.ScriptLemmas.Public.{one_script_lem}
use Rattle.ee_image_store.proofs.Public.{same_at_rest}
use Rattle.ee_replay.specs.Outcomes.{OneOutcome, OneTry}
use Rattle.ee_replay.specs.Replaying.{formatted_of, leaves_of, opened_of}

pub one_outcome : OneOutcome
one_outcome image text one other is again =
    let device : is.device ≡ again.device =
    is.rests
    ∙ same_at_rest image is.device again.device is.old.spelled again.old.spelled
    ∙ sym again.rests in
    let commands =
    one_script_lem text is.run.report.commands again.run.report.commands is.run.report.is_script
    again.run.report.is_script in
    is.leaves
    ∙ ap (λ (at : Device). leaves_of (opened_of at) is.run.report.commands) device
    ∙ ap (leaves_of (opened_of again.device)) commands
    ∙ sym again.leaves

pub one_try : OneTry
one_try size text one other is again =
    is.leaves
    ∙ ap (leaves_of (formatted_of size))
    (one_script_lem text is.run.report.commands again.run.report.commands
    is.run.report.is_script again.run.report.is_script)
    ∙ sym again.leaves
