use Rattle.std.proofs.Common.{◌∙◌, Some}
use Rattle.std.proofs.lemmas.Result.{IfOk-weaker}
use Rattle.ee_shell.specs.Part.Inspecting.{all_doubts, all_torn, live_slots, usage_in}
use Rattle.ee_shell.specs.declared.part.inspecting.Telling.TheVariants.{Items}
use Rattle.ee_shell.proofs.PartLemmas.Documents.{all_of_it, live_alike}
use Rattle.ee_shell.proofs.part.document.document_of_live.Goals as goal

pub returns : goal.returns
returns g c =
    let device = g.F.Flash.device c.args.flash.now in
    let layout = c.args.layout.now in
    let torn = all_torn Items device (Some layout.side) in
    let doubts = all_doubts Items (live_slots device layout) in
    let alike =
    live_alike c.usage_of-usage.result (usage_in device layout) c.deref.result.now torn
    c.deref-2.result.now doubts c.usage_of-usage.ensures
    (all_of_it c.new-torn.result.items c.push_torn.new.out.items torn c.deref.result.now
    c.new-torn.ensures.items c.in_ok-push_torn.ensures c.deref.ensures.value)
    (all_of_it c.new-doubts.result.items c.push_doubts.new.out.items doubts c.deref-2.result.now
    c.new-doubts.ensures.items c.in_ok-push_doubts.ensures c.deref-2.ensures.value) in
    IfOk-weaker c.document_by.result _ _ (λ text made. made ∙ alike) c.document_by.ensures
