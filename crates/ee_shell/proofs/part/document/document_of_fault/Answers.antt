use Rattle.std.proofs.Common.{◌∙◌, None, ap}
use Rattle.ee_shell.specs.Part.Document.{fault_document}
use Rattle.ee_shell.specs.Part.Inspecting.{all_torn}
use Rattle.ee_shell.specs.declared.part.inspecting.Telling.TheVariants.{Items}
use Rattle.ee_shell.proofs.PartLemmas.Documents.{all_of_it, fault_made}
use Rattle.ee_shell.proofs.part.document.document_of_fault.Goals as goal

pub returns : goal.returns
returns g c =
    let all = all_torn Items (g.F.Flash.device c.args.flash.now) None in
    fault_made c.args.fault c.deref.result.now c.new-text.result.items
    c.extend_from_slice.new.self.items c.push_scan_words.new.out.items
    c.extend_from_slice-2.new.self.items c.push_array.new.out.items
    c.extend_from_slice-3.new.self.items c.new-text.ensures.items
    c.in_ok-extend_from_slice.ensures.items c.in_ok-push_scan_words.ensures
    c.in_ok-extend_from_slice-2.ensures.items c.in_ok-push_array.ensures
    c.in_ok-extend_from_slice-3.ensures.items
    ∙ ap (λ t. fault_document c.args.fault t)
    (all_of_it c.new-torn.result.items c.push_torn.new.out.items all c.deref.result.now
    c.new-torn.ensures.items c.in_ok-push_torn.ensures c.deref.ensures.value)
