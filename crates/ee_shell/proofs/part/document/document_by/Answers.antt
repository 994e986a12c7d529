use Rattle.ee_shell.proofs.PartLemmas.Documents.{live_made}
use Rattle.ee_shell.proofs.part.document.document_by.Goals as goal

pub returns : goal.returns
returns g c =
    live_made c.args.usage c.args.torn.now c.args.doubts.now c.new-text.result.items
    c.extend_from_slice.new.self.items c.push_slots.new.out.items c.push_parts.new.out.items
    c.extend_from_slice-2.new.self.items c.push_array.new.out.items
    c.extend_from_slice-3.new.self.items c.push_array-2.new.out.items
    c.extend_from_slice-4.new.self.items c.new-text.ensures.items
    c.in_ok-extend_from_slice.ensures.items c.in_ok-push_slots.ensures c.in_ok-push_parts.ensures
    c.in_ok-extend_from_slice-2.ensures.items c.in_ok-push_array.ensures
    c.in_ok-extend_from_slice-3.ensures.items c.in_ok-push_array-2.ensures
    c.in_ok-extend_from_slice-4.ensures.items
