use Rattle.std.proofs.Common.{rules}
use Rattle.ee_check.specs.Certificate.{claim_of}
use Rattle.ee_commands.proofs.PlanDocuments.{plan_made}
use Rattle.ee_commands.proofs.json.stretches.document_of.Goals as goal

pub returns : goal.returns
returns g c =
    plan_made (claim_of c.args.certificate.now) c.new-text.result.items
    c.push_heading.new.out.items c.push_array.new.out.items c.push_number_behind.new.out.items
    c.extend_from_slice.new.self.items c.new-stretches.result.items c.deref-2.result.now
    c.len.result c.new-text.ensures.items
    c.new-stretches.ensures.items (search rules) (search rules) c.in_ok-push_heading.ensures
    c.in_ok-push_array.ensures c.in_ok-push_number_behind.ensures.ok
    c.in_ok-extend_from_slice.ensures.items
