use Rattle.std.proofs.lemmas.Result.{on_ok_weaker}
use Rattle.std.specs.Prelude.{codes, decimal}
use Rattle.ee_shell.proofs.PartLemmas.Documents.{four_numbers}
use Rattle.ee_shell.proofs.part.document.push_slots.Goals as goal

pub returns : goal.returns
returns g c =
    let usage = c.args.usage in
    on_ok_weaker c.push_number_behind-4.result
    (λ here. four_numbers c.args.out.now.items (codes ",\"set\":") (codes ",\"generation\":")
    (codes ",\"fill\":") (codes ",\"room\":") (decimal usage.set) (decimal usage.generation)
    (decimal usage.fill) (decimal usage.room) c.push_number_behind.new.out.items
    c.push_number_behind-2.new.out.items c.push_number_behind-3.new.out.items
    c.push_number_behind-4.new.out.items c.in_ok-push_number_behind.ensures.ok
    c.in_ok-push_number_behind-2.ensures.ok c.in_ok-push_number_behind-3.ensures.ok here)
    c.push_number_behind-4.ensures.ok
