use Rattle.std.proofs.Common.{◌∙◌, sym, arith}
use Rattle.ee_pages.proofs.Readings.{value_by_number}
use Rattle.ee_pages.proofs.read.slot_value.Goals as goal

pub returns : goal.returns
returns g c = λ address value said.
    let is =
    value_by_number c.set_number.result address value
    (sym (c.set_number.ensures address) ∙ said) in
    omega (arith, is, c.set_number.type_inv)
