use Rattle.std.proofs.Common.{◌≡◌, ◌%◌, ◌^◌, ap, bit_and, arith, sym, ◌∙◌}
use Rattle.std.proofs.lemmas.Grind.{common_steps}
use Rattle.ee_nor.specs.Coded.Coded.{mark_value}
use Rattle.ee_nor.proofs.coded.shapes.other_shape.Goals as goal

pub returns-then-held-mark_value-clause-none : goal.returns-then-held-mark_value-clause-none
returns-then-held-mark_value-clause-none g c =
    c.value_held-held.ensures.none
    (c.if-held-mark_value.true ∙ c.mark_value.ensures ∙ ap mark_value c.shape.ensures)

pub returns-clause-found : goal.returns-clause-found
returns-clause-found g c =
    let held = c.value_held-held.ensures.other
    (λ same. c.if-held-mark_value.false
    (same ∙ sym (c.mark_value.ensures ∙ ap mark_value c.shape.ensures))) in
    let low : bit_and c.value_held-held.result 65535 ≡ c.value_held-held.result % 2 ^ 16 =
    grind (arith, common_steps) in
    rw low held
