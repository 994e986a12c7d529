use Rattle.std.proofs.Common.{◌∙◌, ap, sym}
use Rattle.std.specs.Prelude.{bit_xor}
use Rattle.ee_records.proofs.CheckWords.{bits-next, bits-zero, even_further, odd_further}
use Rattle.ee_records.specs.Check.{bit_further}
use Rattle.ee_records.proofs.check.word_further.Goals as goal
use Rattle.ee_records.proofs.check.word_further.Goals.{else-rest-eq1, then-rest-eq1}

pub bits-init : goal.bits-init
bits-init c = sym (bits-zero (bit_xor c.args.before c.args.word))

pub bits-preserved : goal.bits-preserved
bits-preserved c =
    let next =
    ap bit_further c.bits.invariant
    ∙ sym (bits-next c.bits._bit (bit_xor c.args.before c.args.word)) in
    elim c.if-rest-eq1.branch [
      | then-rest-eq1 w ↦ w.rest-is ∙ (sym (odd_further c.bits.rest w.if-rest-eq1.true) ∙ next)
      | else-rest-eq1 w ↦ w.rest-is ∙ (sym (even_further c.bits.rest w.if-rest-eq1.false) ∙ next)
    ]
