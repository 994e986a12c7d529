use Rattle.std.proofs.Common.{◌∙◌, ap, sym}
use Rattle.std.specs.Prelude.{bit_xor}
use Rattle.ee_shell.proofs.XcubeLemmas.Crc.{bits-next, bits-zero, high_further, low_further}
use Rattle.ee_shell.specs.Xcube.Element.{crc_bit_further}
use Rattle.ee_shell.proofs.xcube.element.half_further.Goals as goal
use Rattle.ee_shell.proofs.xcube.element.half_further.Goals.{else-rest-lt32768, then-rest-lt32768}

pub bits-init : goal.bits-init
bits-init c = sym (bits-zero (bit_xor c.args.before c.args.half))

pub bits-preserved : goal.bits-preserved
bits-preserved c =
    let next =
    ap crc_bit_further c.bits.invariant
    ∙ sym (bits-next c.bits._bit (bit_xor c.args.before c.args.half)) in
    elim c.if-rest-lt32768.branch [
      | then-rest-lt32768 w ↦ w.rest-is ∙ (sym (low_further c.bits.rest w.if-rest-lt32768.true) ∙ next)
      | else-rest-lt32768 w ↦ w.rest-is ∙ (sym (high_further c.bits.rest w.if-rest-lt32768.false) ∙ next)
    ]
