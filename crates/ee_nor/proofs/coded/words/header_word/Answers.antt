use Rattle.std.proofs.Common.{inl, inr, ◌≡◌, ◌*◌, ◌+◌, ◌^◌, sym, ◌∙◌, arith}
use Rattle.std.proofs.lemmas.Grind.{common_steps}
use Rattle.ee_flash.specs.declared.word.Word.TheVariants.{Held}
use Rattle.ee_nor.proofs.CodedLemmas.Payloads.{header_held, header_of_mark_torn, header_of_slot_torn, mark_held, mark_torn}
use Rattle.ee_nor.proofs.coded.words.header_word.Goals as goal

pub returns-then-value-mark_value : goal.returns-then-value-mark_value
returns-then-value-mark_value c =
    sym (mark_held c.args.shape (c.args.value * 2 ^ 17 + c.args.low) (grind (arith, common_steps)) (grind (arith, common_steps)))

pub returns-else-value-mark_value : goal.returns-else-value-mark_value
returns-else-value-mark_value c =
    sym (mark_torn c.args.shape (c.args.value * 2 ^ 17 + c.args.low) (grind (arith, common_steps)) (grind (arith, common_steps)))

pub returns-then-value-eq-HEADER_HALF : goal.returns-then-value-eq-HEADER_HALF
returns-then-value-eq-HEADER_HALF c =
    let payload = c.args.value * 2 ^ 17 + c.args.low in
    let is : payload ≡ c.args.value * 2 ^ 17 = grind (arith, common_steps) in
    elim c.if-value-eq-HEADER_HALF.either [
      | inl slot ↦ sym (header_of_slot_torn c.args.shape payload c.args.value is
          c.ranges.value.fits (sym c.is_slot_half.ensures ∙ slot))
      | inr half ↦ sym (header_of_mark_torn c.args.shape payload c.args.value is
          c.ranges.value.fits half.1)
    ]

pub returns-else-value-eq-HEADER_HALF : goal.returns-else-value-eq-HEADER_HALF
returns-else-value-eq-HEADER_HALF c =
    let payload = c.args.value * 2 ^ 17 + c.args.low in
    let is : payload ≡ c.args.value * 2 ^ 17 = grind (arith, common_steps) in
    let neither = c.if-value-eq-HEADER_HALF.false in
    let high = c.from.ensures in
    let low = c.from-else-value-eq-HEADER_HALF.ensures in
    (λ i. Held (high i * 4294967296 + low i))
    ∙ sym (header_held c.args.shape payload c.args.value is c.ranges.value.fits
    (sym c.is_slot_half.ensures ∙ neither.0) neither.1)
