use Rattle.std.proofs.Common.{◌<◌, ◌≡◌, inl, inr, arith, length, get_or, ◌∙◌, sym}
use Rattle.std.proofs.lemmas.Bool.{cases_eq}
use Rattle.std.proofs.lemmas.Grind.{get_or-set_at}
use Rattle.std.proofs.lemmas.List.{get_or-set_other, get_or_default}
use Rattle.std.proofs.lemmas.List.Elements.{All-set}
use Rattle.ee_flash.specs.Device.{all_ones}
use Rattle.ee_nor.specs.Nor.{IsNorNumber}
use Rattle.ee_fakes.proofs.numbers.set_bits.Goals as goal

pub loop-at-preserved : goal.loop-at-preserved
loop-at-preserved c =
    let numbers = c.loop-at.numbers in
    let at = c.loop-at.at in
    let new = c.with_bits.result in
    let within : at < length numbers =
    omega (arith, c.loop-at-test.true, c.loop-at.auto.numbers, c.loop-at.auto.at-end) in
    let old : get_or numbers at 0 ≡ get_or c.args.numbers.now at all_ones =
    get_or_default numbers at 0 all_ones within ∙ c.loop-at.invariant.1 at (omega arith) in (
      λ k h. elim (cases_eq k at) [
        | inl is ↦ rw (get_or-set_at numbers at k new all_ones is within, is, sym old)
            c.with_bits.ensures
        | inr other ↦ rw (get_or-set_other numbers at k new all_ones other)
            (c.loop-at.invariant.0 k (omega arith))
      ],
      λ k h. get_or-set_other numbers at k new all_ones (λ is. omega arith)
          ∙ c.loop-at.invariant.1 k (omega arith),
      All-set IsNorNumber numbers at new (omega (arith, c.with_bits.type_inv))
          c.loop-at.invariant.2,
    )
