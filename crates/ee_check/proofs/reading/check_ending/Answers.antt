use Rattle.std.proofs.Common.{inl, refl}
use Rattle.ee_check.proofs.Fields.{other_count}
use Rattle.ee_check.proofs.Lines.{other_ending}
use Rattle.ee_check.proofs.reading.check_ending.Goals as goal

pub returns-then-ne-clause-err : goal.returns-then-ne-clause-err
returns-then-ne-clause-err c =
    inl (
      other_ending c.args.text.now c.in-Some.line.now c.in-Some.rest.now c.args.count
          c.in-Some.ensures.parts c.in-Some.ensures.first c.ranges.count.fits
          (λ same. other_count c.read_ending.result c.args.count c.if-ne.ensures
          (c.read_ending.ensures.only c.args.count c.ranges.count.fits same)),
      refl,
    )
