use Rattle.std.proofs.Common.{arith}
use Rattle.std.proofs.lemmas.Grind.{common_steps}
use Rattle.ee_nor.specs.Coded.Coded.{payload_of_number}
use Rattle.ee_nor.proofs.CodedLemmas.Near.{far_from_others}
use Rattle.ee_nor.proofs.CodedLemmas.Numbers.{payload_fits}
use Rattle.ee_nor.proofs.coded.words.coded_number.Goals as goal

pub returns-clause-none_is_near_another : goal.returns-clause-none_is_near_another
returns-clause-none_is_near_another c =
    λ limits.
    far_from_others (payload_of_number c.args.shape c.args.number) _
    (payload_fits c.args.shape c.args.number limits (omega (arith, c.ranges.number.fits)))
    (grind (arith, common_steps))
