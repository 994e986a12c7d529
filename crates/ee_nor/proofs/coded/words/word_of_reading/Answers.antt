use Rattle.std.proofs.Common.{ap, arith, sym, ◌∙◌}
use Rattle.std.proofs.lemmas.Grind.{common_steps}
use Rattle.ee_nor.specs.Coded.Coded.{word_read}
use Rattle.ee_nor.proofs.CodedLemmas.Numbers.{reading_told}
use Rattle.ee_nor.proofs.CodedLemmas.Payloads.{slot_read}
use Rattle.ee_nor.proofs.coded.words.word_of_reading.Goals as goal

pub returns-then-rest-gt0 : goal.returns-then-rest-gt0
returns-then-rest-gt0 c =
    let number = c.in-Some.number in
    let is =
    sym (ap (word_read c.args.shape) c.in-Some.is
    ∙ slot_read c.args.shape number c.without_check.result (grind (arith, common_steps))
    (grind (arith, common_steps)) (grind (arith, common_steps)) c.without_check.ensures) in
    record { word = is; told = reading_told c.args.shape c.args.reading _ is }

pub returns-then-low_half-low-clause-told : goal.returns-then-low_half-low-clause-told
returns-then-low_half-low-clause-told c =
    reading_told c.args.shape c.args.reading _ (grind (arith, common_steps))

pub returns-clause-told : goal.returns-clause-told
returns-clause-told c =
    reading_told c.args.shape c.args.reading _ (grind (arith, common_steps))
