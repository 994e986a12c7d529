use Rattle.std.proofs.Common.{arith}
use Rattle.std.proofs.lemmas.Grind.{common_steps}
use Rattle.ee_nor.proofs.CodedLemmas.Marks.{mark_whole, none_named}
use Rattle.ee_nor.proofs.coded.shapes.shape_of_mark.Goals as goal

pub returns-then-from-number-clause-none : goal.returns-then-from-number-clause-none
returns-then-from-number-clause-none c = λ size mark.
    let whole = mark_whole c.args.number size mark in
    let is = whole.1 in
    c.if-from-number.true (grind (arith, common_steps))

pub returns-clause-none : goal.returns-clause-none
returns-clause-none c = none_named c.args.number c.new.result (grind (arith, common_steps))
