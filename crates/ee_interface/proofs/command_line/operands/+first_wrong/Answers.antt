use Rattle.std.proofs.Common.{◌≡◌, ◌∷◌, rules}
use Rattle.ee_interface.specs.CommandLine.Job.{texts_of}
use Rattle.ee_interface.proofs.CommandLineLemmas.Wrong.{wrong_here}
use Rattle.ee_interface.proofs.command_line.operands.+first_wrong.Goals as goal

pub returns : goal.returns
returns t c =
    let first : c.args.operands.now ≡ c.in-Some.operand.now ∷ c.in-Some.operands.now =
    search rules in
    let second : texts_of c.args.words.now
    ≡ c.in-Some-split_first-2.word.now.now ∷ texts_of c.in-Some-split_first-2.words.now =
    search rules in
    wrong_here _ _ _ _ _ _ _ _ _ first second c.is_spelling.ensures c.if-is_spelling.false
    c.fault_of.ensures
