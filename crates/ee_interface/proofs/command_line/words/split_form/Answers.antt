use Rattle.std.proofs.Common.{◌≡◌, ◌∷◌, ◌∙◌, sym, rules}
use Rattle.ee_interface.specs.CommandLine.Job.{texts_of}
use Rattle.ee_interface.proofs.CommandLineLemmas.Flags.{one_form}
use Rattle.ee_interface.proofs.command_line.words.split_form.Goals as goal

pub returns-then-have_no_form-clause-only : goal.returns-then-have_no_form-clause-only
returns-then-have_no_form-clause-only c = λ form operands none is.
    let front : texts_of c.args.words.now
    ≡ c.in-Some.first.now.now ∷ texts_of c.in-Some.operands.now =
    search rules in
    let found = c.in-Some-form_of_flag.ensures.found (texts_of c.in-Some.operands.now) in
    one_form c.in-Some-form_of_flag.form form (texts_of c.in-Some.operands.now) operands
    (c.have_no_form.ensures.0 c.if-have_no_form.true) none (found ∙ sym front ∙ is)
