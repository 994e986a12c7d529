use Rattle.std.proofs.Common.{◌∷◌, decimal, rules}
use Rattle.std.proofs.lemmas.List.{nil_from_length}
use Rattle.ee_interface.proofs.CommandLineLemmas.Flags.{size_is_no_form}
use Rattle.ee_interface.proofs.command_line.words.split_part.Goals as goal

pub returns-in_err-page_words-clause-only : goal.returns-in_err-page_words-clause-only
returns-in_err-page_words-clause-only c = λ form size others within is.
    let none = nil_from_length c.in_ok-pages.others.now c.in_err-page_words.ensures.cases in
    let texts = (c.in_ok-form.ensures.only form (decimal size.pages ∷ decimal size.words ∷ others)
    (size_is_no_form size within) is).1 in
    search (rules, none, texts)
