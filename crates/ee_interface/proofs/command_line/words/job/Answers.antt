use Rattle.std.proofs.Common.{ℕ, List, arith, rules, subst}
use Rattle.std.specs.Borrow.{Bor}
use Rattle.std.proofs.lemmas.List.{length-map}
use Rattle.ee_interface.specs.CommandLine.Job.{AreWordsOf, texts_of}
use Rattle.ee_interface.proofs.CommandLineLemmas.Flags.{short}
use Rattle.ee_interface.proofs.command_line.words.job.Goals as goal

pub returns-in_default-others-clause-only : goal.returns-in_default-others-clause-only
returns-in_default-others-clause-only c = λ row fits spelled.
    let others = c.in-Some.others.now in
    let few =
    short c.in-Some.command.now.now (texts_of others) row (search rules)
    (subst (λ words. AreWordsOf words row) (search rules) spelled) in
    absurd
    (omega (
      arith,
      few,
      length-map others (λ (word : Bor (List ℕ)). word.now),
      c.in_default-others.len_at_least,
    ))
