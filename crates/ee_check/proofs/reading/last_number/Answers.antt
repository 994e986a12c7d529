use Rattle.std.proofs.Common.{sym, ◌∙◌}
use Rattle.std.proofs.lemmas.List.{append_cancel_left}
use Rattle.ee_check.proofs.reading.last_number.Goals as goal

pub returns-clause-only : goal.returns-clause-only
returns-clause-only c = λ n fits spelled.
    c.number.ensures.only n fits
    (append_cancel_left c.args.name.now _ _ (sym c.in_ok-behind.ensures.found ∙ spelled))
