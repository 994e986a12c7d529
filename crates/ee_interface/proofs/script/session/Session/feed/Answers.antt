use Rattle.std.proofs.Common.{◌++◌, ap, subst, rules}
use Rattle.std.proofs.lemmas.Result.{err_from_is_err_and}
use Rattle.ee_text.proofs.Public.{Lacks-append}
use Rattle.ee_interface.specs.Script.Session.{IsUnfinished}
use Rattle.ee_interface.proofs.ScriptLemmas.Steps.{goes_on, no_line_at_end}
use Rattle.ee_interface.proofs.ScriptLemmas.Faults.{fault_before, fault_later}
use Rattle.ee_interface.proofs.script.session.Session.feed.Goals as goal

pub keep-requires : goal.keep-requires
keep-requires g c =
    let short = subst IsUnfinished (ap (λ p. p.unfinished) c.self.view_is) c.self.invariant in
    record {
      before = short.one_line;
      none = no_line_at_end (c.args.self.unfinished ++ c.args.piece.now)
          (Lacks-append 10 c.args.self.unfinished c.args.piece.now short.one_line
          c.in_default.ensures.none);
    }

pub returns-in_err-end_line : goal.returns-in_err-end_line
returns-in_err-end_line g c = search (rules, err_from_is_err_and, fault_before)

pub returns-in_err-judge-2 : goal.returns-in_err-judge-2
returns-in_err-judge-2 g c = search (rules, err_from_is_err_and, fault_later)

pub returns : goal.returns
returns g c = search (rules, goes_on)
