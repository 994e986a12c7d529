use Rattle.std.proofs.Common.{◌≡◌, refl, rules, sym}
use Rattle.std.proofs.lemmas.Result.{err_from_is_err_and}
use Rattle.ee_shell.specs.Dumps.Dump.{IsDump}
use Rattle.ee_shell.specs.Dumps.Fault.{IsWriteFault}
use Rattle.ee_shell.specs.declared.dumps.fault.WriteFault.TheVariants.{Uncoded}
use Rattle.ee_shell.proofs.DumpsLemmas.Dumps.{one_write_cause, write_has_none}
use Rattle.ee_shell.proofs.DumpsLemmas.Growing.{all_whole, all_written, one_page_more, write_fault}
use Rattle.ee_shell.proofs.dumps.writing.write_dump.Goals as goal

pub returns-in_err-push_page-clause-fault : goal.returns-in_err-push_page-clause-fault
returns-in_err-push_page-clause-fault g c =
    let p =
    err_from_is_err_and c.from_residual-in_err-push_page.result
    c.from_residual-in_err-push_page.ensures.1 in
    rw p.1
    (rw p.2
    (write_fault c.args.form (g.F.Flash.device c.args.flash.now) c.loop-page.page
    c.loop-page.dump.items c.in_err-push_page.field-0.0 c.loop-page.invariant
    c.in_err-push_page.ensures.fault))

pub returns-in_err-push_page-clause-names : goal.returns-in_err-push_page-clause-names
returns-in_err-push_page-clause-names g c = λ cause some applies.
    let p =
    err_from_is_err_and c.from_residual-in_err-push_page.result
    c.from_residual-in_err-push_page.ensures.1 in
    rw p.1
    (rw p.2
    (one_write_cause c.args.form (g.F.Flash.device c.args.flash.now) cause
    c.in_err-push_page.field-0.0 some applies
    (write_fault c.args.form (g.F.Flash.device c.args.flash.now) c.loop-page.page
    c.loop-page.dump.items c.in_err-push_page.field-0.0 c.loop-page.invariant
    c.in_err-push_page.ensures.fault)))

pub loop-page-preserved : goal.loop-page-preserved
loop-page-preserved g c =
    one_page_more c.args.form (g.F.Flash.device c.args.flash.now) c.loop-page.page
    c.loop-page.dump.items c.push_page.new.out.items (g.met.F.Flash.formed c.args.flash.now)
    (search rules) c.loop-page.invariant c.in_ok-push_page.ensures.whole
    c.in_ok-push_page.ensures.written

pub returns-in-Some-clause-fault : goal.returns-in-Some-clause-fault
returns-in-Some-clause-fault g c = (
  all_whole c.args.form (g.F.Flash.device c.args.flash.now) c.loop-page.page
      c.loop-page.dump.items (g.met.F.Flash.formed c.args.flash.now) (search rules)
      c.loop-page.invariant,
  c.in-Some.ensures.found,
)

pub returns-in-Some-clause-names : goal.returns-in-Some-clause-names
returns-in-Some-clause-names g c = λ cause some applies.
    one_write_cause c.args.form (g.F.Flash.device c.args.flash.now) cause
    (Uncoded c.in-Some.page c.in-Some.at) some applies (returns-in-Some-clause-fault g c)

pub returns-in-None-clause-written : goal.returns-in-None-clause-written
returns-in-None-clause-written g c =
    all_written c.args.form (g.F.Flash.device c.args.flash.now) c.loop-page.page
    c.loop-page.dump.items (g.met.F.Flash.formed c.args.flash.now) (search rules)
    c.loop-page.invariant c.in-None.ensures.none

pub returns-in-None-clause-names : goal.returns-in-None-clause-names
returns-in-None-clause-names g c = λ cause some applies.
    some
    (write_has_none c.args.form (g.F.Flash.device c.args.flash.now) c.loop-page.dump.items cause
    (returns-in-None-clause-written g c) applies)
