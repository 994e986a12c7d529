use Rattle.std.proofs.Common.{rules, ℕ, Vec, inl}
use Rattle.std.proofs.lemmas.Result.{err_from_is_err_and}
use Rattle.ee_flash.specs.Memory.{device_of}
use Rattle.ee_shell.proofs.PartLemmas.Causes.{export_named, is_exported, is_not_exported, one_export_fault}
use Rattle.ee_shell.proofs.part.dump.export_image.Goals as goal

pub returns-in_err-flash-clause-fault : goal.returns-in_err-flash-clause-fault
returns-in_err-flash-clause-fault g c =
    let p = err_from_is_err_and c.from_residual.result c.from_residual.ensures.1 in
    rw p.1 (rw p.2 (inl c.in_err-flash.ensures.fault))

pub returns-in_err-flash-clause-names : goal.returns-in_err-flash-clause-names
returns-in_err-flash-clause-names g c = λ cause some applies.
    let p = err_from_is_err_and c.from_residual.result c.from_residual.ensures.1 in
    rw p.1
    (rw p.2
    (one_export_fault c.args.form c.args.image.now cause c.in_err-flash.field-0.0 some applies
    (inl c.in_err-flash.ensures.fault)))

pub returns-clause-exported : goal.returns-clause-exported
returns-clause-exported g c =
    is_exported (λ (bytes : Vec ℕ g.row.A.Denot). bytes.items) c.args.form c.args.image.now
    (device_of c.in_ok-flash.flash) c.in_ok-flash.ensures.read c.dump_of.result (search rules)

pub returns-clause-fault : goal.returns-clause-fault
returns-clause-fault g c =
    is_not_exported (λ (bytes : Vec ℕ g.row.A.Denot). bytes.items) c.args.form c.args.image.now
    (device_of c.in_ok-flash.flash) c.in_ok-flash.ensures.read c.dump_of.result (search rules)

pub returns-clause-names : goal.returns-clause-names
returns-clause-names g c = λ cause some applies.
    export_named (λ (bytes : Vec ℕ g.row.A.Denot). bytes.items) c.args.form c.args.image.now
    (device_of c.in_ok-flash.flash) c.in_ok-flash.ensures.read c.dump_of.result cause
    (search rules) (search rules) some applies
