use Rattle.std.proofs.Common.{inl, rules}
use Rattle.std.proofs.lemmas.Result.{err_from_is_err_and}
use Rattle.ee_flash.specs.Memory.{device_of}
use Rattle.ee_image_store.proofs.Public.{formed_of}
use Rattle.ee_shell.specs.Dumps.Kind.{IsOfKind}
use Rattle.ee_shell.proofs.PartLemmas.Causes.{bytes_wrong, import_memory, imported_good, kind_wrong, length_wrong, misplaced_told, one_import_fault}
use Rattle.ee_shell.proofs.part.dump.import_image.Goals as goal

pub returns-then-dump-dump_length-clause-fault : goal.returns-then-dump-dump_length-clause-fault
returns-then-dump-dump_length-clause-fault g c =
    length_wrong c.args.form c.args.shape c.args.dump.now (search rules)

pub returns-then-dump-dump_length-clause-names : goal.returns-then-dump-dump_length-clause-names
returns-then-dump-dump_length-clause-names g c = λ cause some applies.
    one_import_fault c.args.form c.args.shape c.args.dump.now cause _ some applies
    (returns-then-dump-dump_length-clause-fault g c)

pub returns-in-Some-clause-fault : goal.returns-in-Some-clause-fault
returns-in-Some-clause-fault g c =
    kind_wrong c.args.form c.args.shape c.args.dump.now c.in-Some.marking c.kind_fault.result
    (search rules) c.in-Some.ensures.found c.kind_fault.ensures

pub returns-in-Some-clause-names : goal.returns-in-Some-clause-names
returns-in-Some-clause-names g c = λ cause some applies.
    one_import_fault c.args.form c.args.shape c.args.dump.now cause c.kind_fault.result some
    applies (returns-in-Some-clause-fault g c)

pub returns-in-Err-clause-fault : goal.returns-in-Err-clause-fault
returns-in-Err-clause-fault g c =
    bytes_wrong c.args.form c.args.shape c.args.dump.now c.in-Err.fault c.import_fault.result
    (search rules) c.in-Err.ensures.fault c.import_fault.ensures

pub returns-in-Err-clause-names : goal.returns-in-Err-clause-names
returns-in-Err-clause-names g c = λ cause some applies.
    one_import_fault c.args.form c.args.shape c.args.dump.now cause c.import_fault.result some
    applies
    (returns-in-Err-clause-fault g c)

pub returns-in-Some-first_misplaced-clause-fault : goal.returns-in-Some-first_misplaced-clause-fault
returns-in-Some-first_misplaced-clause-fault g c =
    misplaced_told c.args.form c.args.shape c.args.dump.now (device_of c.in-Ok.flash)
    c.in-Some-first_misplaced.page c.in-Some-first_misplaced.at (formed_of c.in-Ok.flash) (search rules)
    c.in-Ok.ensures.read c.in-Some-first_misplaced.ensures.found

pub returns-in-Some-first_misplaced-clause-names : goal.returns-in-Some-first_misplaced-clause-names
returns-in-Some-first_misplaced-clause-names g c = λ cause some applies.
    one_import_fault c.args.form c.args.shape c.args.dump.now cause _ some applies
    (returns-in-Some-first_misplaced-clause-fault g c)

pub returns-in_err-text_of-clause-fault : goal.returns-in_err-text_of-clause-fault
returns-in_err-text_of-clause-fault g c =
    let p = err_from_is_err_and c.from_residual.result c.from_residual.ensures.1 in
    rw p.1
    (rw p.2
    (import_memory c.args.form c.args.shape c.args.dump.now (device_of c.in-Ok.flash)
    (formed_of c.in-Ok.flash) (search rules) c.in-Ok.ensures.read))

pub returns-clause-imported : goal.returns-clause-imported
returns-clause-imported g c =
    let asked : IsOfKind c.args.form c.args.shape c.args.dump.now = search rules in
    record {
      kind = λ told other. asked told other.1;
      device = device_of c.in-Ok.flash;
      made = c.in-Ok.ensures.read;
      in_shape = search rules;
      spelled = search rules;
    }

pub returns-clause-names : goal.returns-clause-names
returns-clause-names g c = λ cause some applies.
    imported_good c.args.form c.args.shape c.args.dump.now c.in_ok-text_of.field-0.items cause
    (returns-clause-imported g c) some applies
