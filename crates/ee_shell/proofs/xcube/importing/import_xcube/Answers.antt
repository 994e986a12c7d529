use Rattle.std.proofs.Common.{ℕ, Vec, inl, refl, rules}
use Rattle.ee_flash.specs.Memory.{device_of}
use Rattle.ee_image_store.proofs.Public.{formed_of}
use Rattle.ee_interface.specs.declared.fault.Fault.TheVariants.{DumpLength}
use Rattle.ee_shell.proofs.XcubeLemmas.Causes.{import_named, is_imported, is_not_imported, one_xcube_fault}
use Rattle.ee_shell.proofs.xcube.importing.import_xcube.Goals as goal

pub returns-in-Ok-clause-imported : goal.returns-in-Ok-clause-imported
returns-in-Ok-clause-imported g c =
    is_imported (λ (image : Vec ℕ g.row.A.Denot). image.items) c.args.shape c.args.dump.now (device_of c.in-Ok.part)
    (formed_of c.in-Ok.part, c.in-Ok.ensures.read) c.import_part.result
    (search rules)

pub returns-in-Ok-clause-fault : goal.returns-in-Ok-clause-fault
returns-in-Ok-clause-fault g c =
    is_not_imported (λ (image : Vec ℕ g.row.A.Denot). image.items) c.args.shape c.args.dump.now (device_of c.in-Ok.part)
    (formed_of c.in-Ok.part, c.in-Ok.ensures.read) c.import_part.result
    (search rules)

pub returns-in-Ok-clause-names : goal.returns-in-Ok-clause-names
returns-in-Ok-clause-names g c = λ cause some applies.
    import_named (λ (image : Vec ℕ g.row.A.Denot). image.items) c.args.shape c.args.dump.now (device_of c.in-Ok.part)
    (formed_of c.in-Ok.part, c.in-Ok.ensures.read) c.import_part.result cause
    (search rules) (search rules) some applies

pub returns-in-Err-Length-clause-names : goal.returns-in-Err-Length-clause-names
returns-in-Err-Length-clause-names g c = λ cause some applies.
    one_xcube_fault c.args.shape c.args.dump.now cause DumpLength some applies
    (inl (search rules, refl))
