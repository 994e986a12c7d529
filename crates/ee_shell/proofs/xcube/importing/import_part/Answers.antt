use Rattle.std.proofs.Common.{rules}
use Rattle.std.proofs.lemmas.Result.{err_from_is_err_and}
use Rattle.ee_flash.specs.Memory.{device_of}
use Rattle.ee_shell.proofs.XcubeLemmas.Causes.{part_refused}
use Rattle.ee_shell.proofs.XcubeLemmas.Taken.{new_holds_own}
use Rattle.ee_shell.proofs.xcube.importing.import_part.Goals as goal

pub take_all-requires : goal.take_all-requires
take_all-requires g c = new_holds_own _ _ c.in_ok-store.ensures

pub returns-in_err-take_all-clause-fault : goal.returns-in_err-take_all-clause-fault
returns-in_err-take_all-clause-fault g c =
    let p =
    err_from_is_err_and c.from_residual-in_err-take_all.result
    c.from_residual-in_err-take_all.ensures.1 in
    rw p.1
    (rw p.2
    (part_refused (device_of c.args.part.now) c.in_ok-store.store c.deref-2.result.now
    c.in_err-take_all.field-0.0
    (search rules) (search rules) (search rules) (search rules) c.in_err-take_all.ensures.fault))
