use Rattle.std.proofs.lemmas.Result.{err_from_is_err_and}
use Rattle.ee_flash.specs.Memory.{device_of}
use Rattle.ee_image_store.proofs.Public.{no_memory_for, formed_of}
use Rattle.ee_commands.proofs.wear.read_ledger.Goals as goal

pub returns-in_err-of-clause-fault : goal.returns-in_err-of-clause-fault
returns-in_err-of-clause-fault g c =
    let p = err_from_is_err_and c.from_residual.result c.from_residual.ensures.1 in
    rw p.1 (rw p.2 (no_memory_for c.args.file c.args.image.now (device_of c.in-Ok.flash)
    (record { formed = formed_of c.in-Ok.flash; text_is = c.in-Ok.ensures.found })))

pub returns-clause-counts : goal.returns-clause-counts
returns-clause-counts g c = record {
  device = device_of c.in-Ok.flash;
  spelled = record { formed = formed_of c.in-Ok.flash; text_is = c.in-Ok.ensures.found };
  counts_are = c.in_ok-of.ensures.wear;
}
