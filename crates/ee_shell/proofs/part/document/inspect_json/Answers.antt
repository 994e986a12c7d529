use Rattle.std.proofs.lemmas.Result.{err_from_is_err_and}
use Rattle.ee_flash.specs.Memory.{device_of}
use Rattle.ee_interface.specs.declared.fault.File.TheVariants.{Image}
use Rattle.ee_image_store.proofs.Public.{no_memory_for}
use Rattle.ee_shell.proofs.part.document.inspect_json.Goals as goal

pub returns-in_err-document_of-clause-fault : goal.returns-in_err-document_of-clause-fault
returns-in_err-document_of-clause-fault g c =
    let p =
    err_from_is_err_and c.from_residual-in_err-document_of.result
    c.from_residual-in_err-document_of.ensures.1 in
    rw p.1
    (rw p.2
    (no_memory_for Image c.args.image.now (device_of c.in_ok-flash.flash)
    c.in_ok-flash.ensures.read))
