use Rattle.std.proofs.Common.{rules}
use Rattle.std.proofs.lemmas.Result.{err_from_is_err_and}
use Rattle.ee_flash.specs.Memory.{device_of}
use Rattle.ee_interface.specs.declared.fault.File.TheVariants.{Image}
use Rattle.ee_image_store.proofs.Public.{no_memory_for, reading_good, reading_named, formed_of}
use Rattle.ee_commands.proofs.PageStates.{are_states_document}
use Rattle.ee_commands.proofs.json.states.states_json.Goals as goal

pub returns-in_err-document_of-clause-fault : goal.returns-in_err-document_of-clause-fault
returns-in_err-document_of-clause-fault g c =
    let p = err_from_is_err_and c.from_residual.result c.from_residual.ensures.1 in
    rw p.1
    (rw p.2
    (no_memory_for Image c.args.image.now (device_of c.in-Ok.flash)
    (record { formed = formed_of c.in-Ok.flash; text_is = c.in-Ok.ensures.found })))

pub returns-clause-states : goal.returns-clause-states
returns-clause-states g c =
    let formed = formed_of c.in-Ok.flash in
    search (rules, are_states_document, formed)

pub returns-in-Err-clause-names : goal.returns-in-Err-clause-names
returns-in-Err-clause-names g c = search (rules, reading_named)

pub returns-clause-names : goal.returns-clause-names
returns-clause-names g c = search (rules, formed_of, reading_good)
