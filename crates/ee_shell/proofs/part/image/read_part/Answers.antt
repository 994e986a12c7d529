use Rattle.std.proofs.Common.{rules}
use Rattle.ee_flash.specs.Memory.{device_of}
use Rattle.ee_image_store.proofs.Public.{formed_of, reading_good, reading_named}
use Rattle.ee_shell.proofs.part.image.read_part.Goals as goal

pub returns-in-Ok-clause-read : goal.returns-in-Ok-clause-read
returns-in-Ok-clause-read g c =
    record { formed = formed_of c.in-Ok.flash; text_is = c.in-Ok.ensures.found }

pub returns-in-Ok-clause-names : goal.returns-in-Ok-clause-names
returns-in-Ok-clause-names g c = λ cause some applies.
    reading_good c.args.image.now (device_of c.in-Ok.flash) cause
    (record { formed = formed_of c.in-Ok.flash; text_is = c.in-Ok.ensures.found }) some applies

pub returns-in-Err-clause-names : goal.returns-in-Err-clause-names
returns-in-Err-clause-names g c = search (rules, reading_named)
