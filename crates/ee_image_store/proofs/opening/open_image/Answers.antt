use Rattle.std.proofs.Common.{ap}
use Rattle.ee_flash.specs.Memory.{Memory, device_of}
use Rattle.ee_image_store.proofs.Stores.{formed_of, is_opened}
use Rattle.ee_image_store.proofs.opening.open_image.Goals as goal

pub returns-in-Err-clause-fault : goal.returns-in-Err-clause-fault
returns-in-Err-clause-fault g c = (
  device_of c.in_ok-flash.flash,
  record { formed = formed_of c.in_ok-flash.flash; text_is = c.in_ok-flash.ensures.found },
  c.in-Err.ensures.fault,
)

pub returns-in-Ok-clause-opened : goal.returns-in-Ok-clause-opened
returns-in-Ok-clause-opened g c =
    is_opened c.args.image.now (device_of c.in_ok-flash.flash) _
    (ap (λ (memory : Memory). memory.device) c.in_ok-flash.ensures.at_rest)
    c.in_ok-flash.ensures.found c.in-Ok.ensures.opened
