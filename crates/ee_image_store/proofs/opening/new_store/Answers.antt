use Rattle.std.proofs.Common.{ap}
use Rattle.ee_flash.specs.Memory.{Memory}
use Rattle.ee_image_store.proofs.Stores.{is_new}
use Rattle.ee_image_store.proofs.opening.new_store.Goals as goal

pub returns : goal.returns
returns g c =
    is_new c.args.shape _ c.format_still.result
    (ap (λ (memory : Memory). memory.device) c.in_ok-flash.ensures) c.format_still.ensures
