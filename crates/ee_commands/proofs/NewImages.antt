-- The text of a store with nothing in it.
use Rattle.std.proofs.Common.{ℕ, List, rules}
use Rattle.ee_flash.specs.Device.{Device}
use Rattle.ee_flash.specs.Size.{Size}
use Rattle.ee_commands.specs.Images.{IsFormattedText}
use Rattle.ee_image_store.specs.Opening.{IsNewStore, IsStoreLeft}

pub is_formatted : (size : Size) (image : List ℕ) (store : Device) → IsNewStore size store
    → IsStoreLeft store.size image store → IsFormattedText size image
is_formatted size image store new left = search rules
