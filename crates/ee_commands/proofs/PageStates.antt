-- The states of an image's pages, from what was written of them.
use Rattle.std.proofs.Common.{◌≡◌, ◌++◌, ℕ, List, [], rules}
use Rattle.ee_flash.specs.Device.{Device, IsFormed}
use Rattle.ee_image.specs.Text.{image_text}
use Rattle.ee_commands.specs.Documents.{IsStatesDocument}
use Rattle.ee_commands.specs.Images.{AreStates, state_lines}
use Rattle.ee_commands.specs.Json.{states_document}

pub are_states : (text old lines : List ℕ) (device : Device) → IsFormed device
    → text ≡ image_text device → old ≡ [] → lines ≡ old ++ state_lines 0 device.image
    → AreStates text lines
are_states text old lines device formed spelled empty written = search rules

pub are_states_document : (text document : List ℕ) (device : Device) → IsFormed device
    → text ≡ image_text device → document ≡ states_document device.image
    → IsStatesDocument text document
are_states_document text document device formed spelled written = search rules
