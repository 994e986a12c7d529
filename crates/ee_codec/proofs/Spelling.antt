-- Spellings read back, on the side of the definitions.
use Rattle.std.proofs.Common.{◌≡◌, ℕ, arith, Some}
use Rattle.std.proofs.lemmas.Grind.{common_steps}
use Rattle.ee_flash.specs.declared.word.Word.TheVariants.{Held}
use Rattle.ee_codec.specs.declared.slot.Slot.TheVariants.{Element, Forgotten}
use Rattle.ee_codec.specs.Words.{IsAddress, IsGeneration, IsValue, element, forgetting, receive}
use Rattle.ee_codec.specs.Reading.{slot_of, receive_of}

pub slot_of-element : (address value : ℕ) → IsAddress address → IsValue value
    → slot_of (Held (element address value)) ≡ Element address value
slot_of-element address value proper fits = grind (arith, common_steps)

pub slot_of-forgetting : (address value : ℕ) → IsAddress address → IsValue value
    → slot_of (Held (forgetting address value)) ≡ Forgotten address value
slot_of-forgetting address value proper fits = grind (arith, common_steps)

pub receive_of-receive : (generation : ℕ) → IsGeneration generation
    → receive_of (Held (receive generation)) ≡ Some generation
receive_of-receive generation proper = grind (arith, common_steps)
