-- Only proper addresses have values.
use Rattle.std.proofs.Common.{◌≡◌, ◌⊎◌, ℕ, Option, None, rules}
use Rattle.std.proofs.lemmas.Bool.{cases_lt}
use Rattle.ee_codec.specs.Words.{IsAddress}
use Rattle.ee_flash.specs.Device.{Device}
use Rattle.ee_pages.specs.Sets.{live_of}
use Rattle.ee_pages.specs.declared.side.Side.{Side}
use Rattle.ee_core.specs.State.{state_in, state_of}
use Rattle.ee_core.proofs.Public.{meaning_outside}

in_state : (device : Device) (live : Option (Side × ℕ)) (address : ℕ) → ¬ IsAddress address
    → (state_in device live).map address ≡ None
in_state device live address outside = search (rules, meaning_outside)

pub none_outside : (device : Device) (address : ℕ) → ¬ IsAddress address
    → (state_of device).map address ≡ None
none_outside device address outside = in_state device (live_of device) address outside

pub proper_or_not : (address : ℕ) → IsAddress address ⊎ ¬ IsAddress address
proper_or_not address = search (rules, cases_lt)
