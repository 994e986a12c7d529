-- What a changed map makes of the readings.
use Rattle.std.proofs.Common.{◌≡◌, ◌≢◌, ℕ, List, Some, Ok, ap, sym, ◌∙◌, arith, rules}
use Rattle.std.specs.List.{Contains}
use Rattle.std.proofs.lemmas.Bool.Decides.{nat_tests}
use Rattle.ee_flash.specs.Device.{Device}
use Rattle.ee_pages.specs.Meaning.{Map, Put, map_after}
use Rattle.ee_pages.proofs.Public.{put_there}
use Rattle.ee_core.specs.Calls.{Writes}
use Rattle.ee_core.specs.State.{state_of}
use Rattle.ee_core.specs.declared.variables.Written.{Written}
use Rattle.ee_settings.specs.Calls.{IsNamed}
use Rattle.ee_settings.specs.Setting.{HaveOwnAddresses, IsInRange, Setting, reading_in, reading_of}
use Rattle.ee_settings.specs.declared.numbers.Numbers.{Numbers}
use Rattle.ee_settings.specs.declared.reading.Reading.TheVariants.{Stored}

-- a value in the range is what is read
in_range_read : (numbers : Numbers) (value : ℕ) → IsInRange numbers value
    → reading_of numbers (Some value) ≡ Stored value
in_range_read numbers value h = let a = h.0 in
    let b = h.1 in grind (arith, nat_tests)

pub changed_elsewhere : (address value other : ℕ) (map : Map) → address ≢ other
    → map_after (Put address value) map other ≡ map other
changed_elsewhere address value other map apart = grind (arith, nat_tests)

-- the setting whose value was put reads as that value
pub stored_read : (setting : Setting) (value : ℕ) (old new : Map) → IsInRange setting.numbers value
    → new ≡ map_after (Put setting.numbers.address value) old
    → reading_in new setting ≡ Stored value
stored_read setting value old new h e = search (rules, in_range_read, put_there)

-- a setting at another address reads as before
pub other_read : (setting other : Setting) (value : ℕ) (old new : Map)
    → setting.numbers.address ≢ other.numbers.address
    → new ≡ map_after (Put setting.numbers.address value) old
    → reading_in new other ≡ reading_in old other
other_read setting other value old new apart e = search (rules, changed_elsewhere)

-- settings of different names have different addresses
pub addresses_apart : (settings : List Setting) → HaveOwnAddresses settings
    → (name : List ℕ) (setting other : Setting) → IsNamed settings name setting
    → Contains settings other → other.name ≢ name → setting.numbers.address ≢ other.numbers.address
addresses_apart settings own name setting other named inside ne e =
    ne (ap (λ (s : Setting). s.name) (sym (own setting other named.0 inside e)) ∙ named.1)

-- whether a write appended or moved, the map has the value
pub written_map : (old new : Device) (address value : ℕ) (written : Written)
    → Writes old address value (Ok written) new
    → (state_of new).map ≡ map_after (Put address value) (state_of old).map
written_map old new address value written h1 = search rules
