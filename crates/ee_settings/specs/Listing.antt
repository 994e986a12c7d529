-- What a store holds, address by address, as a schema names it.
use Rattle.std.specs.Prelude.{◌≡◌, ◌≢◌, ◌⊎◌, ◌+◌, ◌==◌, ℕ, nat_le, zero, suc, List, [], ◌∷◌, ◌++◌, if◌then◌else◌, Option, Some, None, false, true}
use Rattle.ee_codec.specs.Words.{IsAddress}
use Rattle.ee_flash.specs.Device.{Device, IsOff, IsOn}
use Rattle.ee_pages.specs.Meaning.{Map}
use Rattle.ee_settings.specs.Setting.{IsInRange, Setting, has_address, is_in_range}
use Rattle.ee_settings.specs.Stale.{entry_of}
use Rattle.ee_settings.specs.declared.fault.ListFault.{ListFault}
use Rattle.ee_settings.specs.declared.fault.ListFault.TheVariants as fault
use Rattle.ee_settings.specs.declared.listing.Held.{Held}
use Rattle.ee_settings.specs.declared.listing.Held.TheVariants.{Value, Stale, Default}
use Rattle.ee_settings.specs.declared.listing.Listed.{Listed}
use Rattle.ee_settings.specs.declared.numbers.Numbers.{Numbers}

-- the entry whose setting has the address, and the setting's numbers, where the first setting is
-- the entry of this number
abbrev pub named_from : ℕ → List Setting → ℕ → Option (ℕ × Numbers)
named_from entry [] address = None
named_from entry (setting ∷ settings) address =
    if setting.numbers.address
    == address then Some (entry, setting.numbers) else named_from (entry + 1) settings address

-- entries are counted from 1
abbrev pub named_in : List Setting → ℕ → Option (ℕ × Numbers)
named_in settings address = named_from 1 settings address

-- what a value is to the setting that has its address
abbrev pub held_by : Numbers → ℕ → Held
held_by numbers value = if is_in_range numbers value then Value value else Stale value

-- what there is to say of an address, by its setting and its value
abbrev pub listed_of : ℕ → Option (ℕ × Numbers) → Option ℕ → List Listed
listed_of address None None = []
listed_of address None (Some value) =
    record { address = address; entry = None; held = Value value } ∷ []
listed_of address (Some named) None =
    record { address = address; entry = Some named.0; held = Default named.1.default } ∷ []
listed_of address (Some named) (Some value) =
    record { address = address; entry = Some named.0; held = held_by named.1 value } ∷ []

-- of the addresses 1 to this one, by rising address
unfoldable pub listed_to : List Setting → Map → ℕ → List Listed
listed_to settings map zero = []
listed_to settings map (suc address) =
    listed_to settings map address
    ++ listed_of (suc address) (named_in settings (suc address)) (map (suc address))

-- of all addresses
abbrev pub listed_in : List Setting → Map → List Listed
listed_in settings map = listed_to settings map 65534

-- the address has a value or a setting
abbrev pub IsToldOf : List Setting → Map → ℕ → Type 0
IsToldOf settings stored address =
    IsAddress address × ((stored address ≢ None) ⊎ (has_address settings address ≡ true))

-- what the address of a setting with these numbers holds: a value in the range, one
-- that is not, or none
abbrev pub IsHeld : Numbers → Option ℕ → Held → Type 0
IsHeld numbers stored (Value value) = (stored ≡ Some value) × IsInRange numbers value
IsHeld numbers stored (Stale value) = (stored ≡ Some value) × ¬ IsInRange numbers value
IsHeld numbers stored (Default value) = (stored ≡ None) × (value ≡ numbers.default)

-- What is said of an address is so: by no entry, where no setting has the address, and it has a
-- value; or by the entry of the setting that has it.
abbrev pub IsSaidOf : List Setting → Map → ℕ → Option ℕ → Held → Type 0
IsSaidOf settings stored address None held =
    (has_address settings address ≡ false) × (value : ℕ) × (stored address ≡ Some value)
    × (held ≡ Value value)
IsSaidOf settings stored address (Some entry) held =
    (setting : Setting) × (entry_of settings entry ≡ Some setting)
    × (setting.numbers.address ≡ address)
    × IsHeld setting.numbers (stored address) held

abbrev pub IsListedSo : List Setting → Map → Listed → Type 0
IsListedSo settings stored listed =
    IsAddress listed.address × IsSaidOf settings stored listed.address listed.entry listed.held

-- why nothing is listed: the device is off; or memory ran out
abbrev pub IsListFault : Device → ListFault → Type 0
IsListFault device fault.Off = IsOff device
IsListFault device fault.Memory = IsOn device

-- ---- for the functions within: a map's entries that are left to go over, by rising address

-- the first of them, and what is behind it
abbrev pub left_of : {T : Type 0} → Option (ℕ × T) → List (ℕ × T) → List (ℕ × T)
left_of None behind = []
left_of (Some first) behind = first ∷ behind

abbrev pub first_address : {T : Type 0} → List (ℕ × T) → Option ℕ
first_address [] = None
first_address (entry ∷ more) = Some entry.0

-- what the first has, if it is this address's
abbrev pub first_at : {T : Type 0} → ℕ → List (ℕ × T) → Option T
first_at address [] = None
first_at address (entry ∷ more) = if entry.0 == address then Some entry.1 else None

-- what is left without it
abbrev pub behind_at : {T : Type 0} → ℕ → List (ℕ × T) → List (ℕ × T)
behind_at address [] = []
behind_at address (entry ∷ more) = if entry.0 == address then more else entry ∷ more

-- the lower of two addresses, or the one that there is
abbrev pub lower_of : Option ℕ → Option ℕ → Option ℕ
lower_of None other = other
lower_of (Some one) None = Some one
lower_of (Some one) (Some other) = if nat_le one other then Some one else Some other
