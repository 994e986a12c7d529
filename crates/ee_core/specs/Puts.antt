-- Values that are put at once, or addresses that are forgotten: the changes that one transfer
-- carries.
use Rattle.std.specs.Prelude.{◌≡◌, ◌<◌, ◌⊎◌, ℕ, ◌+◌, ◌==◌, Bool, true, false, Option, Some, None, List, [], ◌∷◌, slice_get, take, zero, suc}
use Rattle.std.specs.List.{list_any}
use Rattle.ee_codec.specs.Words.{IsAddress}
use Rattle.ee_pages.specs.Meaning.{Change, Map, Put, Forget, changed_by}
use Rattle.ee_pages.specs.Pending.{address_of}
use Rattle.ee_core.specs.declared.change.Put as listed

-- the changes that a list of values makes
abbrev pub puts_of : List listed.Put → List Change
puts_of [] = []
puts_of (put ∷ puts) = Put put.address put.value ∷ puts_of puts

-- and those that forget the addresses of these values
abbrev pub forgets_of : List listed.Put → List Change
forgets_of [] = []
forgets_of (put ∷ puts) = Forget put.address ∷ forgets_of puts

-- the changes that a transfer carries: either of them
abbrev pub changes_of_puts : List listed.Put → Bool → List Change
changes_of_puts puts true = forgets_of puts
changes_of_puts puts false = puts_of puts

-- the forgettings of so many addresses from this one on, by rising address
unfoldable pub forgets_from : ℕ → ℕ → List Change
forgets_from address zero = []
forgets_from address (suc more) = Forget address ∷ forgets_from (address + 1) more

-- the forgetting of each address
abbrev pub each_forgotten : List Change
each_forgotten = forgets_from 1 65534

-- whether one of the changes is of this address
abbrev pub names : List Change → ℕ → Bool
names changes address = list_any (λ change. address_of change == address) changes

-- each change is of a proper address, and no later one is of the same
abbrev pub AreApart : List Change → Type 0
AreApart [] = Unit {0}
AreApart (change ∷ changes) =
    IsAddress (address_of change) × (names changes (address_of change) ≡ false) × AreApart changes

-- one of the values is put at an address that has none in this map
abbrev pub HasNew : List listed.Put → Map → Type 0
HasNew [] map = ⊥
HasNew (put ∷ puts) map = (map put.address ≡ None) ⊎ HasNew puts map

-- ---- an address that is listed twice

-- whether one of the values is of this address
abbrev pub is_put : List listed.Put → ℕ → Bool
is_put puts address = list_any (λ put. put.address == address) puts

abbrev pub is_put_again : List listed.Put → Option listed.Put → Bool
is_put_again earlier None = false
is_put_again earlier (Some put) = is_put earlier put.address

-- whether an earlier entry of the list has the address of the entry of this number
abbrev pub is_twice : List listed.Put → ℕ → Bool
is_twice puts place = is_put_again (take place puts) (slice_get puts place)

-- it is the first such entry, counted from 0
pub record IsFirstTwice (puts : List listed.Put) (place : ℕ) : Type 0 where
  pub twice : is_twice puts place ≡ true
  pub none_before : (lower : ℕ) → lower < place → is_twice puts lower ≡ false

-- there is none
abbrev pub IsEachOnce : List listed.Put → Type 0
IsEachOnce puts = (place : ℕ) → is_twice puts place ≡ false

-- ---- a list that was written

-- the map has each of these values
abbrev pub HasAll : List listed.Put → Map → Type 0
HasAll [] map = Unit {0}
HasAll (put ∷ puts) map = (map put.address ≡ Some put.value) × HasAll puts map

-- a list that has each address once is there in the map after it
abbrev pub ListsAreThere : Type 0
ListsAreThere =
    (puts : List listed.Put) (map : Map) → IsEachOnce puts
    → HasAll puts (changed_by (puts_of puts) map)
