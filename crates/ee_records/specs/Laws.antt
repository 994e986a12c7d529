-- What follows for the records of a map.
use Rattle.std.specs.Prelude.{◌≡◌, ◌≢◌, ◌<◌, ◌≤◌, ℕ, List}
use Rattle.ee_flash.specs.Device.{Device}
use Rattle.ee_pages.specs.Meaning.{Map}
use Rattle.ee_records.specs.Record.{HoldsBytes, IsOf, KeepsBeside, KeepsRecord}

-- a map holds one record at a base address at most
abbrev pub RecordsAreOne : Type 0
RecordsAreOne =
    (map : Map) (base room : ℕ) (one other : List ℕ) → room < 16384 → HoldsBytes map base room one
    → HoldsBytes map base room other → one ≡ other

-- Where one address but the base has any other value or none, a record reads as it was, or hurt: its
-- bytes are never others.
abbrev pub OneWordIsTold : Type 0
OneWordIsTold =
    (old new : Map) (base room address : ℕ) (one other : List ℕ) → room < 16384 → address ≢ base
    → ((at : ℕ) → at ≢ address → new at ≡ old at)
    → HoldsBytes old base room one → HoldsBytes new base room other → other ≡ one

-- no address is of both records
abbrev pub AreRecordsApart : ℕ → ℕ → ℕ → ℕ → Type 0
AreRecordsApart base room other other_room =
    (address : ℕ) → IsOf base room address → ¬ IsOf other other_room address

-- what keeps all but one record keeps each record that is apart from it
abbrev pub OtherRecordsAreKept : Type 0
OtherRecordsAreKept =
    (old new : Device) (base room other other_room : ℕ) → AreRecordsApart base room other other_room
    → KeepsBeside base room old new → KeepsRecord other other_room old new

-- with more room a record is the same
abbrev pub RecordsGrow : Type 0
RecordsGrow =
    (map : Map) (base room more : ℕ) (bytes : List ℕ) → room ≤ more → HoldsBytes map base room bytes
    → HoldsBytes map base more bytes
