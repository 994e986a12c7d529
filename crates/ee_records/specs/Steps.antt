-- What the parts of a call leave: single writes of words of a record.
use Rattle.std.specs.Prelude.{◌≡◌, ◌⊎◌, ◌+◌, ◌-◌, ◌*◌, ◌/◌, ◌%◌, ◌<◌, ℕ, Option, Some, None, List, Result, Ok, Err}
use Rattle.ee_flash.specs.Device.{Device}
use Rattle.ee_flash.specs.Power.{GoesOn, IsCut}
use Rattle.ee_pages.specs.Meaning.{Map, Forget, Put, map_after}
use Rattle.ee_core.specs.Changes.{IsFull, IsSpent}
use Rattle.ee_core.specs.State.{capacity, state_of}
use Rattle.ee_records.specs.Calls.{AreWrites, IsFullFor, IsInPlace, IsNeeded, IsNewTo}
use Rattle.ee_records.specs.Record.{place, record_word, word_turn}
use Rattle.ee_records.specs.declared.fault.RecordFault.{RecordFault}
use Rattle.ee_records.specs.declared.fault.RecordFault.TheVariants as fault
use Rattle.ee_records.specs.declared.fault.TrimFault.{TrimFault}
use Rattle.ee_records.specs.declared.fault.TrimFault.TheVariants as trim

-- the map is as it was, or has the value
abbrev pub MayPut : ℕ → ℕ → Map → Map → Type 0
MayPut address value old new = (new ≡ old) ⊎ (new ≡ map_after (Put address value) old)

-- or the address has none
abbrev pub MayForget : ℕ → Map → Map → Type 0
MayForget address old new = (new ≡ old) ⊎ (new ≡ map_after (Forget address) old)

-- The address has the value by one write at the most, and no other changed; or the write was refused,
-- and nothing changed; or power was cut in it.
abbrev pub PutsOne : {T : Type 0} → Device → ℕ → ℕ → Result T RecordFault → Device → Type 0
PutsOne old address value (Ok done) new =
    GoesOn old new × ((state_of new).map address ≡ Some value)
    × MayPut address value (state_of old).map (state_of new).map × AreWrites 1 old new
PutsOne old address value (Err fault.Off) new = ⊥
PutsOne old address value (Err fault.TooLong) new = ⊥
PutsOne old address value (Err fault.Full) new =
    (new ≡ old) × IsFull (capacity old) (state_of old) address
PutsOne old address value (Err fault.Spent) new =
    (new ≡ old) × IsSpent (capacity old) (state_of old)
PutsOne old address value (Err fault.Memory) new =
    (new ≡ old) × ((state_of old).map address ≡ None)
PutsOne old address value (Err fault.Cut) new =
    IsCut old new × MayPut address value (state_of old).map (state_of new).map

-- The address has no value, and no other changed; or the forgetting was refused, and nothing
-- changed; or power was cut in it.
abbrev pub ForgetsOne : {T : Type 0} → Device → ℕ → Result T TrimFault → Device → Type 0
ForgetsOne old address (Ok done) new =
    GoesOn old new × ((state_of new).map address ≡ None)
    × MayForget address (state_of old).map (state_of new).map
ForgetsOne old address (Err trim.Off) new = ⊥
ForgetsOne old address (Err trim.Spent) new =
    (new ≡ old) × IsSpent (capacity old) (state_of old)
ForgetsOne old address (Err trim.Cut) new =
    IsCut old new × MayForget address (state_of old).map (state_of new).map

-- how a call that makes single writes ends: power goes on, or was cut; and why it was refused
abbrev pub EndsSo : {T : Type 0} → ℕ → ℕ → Result T RecordFault → Device → Device → Type 0
EndsSo base room (Ok done) old new = GoesOn old new
EndsSo base room (Err fault.Off) old new = ⊥
EndsSo base room (Err fault.TooLong) old new = ⊥
EndsSo base room (Err fault.Full) old new = GoesOn old new × IsFullFor base room new
EndsSo base room (Err fault.Spent) old new =
    GoesOn old new × IsSpent (capacity new) (state_of new)
EndsSo base room (Err fault.Memory) old new = GoesOn old new × IsNewTo base room new
EndsSo base room (Err fault.Cut) old new = IsCut old new

-- ---- words

-- the turns are those of the head in this map, if it has one
abbrev pub AreTurnsIn : Map → ℕ → ℕ → Type 0
AreTurnsIn map base turns = (head : ℕ) → map base ≡ Some head → turns ≡ head / 65536

-- the address is that of a word where it doesn't count by these turns
pub record IsOther (base room turns address : ℕ) : Type 0 where
  pub word : ℕ
  pub within : word < room + 1
  pub is : address ≡ place base word (1 - word_turn turns word)

-- each address but those has what it had
abbrev pub KeepsCounted : ℕ → ℕ → ℕ → Map → Map → Type 0
KeepsCounted base room turns old new =
    (address : ℕ) → ¬ IsOther base room turns address → new address ≡ old address

-- of so many words, those that don't turn are where they count
abbrev pub AreUnchanged : ℕ → Map → ℕ → List ℕ → ℕ → ℕ → Type 0
AreUnchanged words map base bytes turns turned =
    (word : ℕ) → word < words → word_turn turned word ≡ 0 → IsInPlace map base bytes turns word

-- of so many words, those that turn are at their other addresses
abbrev pub HaveWords : ℕ → Map → ℕ → List ℕ → ℕ → ℕ → Type 0
HaveWords words map base bytes turns turned =
    (word : ℕ) → word < words → word_turn turned word ≡ 1
    → map (place base word (1 - word_turn turns word)) ≡ Some (record_word bytes word)

-- ---- words that aren't needed

-- the address is one behind the base that a record with this head doesn't need
pub record IsUnneeded (base room : ℕ) (head : Option ℕ) (address : ℕ) : Type 0 where
  pub at : ℕ
  pub within : at < 2 * (room + 1)
  pub is : address ≡ base + 1 + at
  pub unneeded : ¬ IsNeeded head (at / 2) (at % 2)

-- each other address has what it had
abbrev pub KeepsNeeded : ℕ → ℕ → Option ℕ → Map → Map → Type 0
KeepsNeeded base room head old new =
    (address : ℕ) → ¬ IsUnneeded base room head address → new address ≡ old address
