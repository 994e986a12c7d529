-- What each call on a record answers and leaves: one relation for each, by cases on the answer.
use Rattle.std.specs.Prelude.{◌≡◌, ◌≢◌, ◌⊎◌, ◌+◌, ◌*◌, ◌/◌, ◌%◌, ◌<◌, ◌≤◌, ℕ, Bool, true, false, Option, Some, None, List, length, suc, take, Result, Ok, Err, zero}
use Rattle.ee_flash.specs.Device.{Device, IsOn, IsOff}
use Rattle.ee_flash.specs.Power.{GoesOn, IsCut}
use Rattle.ee_pages.specs.Meaning.{Map}
use Rattle.ee_core.specs.Calls.{Writes}
use Rattle.ee_core.specs.Changes.{IsFull, IsSpent}
use Rattle.ee_core.specs.State.{capacity, state_of}
use Rattle.ee_core.specs.declared.change.Put as listed
use Rattle.ee_core.specs.declared.variables.ForgetFault.{ForgetFault}
use Rattle.ee_core.specs.declared.variables.ForgetFault.TheVariants as forget
use Rattle.ee_core.specs.declared.variables.Written.{Written}
use Rattle.ee_records.specs.Record.{HoldsBytes, HasNoRecord, IsHurt, IsOf, KeepsBeside, KeepsRecord, place_by, record_word, word_turn, words_with}
use Rattle.ee_records.specs.declared.fault.ReadFault.{ReadFault}
use Rattle.ee_records.specs.declared.fault.ReadFault.TheVariants as read
use Rattle.ee_records.specs.declared.fault.RecordFault.{RecordFault}
use Rattle.ee_records.specs.declared.fault.RecordFault.TheVariants as fault
use Rattle.ee_records.specs.declared.fault.TrimFault.{TrimFault}
use Rattle.ee_records.specs.declared.fault.TrimFault.TheVariants as trim

-- The space that was lent begins with the record's bytes, whose check is the record's; or there is
-- none; or it is hurt; or the device was off, or the space is too short for the length that the head
-- has.
abbrev pub ReadsRecord : Device → ℕ → ℕ → List ℕ → Result (Option ℕ) ReadFault → List ℕ → Type 0
ReadsRecord device base room old (Ok (Some count)) new =
    IsOn device × (length (take count new) ≡ count)
    × HoldsBytes (state_of device).map base room (take count new)
ReadsRecord device base room old (Ok None) new =
    IsOn device × HasNoRecord (state_of device).map base
ReadsRecord device base room old (Err read.Off) new = IsOff device
ReadsRecord device base room old (Err (read.TooLong count)) new =
    IsOn device × (length old < count) × (count ≤ 4 * room)
    × (head : ℕ) × ((state_of device).map base ≡ Some head) × (count ≡ head % 65536)
ReadsRecord device base room old (Err read.Hurt) new =
    IsOn device × IsHurt (state_of device).map base room

-- an address of the record has no value
abbrev pub IsNewTo : ℕ → ℕ → Device → Type 0
IsNewTo base room device =
    (address : ℕ) × IsOf base room address × ((state_of device).map address ≡ None)

-- and as many addresses have one as there are slots
abbrev pub IsFullFor : ℕ → ℕ → Device → Type 0
IsFullFor base room device =
    (address : ℕ) × IsOf base room address × IsFull (capacity device) (state_of device) address

-- power was on, and is
abbrev pub StaysPowered : Device → Device → Type 0
StaysPowered old new = IsOn old × GoesOn old new

-- the record and each other address are as they were
pub record KeepsMeaning (base room : ℕ) (old new : Device) : Type 0 where
  pub record_kept : KeepsRecord base room old new
  pub others : KeepsBeside base room old new

-- the record is these bytes, and each other address is as it was
pub record HasWritten (base room : ℕ) (bytes : List ℕ) (old new : Device) : Type 0 where
  pub holds : HoldsBytes (state_of new).map base room bytes
  pub others : KeepsBeside base room old new

-- Where this address gets this value, and no other of the record changes, the record is these bytes.
abbrev pub IsCompletedBy : Map → ℕ → ℕ → List ℕ → ℕ → ℕ → Type 0
IsCompletedBy map base room bytes named value =
    (new : Map) → new named ≡ Some value
    → ((address : ℕ) → IsOf base room address → address ≢ named → new address ≡ map address)
    → HoldsBytes new base room bytes

-- ---- how many slots a write takes

-- so many single writes, each of one slot or by a move, lead from one device to the other, or fewer
abbrev pub AreWrites : ℕ → Device → Device → Type 0
AreWrites zero old new = new ≡ old
AreWrites (suc writes) old new =
    AreWrites writes old new
    ⊎ ((mid : Device) × AreWrites writes old mid
    × (address : ℕ) × (value : ℕ) × (written : Written) × Writes mid address value (Ok written) new)

-- of so many words, how many turn
abbrev pub turning : ℕ → ℕ → ℕ
turning turned zero = 0
turning turned (suc words) = turning turned words + word_turn turned words

-- the word of these bytes is where it counts by these turns
abbrev pub IsInPlace : Map → ℕ → List ℕ → ℕ → ℕ → Type 0
IsInPlace map base bytes turns word =
    map (place_by base turns word) ≡ Some (record_word bytes word)

-- of so many words one changes that has this word's turn: itself, or one sixteen or more away
abbrev pub Changes : ℕ → Map → ℕ → List ℕ → ℕ → ℕ → Type 0
Changes words map base bytes turns word =
    (other : ℕ) × (other < words) × (other % 16 ≡ word % 16) × ¬ IsInPlace map base bytes turns other

-- a word turns only with one of so many that changes
abbrev pub AreChanged : ℕ → Map → ℕ → List ℕ → ℕ → ℕ → Type 0
AreChanged words map base bytes turns turned =
    (word : ℕ) → word_turn turned word ≡ 1 → Changes words map base bytes turns word

-- so it is by the turns of the head, where there is one
abbrev pub AreChangedIn : ℕ → Map → ℕ → List ℕ → ℕ → Type 0
AreChangedIn words map base bytes turned =
    (head : ℕ) → map base ≡ Some head → AreChanged words map base bytes (head / 65536) turned

-- A write of these bytes takes a slot for each word that turns, and so many more, or fewer slots.
-- Where there is a head, a word turns only with one that changes; of up to 60 bytes that is itself.
pub record IsPaid (more base : ℕ) (bytes : List ℕ) (old new : Device) : Type 0 where
  pub turned : ℕ
  pub changed : AreChangedIn (words_with (length bytes)) (state_of old).map base bytes turned
  pub writes : AreWrites (turning turned (words_with (length bytes)) + more) old new

-- ---- writing

-- The record, at this base with room for so many words, is as it was, and so is each other address;
-- and it is these bytes once the value of the answer is written, or it is already where there is
-- none.
abbrev pub PreparesRecord : Device → ℕ → ℕ → List ℕ → Result (Option listed.Put) RecordFault → Device
    → Type 0
PreparesRecord old base room bytes (Ok (Some put)) new =
    StaysPowered old new × KeepsMeaning base room old new × IsOf base room put.address
    × IsCompletedBy (state_of new).map base room bytes put.address put.value
    × IsPaid 0 base bytes old new
PreparesRecord old base room bytes (Ok None) new =
    IsOn old × HoldsBytes (state_of old).map base room bytes × (new ≡ old)
PreparesRecord old base room bytes (Err fault.Off) new = IsOff old × (new ≡ old)
PreparesRecord old base room bytes (Err fault.TooLong) new =
    IsOn old × (4 * room < length bytes) × (new ≡ old)
PreparesRecord old base room bytes (Err fault.Full) new =
    StaysPowered old new × KeepsMeaning base room old new × IsFullFor base room new
PreparesRecord old base room bytes (Err fault.Spent) new =
    StaysPowered old new × KeepsMeaning base room old new × IsSpent (capacity new) (state_of new)
PreparesRecord old base room bytes (Err fault.Memory) new =
    StaysPowered old new × KeepsMeaning base room old new × IsNewTo base room new
PreparesRecord old base room bytes (Err fault.Cut) new = IsCut old new × KeepsMeaning base room old new

-- The record, at this base with room for so many words, is these bytes; it was so already, and
-- nothing changed; or it was refused, and each record and each other address reads as before; or
-- power was cut, and it is as it was or is these bytes. A write takes one slot, the head's, more
-- than words turn.
abbrev pub WritesRecord : Device → ℕ → ℕ → List ℕ → Result Bool RecordFault → Device → Type 0
WritesRecord old base room bytes (Ok true) new =
    StaysPowered old new × HasWritten base room bytes old new × IsPaid 1 base bytes old new
WritesRecord old base room bytes (Ok false) new =
    IsOn old × HoldsBytes (state_of old).map base room bytes × (new ≡ old)
WritesRecord old base room bytes (Err fault.Off) new = IsOff old × (new ≡ old)
WritesRecord old base room bytes (Err fault.TooLong) new =
    IsOn old × (4 * room < length bytes) × (new ≡ old)
WritesRecord old base room bytes (Err fault.Full) new =
    StaysPowered old new × KeepsMeaning base room old new × IsFullFor base room new
WritesRecord old base room bytes (Err fault.Spent) new =
    StaysPowered old new × KeepsMeaning base room old new × IsSpent (capacity new) (state_of new)
WritesRecord old base room bytes (Err fault.Memory) new =
    StaysPowered old new × KeepsMeaning base room old new × IsNewTo base room new
WritesRecord old base room bytes (Err fault.Cut) new =
    IsCut old new × (KeepsMeaning base room old new ⊎ HasWritten base room bytes old new)

-- ---- forgetting

-- The record is none; or it was refused, and nothing changed; or power was cut, and it is as it was
-- or none.
abbrev pub ForgetsRecord : {T : Type 0} → Device → ℕ → ℕ → Result T ForgetFault → Device → Type 0
ForgetsRecord old base room (Ok done) new =
    StaysPowered old new × HasNoRecord (state_of new).map base × KeepsBeside base room old new
ForgetsRecord old base room (Err forget.Off) new = IsOff old × (new ≡ old)
ForgetsRecord old base room (Err forget.Absent) new =
    IsOn old × HasNoRecord (state_of old).map base × (new ≡ old)
ForgetsRecord old base room (Err forget.Spent) new =
    IsOn old × IsSpent (capacity old) (state_of old) × (new ≡ old)
ForgetsRecord old base room (Err forget.Cut) new =
    IsCut old new × KeepsBeside base room old new
    × (KeepsRecord base room old new ⊎ HasNoRecord (state_of new).map base)

-- a record with this head has the word, and it counts by this turn
abbrev pub IsNeeded : Option ℕ → ℕ → ℕ → Type 0
IsNeeded None word turn = ⊥
IsNeeded (Some head) word turn =
    (word < words_with (head % 65536)) × (word_turn (head / 65536) word ≡ turn)

-- of so many addresses behind the base each one that isn't needed has no value
abbrev pub AreTrimmed : ℕ → Map → ℕ → Option ℕ → Type 0
AreTrimmed addresses map base head =
    (at : ℕ) → at < addresses → ¬ IsNeeded head (at / 2) (at % 2) → map (base + 1 + at) ≡ None

-- No address of the record that it doesn't need has a value; or it was refused or cut. The record
-- and each other address are as they were.
abbrev pub TrimsRecord : {T : Type 0} → Device → ℕ → ℕ → Result T TrimFault → Device → Type 0
TrimsRecord old base room (Ok done) new =
    StaysPowered old new × KeepsMeaning base room old new
    × AreTrimmed (2 * (room + 1)) (state_of new).map base ((state_of old).map base)
TrimsRecord old base room (Err trim.Off) new = IsOff old × (new ≡ old)
TrimsRecord old base room (Err trim.Spent) new =
    StaysPowered old new × KeepsMeaning base room old new × IsSpent (capacity new) (state_of new)
TrimsRecord old base room (Err trim.Cut) new = IsCut old new × KeepsMeaning base room old new
