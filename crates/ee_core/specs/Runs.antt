-- Runs of calls of a store, and what holds over each run in which power is not cut: each law is
-- proved by the function of its name.
use Rattle.std.specs.Prelude.{◌≡◌, ◌+◌, ◌*◌, ◌/◌, ◌<◌, ◌≤◌, ℕ, Bool, true, false, Option, Some, Result, Ok, Err, IfOk, List, [], ◌∷◌}
use Rattle.std.specs.List.{All, count_by, flat_map}
use Rattle.ee_flash.specs.Device.{Device, page_at, wear_at}
use Rattle.ee_flash.specs.Power.{GoesOn}
use Rattle.ee_flash.specs.Size.{page_count}
use Rattle.ee_flash.specs.Wear.{total_wear_of}
use Rattle.ee_pages.specs.Laws.{IsPageOf}
use Rattle.ee_pages.specs.Legal.{IsLegal}
use Rattle.ee_pages.specs.Meaning.{Change, Put, Forget, Map, changed_by}
use Rattle.ee_pages.specs.Page.{is_blank}
use Rattle.ee_pages.specs.Sets.{live_of, other}
use Rattle.ee_pages.specs.declared.side.Side.{Side}
use Rattle.ee_core.specs.Calls.{Cleans, Forgets, IsPending, Reads, Writes, WritesAll}
use Rattle.ee_core.specs.Emptying.{Clears}
use Rattle.ee_core.specs.Puts.{each_forgotten, puts_of}
use Rattle.ee_core.specs.State.{CountsWear, state_of}
use Rattle.ee_core.specs.declared.change.Put as listed
use Rattle.ee_core.specs.declared.variables.ClearFault.{ClearFault}
use Rattle.ee_core.specs.declared.variables.ClearFault.TheVariants as clear
use Rattle.ee_core.specs.declared.variables.ForgetFault.{ForgetFault}
use Rattle.ee_core.specs.declared.variables.ForgetFault.TheVariants as forget
use Rattle.ee_core.specs.declared.variables.Off.{Off}
use Rattle.ee_core.specs.declared.variables.WriteAllFault.{WriteAllFault}
use Rattle.ee_core.specs.declared.variables.WriteAllFault.TheVariants as all
use Rattle.ee_core.specs.declared.variables.WriteFault.{WriteFault}
use Rattle.ee_core.specs.declared.variables.WriteFault.TheVariants as write
use Rattle.ee_core.specs.declared.variables.Written.{Written}
use Rattle.ee_core.specs.declared.variables.Written.TheVariants.{Moved}

-- a call with its answer: a write, a write of a list, a forgetting, a clear, a clean step, a read
pub data Call : Type 0 where
  Wrote : (address value : ℕ) (answer : Result Written WriteFault) → Call
  WroteAll : (puts : List listed.Put) (answer : Result Written WriteAllFault) → Call
  Forgot : (address : ℕ) (answer : Result Written ForgetFault) → Call
  Cleared : (answer : Result Bool ClearFault) → Call
  Cleaned : (answer : Result Bool WriteFault) → Call
  DidRead : (address : ℕ) (answer : Result (Option ℕ) Off) → Call

-- the call, answered so, leaves this device
abbrev pub Follows : Call → Device → Device → Type 0
Follows (Wrote address value answer) old new = Writes old address value answer new
Follows (WroteAll puts answer) old new = WritesAll old puts answer new
Follows (Forgot address answer) old new = Forgets old address answer new
Follows (Cleared answer) old new = Clears old answer new
Follows (Cleaned answer) old new = Cleans old answer new
Follows (DidRead address answer) old new = Reads old address answer × (new ≡ old)

-- calls in their order: each is made on the device that the one before it left
abbrev pub IsRun : List Call → Device → Device → Type 0
IsRun [] old new = new ≡ old
IsRun (call ∷ calls) old new =
    (between : Device) × Follows call old between × IsRun calls between new

-- whether the call moved the map to the other set
abbrev pub is_transfer : Call → Bool
is_transfer (Wrote address value (Ok Moved)) = true
is_transfer (WroteAll puts (Ok Moved)) = true
is_transfer (Forgot address (Ok Moved)) = true
is_transfer (Cleared (Ok true)) = true
is_transfer call = false

-- how many calls did
abbrev pub transfers : List Call → ℕ
transfers calls = count_by is_transfer calls

-- whether power was cut in the call
abbrev pub is_cut : Call → Bool
is_cut (Wrote address value (Err write.Cut)) = true
is_cut (WroteAll puts (Err all.Cut)) = true
is_cut (Forgot address (Err forget.Cut)) = true
is_cut (Cleared (Err clear.Cut)) = true
is_cut (Cleaned (Err write.Cut)) = true
is_cut call = false

-- a run in which power was not cut
pub record IsWholeRun (calls : List Call) (old new : Device) : Type 0 where
  pub run : IsRun calls old new
  pub without_cuts : All (λ call. is_cut call ≡ false) calls

-- the changes that the call made: those that were asked for, if the answer is that they were
-- stored; a clear forgets each address
abbrev pub changes_of_call : Call → List Change
changes_of_call (Wrote address value (Ok written)) = Put address value ∷ []
changes_of_call (WroteAll puts (Ok written)) = puts_of puts
changes_of_call (Forgot address (Ok written)) = Forget address ∷ []
changes_of_call (Cleared (Ok true)) = each_forgotten
changes_of_call call = []

-- a read that has an answer has the value in this map
abbrev pub IsAnsweredBy : Map → Call → Type 0
IsAnsweredBy map (DidRead address answer) = IfOk answer (λ value. value ≡ map address)
IsAnsweredBy map call = Unit {0}

-- each read is answered by the map that the changes before it made of this one
abbrev pub AreAnsweredFrom : Map → List Call → Type 0
AreAnsweredFrom map [] = Unit {0}
AreAnsweredFrom map (call ∷ calls) =
    IsAnsweredBy map call × AreAnsweredFrom (changed_by (changes_of_call call) map) calls

-- power, cuts and size are as before
abbrev pub RunsGoOn : Type 0
RunsGoOn = (calls : List Call) (old new : Device) → IsWholeRun calls old new → GoesOn old new

-- whether the call asks for one change at the most
abbrev pub is_single : Call → Bool
is_single (WroteAll (first ∷ second ∷ more) answer) = false
is_single (Cleared answer) = false
is_single call = true

-- All wear, and the pages that wait to be erased, are together more by the pages of a set for each
-- transfer, and by none for any other call. It is said of single changes, and where no page was
-- erased as often as can be counted.
abbrev pub EachTransferErasesASet : Type 0
EachTransferErasesASet =
    (calls : List Call) (old new : Device) → IsWholeRun calls old new
    → All (λ call. is_single call ≡ true) calls → CountsWear new
    → total_wear_of new + (state_of new).pending
    ≡ total_wear_of old + (state_of old).pending + transfers calls * old.size.pages

-- With lists of several and clears, which move the map whether the set that it leaves is full or
-- not, they are no more.
abbrev pub NoTransferErasesMore : Type 0
NoTransferErasesMore =
    (calls : List Call) (old new : Device) → IsWholeRun calls old new → CountsWear new
    → total_wear_of new + (state_of new).pending ≤ total_wear_of old + (state_of old).pending
    + transfers calls * old.size.pages

-- so where none waited, and none waits at the end, as many pages were erased
abbrev pub CleanRunsEraseSets : Type 0
CleanRunsEraseSets =
    (calls : List Call) (old new : Device) → IsWholeRun calls old new
    → All (λ call. is_single call ≡ true) calls → CountsWear new → (state_of old).pending ≡ 0
    → (state_of new).pending ≡ 0
    → total_wear_of new ≡ total_wear_of old + transfers calls * old.size.pages

-- the page is one of the live set
pub record IsLivePage (device : Device) (page : ℕ) : Type 0 where
  pub side : Side
  pub generation : ℕ
  pub live : live_of device ≡ Some (side, generation)
  pub in_live : IsPageOf device.size side page

-- it is one of the other set, and blank
pub record IsSparePage (device : Device) (page : ℕ) : Type 0 where
  pub side : Side
  pub generation : ℕ
  pub live : live_of device ≡ Some (side, generation)
  pub in_other : IsPageOf device.size (other side) page
  pub blank : is_blank (page_at device page) ≡ true

-- So often at the most was the page erased in a run with so many transfers, by where it stood at
-- the start: in the live set, in the other set with nothing to erase, or in the other set and
-- waiting to be erased.
pub record WearsAtMost (moves page : ℕ) (old new : Device) : Type 0 where
  pub live : IsLivePage old page → wear_at new page ≤ wear_at old page + (moves + 1) / 2
  pub spare : IsSparePage old page → wear_at new page ≤ wear_at old page + moves / 2
  pub pending : IsPending old page → wear_at new page ≤ wear_at old page + (moves / 2 + 1)

-- each page is erased at every second transfer at the most
abbrev pub EachPageWearsEverySecondTransfer : Type 0
EachPageWearsEverySecondTransfer =
    (calls : List Call) (old new : Device) (page : ℕ) → IsWholeRun calls old new
    → WearsAtMost (transfers calls) page old new

-- So from a legal image in which no page waits, no page is erased more often than every second
-- transfer, rounded up.
abbrev pub NoPageWearsMore : Type 0
NoPageWearsMore =
    (calls : List Call) (old new : Device) (page : ℕ) → IsWholeRun calls old new → IsLegal old
    → (state_of old).pending ≡ 0
    → page < page_count old.size → wear_at new page ≤ wear_at old page + (transfers calls + 1) / 2

-- And from any legal image no page is erased more than once more often than every second transfer.
abbrev pub NoPageWearsMuchMore : Type 0
NoPageWearsMuchMore =
    (calls : List Call) (old new : Device) (page : ℕ) → IsWholeRun calls old new → IsLegal old
    → page < page_count old.size → wear_at new page ≤ wear_at old page + (transfers calls / 2 + 1)

-- the map at the end has every change that was answered, in their order, and no other; each read is
-- answered by the map at its point
abbrev pub TheStoreIsAMap : Type 0
TheStoreIsAMap =
    (calls : List Call) (old new : Device) → IsWholeRun calls old new
    → ((state_of new).map ≡ changed_by (flat_map changes_of_call calls) (state_of old).map)
    × AreAnsweredFrom (state_of old).map calls
