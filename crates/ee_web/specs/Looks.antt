-- What the calls that take no step find, each over the device that its mirror means. They look at
-- the words as they are, and ask for no mark.
use Rattle.std.specs.Prelude.{◌≡◌, ◌⊎◌, ℕ, ◌-◌, Some, None}
use Rattle.ee_flash.specs.Device.{Device}
use Rattle.ee_pages.specs.Layout.{IsScanFault}
use Rattle.ee_pages.specs.Legal.{IsLegal}
use Rattle.ee_pages.specs.Meaning.{live_in}
use Rattle.ee_pages.specs.LiveOrder.{IsNextLive}
use Rattle.ee_core.specs.State.{State, capacity, state_of}
use Rattle.ee_flash.specs.Size.{Size}
use Rattle.ee_web.specs.Answers.{foreign_at, status_of}
use Rattle.ee_web.specs.Mirror.{MirrorFits, Mirror, device_in}
use Rattle.ee_web.specs.declared.answer.Answer.{Answer}
use Rattle.ee_web.specs.declared.answer.Answer.TheVariants.{Done, Nothing, NoStore, WrongShape, ImproperAddress}
use Rattle.ee_web.specs.declared.looking.Found.{Found}
use Rattle.ee_web.specs.declared.looking.FoundResult.{FoundResult}
use Rattle.ee_web.specs.declared.looking.CountsResult.{CountsResult}
use Rattle.ee_web.specs.declared.looking.Counts.{Counts}

-- nothing is found
abbrev pub none_found : Answer → Found
none_found answer = record { answer = answer; address = 0; value = 0 }

-- the value of an address, or that it has none, or why the words are no store
abbrev pub ReadsValue : Device → ℕ → Answer → Found → Type 0
ReadsValue device asked Done found =
    IsLegal device × (found.address ≡ asked) × ((state_of device).map asked ≡ Some found.value)
ReadsValue device asked Nothing found =
    IsLegal device × (found ≡ none_found Nothing) × ((state_of device).map asked ≡ None)
ReadsValue device asked (NoStore fault) found =
    IsScanFault device fault × (found ≡ none_found (NoStore fault))
ReadsValue device asked answer found = ⊥

abbrev pub IsValueRead : Device → ℕ → Found → Type 0
IsValueRead device asked found = ReadsValue device asked found.answer found

-- the next address above this one that has a value, with the value, or that there is none, or why
-- the words are no store
abbrev pub FindsNext : Device → ℕ → Answer → Found → Type 0
FindsNext device above Done found =
    IsLegal device × IsNextLive (state_of device).map above (Some (found.address, found.value))
FindsNext device above Nothing found =
    IsLegal device × (found ≡ none_found Nothing) × IsNextLive (state_of device).map above None
FindsNext device above (NoStore fault) found =
    IsScanFault device fault × (found ≡ none_found (NoStore fault))
FindsNext device above answer found = ⊥

abbrev pub IsNext : Device → ℕ → Found → Type 0
IsNext device above found = FindsNext device above found.answer found

-- these are the counts of a store in this state, which has so many slots
pub record AreStoreCountsOf (slots : ℕ) (state : State) (counts : Counts) : Type 0 where
  pub live_is : counts.live ≡ live_in state.map
  pub fill_is : counts.fill ≡ state.fill
  pub room_is : counts.room ≡ slots - state.fill
  pub generation_is : counts.generation ≡ state.generation
  pub pending_is : counts.pending ≡ state.pending

-- no counts
abbrev pub none_counted : Answer → Counts
none_counted answer =
    record { answer = answer; live = 0; fill = 0; room = 0; generation = 0; pending = 0 }

-- what a count answers and finds
abbrev pub CountsFor : Device → Answer → Counts → Type 0
CountsFor device Done counts =
    IsLegal device × AreStoreCountsOf (capacity device) (state_of device) counts
CountsFor device (NoStore fault) counts =
    IsScanFault device fault × (counts ≡ none_counted (NoStore fault))
CountsFor device answer counts = ⊥

abbrev pub AreStoreCounts : Device → Counts → Type 0
AreStoreCounts device counts = CountsFor device counts.answer counts

-- ---- what the exports tell

-- what the caller is told of a look
abbrev pub found_result : Found → FoundResult
found_result found = record {
  status = status_of found.answer;
  address = found.address;
  value = found.value;
  page = (foreign_at found.answer).0;
  place = (foreign_at found.answer).1;
}

-- and of a count
abbrev pub counts_result : Counts → CountsResult
counts_result counts = record {
  status = status_of counts.answer;
  live = counts.live;
  fill = counts.fill;
  room = counts.room;
  generation = counts.generation;
  pending = counts.pending;
  page = (foreign_at counts.answer).0;
  place = (foreign_at counts.answer).1;
}

-- what a look says: the mirror has another shape, or the argument is not proper, or it is
-- what the look finds
abbrev pub Finds : Size → (Device → Found → Type 0) → Type 0 → Found → Mirror → Type 0
Finds size finds proper found mirror =
    ((found ≡ none_found WrongShape) × ¬ MirrorFits size mirror)
    ⊎ ((found ≡ none_found ImproperAddress) × MirrorFits size mirror × ¬ proper)
    ⊎ (MirrorFits size mirror × proper × finds (device_in size mirror) found)

-- a look tells what it finds
abbrev pub Looks : Size → (Device → Found → Type 0) → Type 0 → FoundResult → Mirror → Type 0
Looks size finds proper result mirror =
    (found : Found) × (result ≡ found_result found) × Finds size finds proper found mirror

-- and a count
abbrev pub CountsIn : Size → CountsResult → Mirror → Type 0
CountsIn size result mirror =
    (counts : Counts) × (result ≡ counts_result counts)
    × (((counts ≡ none_counted WrongShape) × ¬ MirrorFits size mirror)
    ⊎ (MirrorFits size mirror × AreStoreCounts (device_in size mirror) counts))
