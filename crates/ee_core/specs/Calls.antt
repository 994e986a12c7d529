-- What each call of a store answers, and what it leaves: one relation for each, by cases on the
-- answer. Every store keeps them. That of a clear stands in Emptying.
use Rattle.std.specs.Prelude.{◌≡◌, ◌≢◌, ◌<◌, ◌⊎◌, ℕ, ◌-◌, Option, Some, None, Result, Ok, Err, Bool, true, false, List, [], ◌∷◌}
use Rattle.ee_flash.specs.Device.{Device, IsOff, IsOn, page_at}
use Rattle.ee_flash.specs.Power.{GoesOn, IsCut}
use Rattle.ee_flash.specs.Step.{IsPartlyErased}
use Rattle.ee_pages.specs.Laws.{IsPageOf}
use Rattle.ee_pages.specs.Meaning.{Put, Forget}
use Rattle.ee_pages.specs.Page.{is_blank}
use Rattle.ee_pages.specs.Sets.{live_of, other}
use Rattle.ee_pages.specs.declared.side.Side.{Side}
use Rattle.ee_core.specs.CallSteps.{IsSameBut}
use Rattle.ee_core.specs.Changes.{Appends, HaveNoGeneration, HaveNoPlace, IsCutChange, IsCutMaking, IsFull, IsSpent, Moves, Proceeds}
use Rattle.ee_core.specs.Puts.{HasNew, IsEachOnce, IsFirstTwice, puts_of}
use Rattle.ee_core.specs.StepLists.{steps_of_clean}
use Rattle.ee_flash.specs.Taking.{Completes, IsCutAmong}
use Rattle.ee_core.specs.State.{Wears, capacity, pending_pages, state_of, with_pending}
use Rattle.ee_core.specs.declared.change.Put as listed
use Rattle.ee_core.specs.declared.variables.Written.{Written}
use Rattle.ee_core.specs.declared.variables.Written.TheVariants.{Appended, Moved}
use Rattle.ee_core.specs.declared.variables.WriteAllFault.{WriteAllFault}
use Rattle.ee_core.specs.declared.variables.WriteAllFault.TheVariants as all
use Rattle.ee_core.specs.declared.variables.WriteFault.{WriteFault}
use Rattle.ee_core.specs.declared.variables.WriteFault.TheVariants as write
use Rattle.ee_core.specs.declared.variables.ForgetFault.{ForgetFault}
use Rattle.ee_core.specs.declared.variables.ForgetFault.TheVariants as forget

-- reading gives the map's value, or the device was off
abbrev pub Reads : {E : Type 0} → Device → ℕ → Result (Option ℕ) E → Type 0
Reads device address (Ok value) = IsOn device × (value ≡ (state_of device).map address)
Reads device address (Err off) = IsOff device

-- A write is appended or moved; or power was cut; or nothing changed: the first cause that applies
-- refused it, or memory ran out for an address that has no value.
abbrev pub Writes : Device → ℕ → ℕ → Result Written WriteFault → Device → Type 0
Writes old address value (Ok Appended) new = Appends old (Put address value) new
Writes old address value (Ok Moved) new = Moves old (Put address value ∷ []) new
Writes old address value (Err write.Off) new = IsOff old × (new ≡ old)
Writes old address value (Err write.Full) new =
    IsOn old × IsFull (capacity old) (state_of old) address × (new ≡ old)
Writes old address value (Err write.Spent) new =
    IsOn old × ¬ IsFull (capacity old) (state_of old) address
    × IsSpent (capacity old) (state_of old) × (new ≡ old)
Writes old address value (Err write.Memory) new =
    Proceeds old (Put address value ∷ []) × ((state_of old).map address ≡ None) × (new ≡ old)
Writes old address value (Err write.Cut) new = IsCutChange old (Put address value) new

-- a forgetting likewise, of an address that has a value; it needs no memory
abbrev pub Forgets : Device → ℕ → Result Written ForgetFault → Device → Type 0
Forgets old address (Ok Appended) new = Appends old (Forget address) new
Forgets old address (Ok Moved) new = Moves old (Forget address ∷ []) new
Forgets old address (Err forget.Off) new = IsOff old × (new ≡ old)
Forgets old address (Err forget.Absent) new =
    IsOn old × ((state_of old).map address ≡ None) × (new ≡ old)
Forgets old address (Err forget.Spent) new =
    IsOn old × ((state_of old).map address ≢ None) × IsSpent (capacity old) (state_of old)
    × (new ≡ old)
Forgets old address (Err forget.Cut) new = IsCutChange old (Forget address) new

-- what is stored of a list of values with no transfer: nothing, or its one value in a free slot
abbrev pub AppendsAll : Device → List listed.Put → Device → Type 0
AppendsAll old [] new = IsOn old × (new ≡ old)
AppendsAll old (put ∷ []) new = Appends old (Put put.address put.value) new
AppendsAll old puts new = ⊥

-- A list of values is written whole: an empty one changes nothing, one value is appended or moved,
-- several are moved at once. Or power was cut, and the map is as it was or has them all. Or nothing
-- changed: the first cause that applies refused it, or memory ran out for an address with no value.
abbrev pub WritesAll : Device → List listed.Put → Result Written WriteAllFault → Device → Type 0
WritesAll old puts (Ok Appended) new = AppendsAll old puts new
WritesAll old puts (Ok Moved) new = IsEachOnce puts × Moves old (puts_of puts) new
WritesAll old puts (Err all.Off) new = IsOff old × (new ≡ old)
WritesAll old puts (Err (all.Twice place)) new = IsOn old × IsFirstTwice puts place × (new ≡ old)
WritesAll old puts (Err all.Full) new =
    IsOn old × IsEachOnce puts × HaveNoPlace (capacity old) (state_of old) (puts_of puts)
    × (new ≡ old)
WritesAll old puts (Err all.Spent) new =
    IsOn old × IsEachOnce puts × ¬ HaveNoPlace (capacity old) (state_of old) (puts_of puts)
    × HaveNoGeneration (capacity old) (state_of old) (puts_of puts) × (new ≡ old)
WritesAll old puts (Err all.Memory) new =
    IsEachOnce puts × Proceeds old (puts_of puts) × HasNew puts (state_of old).map × (new ≡ old)
WritesAll old puts (Err all.Cut) new = IsEachOnce puts × IsCutMaking old (puts_of puts) new

-- the page waits to be erased: it is one of the set that is not live, and it is not blank
pub record IsPending (device : Device) (page : ℕ) : Type 0 where
  pub side : Side
  pub generation : ℕ
  pub live : live_of device ≡ Some (side, generation)
  pub in_other : IsPageOf device.size (other side) page
  pub not_blank : is_blank (page_at device page) ≡ false

-- it waits, and no page below it does
pub record IsLowestPending (device : Device) (page : ℕ) : Type 0 where
  pub waits : IsPending device page
  pub none_lower : (lower : ℕ) → lower < page → ¬ IsPending device lower

-- the lowest page that waited was erased and is blank; the others wait; no other page is changed
pub record ErasesLowest (old new : Device) : Type 0 where
  pub page : ℕ
  pub lowest : IsLowestPending old page
  pub blank : is_blank (page_at new page) ≡ true
  pub waited : pending_pages old ≡ page ∷ pending_pages new
  pub others : IsSameBut page old new
  pub wear : Wears (page ∷ []) old new

-- the erase of the lowest page that waited was begun: in it each word is as before, erased or torn,
-- and each other page is as before
pub record KeepsAllButLowest (old new : Device) : Type 0 where
  pub page : ℕ
  pub lowest : IsLowestPending old page
  pub here : IsPartlyErased (page_at old page) (page_at new page)
  pub others : IsSameBut page old new
  pub wear : Wears (page ∷ []) old new

-- the lowest page that waited was erased
pub record ErasesOne (old new : Device) : Type 0 where
  pub was_on : IsOn old
  pub goes_on : GoesOn old new
  pub steps : Completes (steps_of_clean old) old new
  pub some : 0 < (state_of old).pending
  pub state_is : state_of new ≡ with_pending ((state_of old).pending - 1) (state_of old)
  pub live_is : live_of new ≡ live_of old
  pub lowest : ErasesLowest old new

-- power was cut in erasing it: as many pages wait, or one less
pub record IsCutClean (old new : Device) : Type 0 where
  pub cut : IsCut old new
  pub steps : IsCutAmong (steps_of_clean old) old new
  pub some : 0 < (state_of old).pending
  pub state_is : (state_of new ≡ state_of old)
      ⊎ (state_of new ≡ with_pending ((state_of old).pending - 1) (state_of old))
  pub lowest : KeepsAllButLowest old new

-- a clean step erases the lowest page of those that wait, if there is one
abbrev pub Cleans : Device → Result Bool WriteFault → Device → Type 0
Cleans old (Ok true) new = ErasesOne old new
Cleans old (Ok false) new = IsOn old × ((state_of old).pending ≡ 0) × (new ≡ old)
Cleans old (Err write.Off) new = IsOff old × (new ≡ old)
Cleans old (Err write.Cut) new = IsCutClean old new
Cleans old (Err fault) new = ⊥
