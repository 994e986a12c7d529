-- The store that transfers exactly when each slot is used, on its way through a trace.
use Rattle.std.specs.Prelude.{◌≡◌, ◌⊎◌, ℕ, ◌+◌, ◌-◌, ◌<◌, ◌≤◌, List, [], ◌∷◌, ◌++◌, length, take}
use Rattle.ee_check.specs.declared.change.Change.{Change}
use Rattle.ee_check.specs.declared.certificate.Stretch.{Stretch}
use Rattle.ee_check.specs.Live.{live_after_one, live_after, KeepsWithin}
use Rattle.ee_check.specs.Schedule.{Situation, Append, Carry, after_move}
use Rattle.ee_check.specs.Certificate.{IsTightStretch, EachStretch, first_place, last_place}
use Rattle.ee_plan.specs.declared.planner.planned.PlanFault.{PlanFault}
use Rattle.ee_plan.specs.declared.planner.planned.PlanFault.TheVariants.{NotFitting, Memory}

-- how it stands, how many slots were used where the last of its stretches ended, and its stretches
pub record LateStore : Type 0 where
  pub now : Situation
  pub from : ℕ
  pub stretches : List Stretch

-- change n is made, and a stretch ends with it: the live addresses are copied, and take a slot each
abbrev pub store_after_transfer : LateStore → ℕ → LateStore
store_after_transfer s n = record {
  now = record { slots = s.now.slots; fill = length s.now.live; live = s.now.live };
  from = length s.now.live;
  stretches = s.stretches ++ record { to = n; from = s.from } ∷ [];
}

-- a change takes a free slot
pub record TakesFreeSlot (old : LateStore) (change : Change) (new : LateStore) : Type 0 where
  pub free : old.now.fill < old.now.slots
  pub new_is : new ≡ record old { now = after_move old.now (Append change) }

-- or there is none, and a stretch ends with it
pub record Carries (old : LateStore) (change : Change) (n : ℕ) (new : LateStore) : Type 0 where
  pub used : old.now.slots ≤ old.now.fill
  pub new_is : new ≡ record {
    now = after_move old.now (Carry change);
    from = length (live_after_one old.now.live change);
    stretches = old.stretches ++ record { to = n; from = old.from } ∷ [];
  }

-- change n is made in one of these ways
abbrev pub Makes : LateStore → Change → ℕ → LateStore → Type 0
Makes old change n new = TakesFreeSlot old change new ⊎ Carries old change n new

-- After n changes of the trace its stretches are tight, and as many slots are used as were where
-- the last of them ended, and one for each change since.
pub record HasMade (start : Situation) (trace : List Change) (n : ℕ) (store : LateStore)
    : Type 0 where
  pub slots : store.now.slots ≡ start.slots
  pub live : store.now.live ≡ live_after start.live (take n trace)
  pub keeps : KeepsWithin start.slots start.live (take n trace)
  pub stretches : EachStretch start trace IsTightStretch (first_place start) store.stretches
  pub from : store.from ≡ (last_place start trace (first_place start) store.stretches).used
  pub behind : (last_place start trace (first_place start) store.stretches).after ≤ n
  pub fill : store.now.fill
      ≡ store.from + (n - (last_place start trace (first_place start) store.stretches).after)
  pub held : length store.now.live ≤ store.now.fill
  pub fits : store.now.fill ≤ start.slots

-- why change n isn't made
abbrev pub IsChangeRefused : LateStore → Change → ℕ → PlanFault → Type 0
IsChangeRefused old change n (NotFitting number) =
    (number ≡ n) × (old.now.slots < length (live_after_one old.now.live change))
IsChangeRefused old change n Memory = Unit {0}
