-- What a live set says is the state of its device.
use Rattle.ee_core.proofs.Words.{rules, ◌≡◌, ℕ, List, refl, ap, fun_ext}
use Rattle.ee_core.proofs.Sets.{Device, KeepsLiveSet, IsLive, Change, Map, other, pending_of, set_of, Side, other_twice}
use Rattle.ee_core.proofs.Calls.{HasMoved, Stays, State, moved_state, state_in, state_of, state_with, with_pending}
use Rattle.ee_core.proofs.PendingPages.{as_many_not_blank}

pub state_is : (device : Device) (side : Side) (generation : ℕ) → IsLive device side generation
    → state_of device ≡ state_with device side generation
state_is device _ _ live = ap (state_in device) live.live

-- a state is what it says
abbrev pub state_from : Map → ℕ → ℕ → ℕ → State
state_from map fill generation pending =
    record { map = map; fill = fill; generation = generation; pending = pending }

pub same_states : (map new_map : Map)
    (fill new_fill generation new_generation pending new_pending : ℕ)
    → ((address : ℕ) → new_map address ≡ map address) → new_fill ≡ fill
    → new_generation ≡ generation → new_pending ≡ pending
    → state_from new_map new_fill new_generation new_pending
    ≡ state_from map fill generation pending
same_states _ _ _ _ _ _ _ _ maps fills generations pendings =
    rw ((fun_ext maps), fills, generations, pendings) refl

module _ (old new : Device) (side : Side) (generation : ℕ) (live : IsLive old side generation) where
  -- the live set is as before, and so many pages of the other wait
  pub state_kept : KeepsLiveSet old new side generation → (pending : ℕ)
      → pending_of (set_of (other side) new) ≡ pending
      → state_of new ≡ with_pending pending (state_of old)
  state_kept keeps _ e = search (rules, state_is, same_states)

  -- all is as before
  pub state_stays : Stays old new side generation → state_of new ≡ state_of old
  state_stays stays = search (rules, state_is, same_states, as_many_not_blank)

  -- the map was moved
  pub state_moved : (changes : List Change) → HasMoved old new side generation changes
      → state_of new ≡ moved_state (pending_of (set_of side old)) changes (state_of old)
  state_moved _ has = search (rules, state_is, same_states, other_twice)
