-- What a rescue leaves, from what its transfer leaves.
use Rattle.ee_core.proofs.Words.{rules, ◌≡◌, ℕ, Some, []}
use Rattle.ee_core.proofs.Sets.{IsGeneration, Device, IsLayout, live_in, other, pending_of, set_of, Layout, Side, map_rescued, other_twice}
use Rattle.ee_core.proofs.Calls.{HasMoved, moved_state, state_of, state_with}
use Rattle.ee_pages.specs.Rescue.{named_generation, rescued_map, rescued_side}
use Rattle.ee_core.specs.Rescues.{Rescues}
use Rattle.ee_core.proofs.States.{same_states, state_is}

-- it is rescued, where another generation is left above that one
pub rescues : (old : Device) (side : Side) (generation : ℕ) → rescued_side old ≡ Some side
    → generation ≡ named_generation (set_of side old) → IsGeneration generation
    → (generation ≡ 4294967294 → ⊥) → Rescues old side generation
rescues _ _ _ is named proper last = search rules

module _ (old new : Device) (side : Side) (generation : ℕ)
    (has : HasMoved old new side generation []) where
  pub rescued_state : state_of new
      ≡ moved_state (pending_of (set_of side old)) [] (state_with old side generation)
  rescued_state = search (rules, state_is, same_states, other_twice)

  module _ (is : rescued_side old ≡ Some side) where
    pub map_has_moved : (address : ℕ) → (state_of new).map address ≡ rescued_map old address
    map_has_moved address = search (rules, state_is, map_rescued)

    pub values_moved : (layout : Layout) → IsLayout new layout → layout.side ≡ other side
        → layout.fill ≡ live_in (rescued_map old)
    values_moved _ found side_is = search (rules, map_rescued)
