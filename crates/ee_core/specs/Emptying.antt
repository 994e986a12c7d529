-- What a clear answers and leaves: a transfer that copies nothing.
use Rattle.std.specs.Prelude.{◌≡◌, ◌≢◌, ◌<◌, ◌≤◌, ◌⊎◌, ◌+◌, ℕ, Result, Ok, Err, Bool, true, false, None, []}
use Rattle.ee_flash.specs.Device.{Device, IsOff, IsOn}
use Rattle.ee_flash.specs.Power.{GoesOn, IsCut}
use Rattle.ee_pages.specs.Sets.{first_page, live_of, other, set_of}
use Rattle.ee_pages.specs.declared.side.Side.{Side}
use Rattle.ee_core.specs.Changes.{greatest_generation}
use Rattle.ee_core.specs.Cuts.{ErasesPartly, MovesPartly}
use Rattle.ee_core.specs.Picture.{IsDrawn, OfLive, filled_set, is_used, picture_of, retired_pages}
use Rattle.ee_core.specs.StepLists.{steps_of_clear}
use Rattle.ee_flash.specs.Taking.{Completes, IsCutAmong}
use Rattle.ee_core.specs.State.{State, Wears, next_live, pending_pages, state_of, used_pages_of, with_pending}
use Rattle.ee_core.specs.declared.variables.ClearFault.{ClearFault}
use Rattle.ee_core.specs.declared.variables.ClearFault.TheVariants as clear

-- nothing has a value, in the next generation, and so many pages of the set that was
-- live wait to be erased
abbrev pub cleared_state : ℕ → State → State
cleared_state pages state =
    record { map = λ address. None; fill = 0; generation = state.generation + 1; pending = pages }

-- the device is on, a slot is used, and a generation is left for a transfer
pub record MayClear (device : Device) : Type 0 where
  pub on : IsOn device
  pub used : 0 < (state_of device).fill
  pub not_last : (state_of device).generation ≢ greatest_generation

-- what is drawn after a clear: the other set is one with no word, and pages of the set that
-- was live may be erased
pub record ShowsCleared (old new : Device) (side : Side) (generation : ℕ) : Type 0 where
  pub new_pages : IsDrawn (other side) new (filled_set old.size (generation + 1) [])
  pub old_pages : IsDrawn side new (retired_pages (is_used side old) (picture_of side old))

-- The other set is live, with nothing in it; its pages that waited to be erased were erased, each
-- once, and no other.
pub record Empties (old new : Device) : Type 0 where
  pub may : MayClear old
  pub goes_on : GoesOn old new
  pub steps : Completes (steps_of_clear old) old new
  pub few_left : used_pages_of old ≤ old.size.pages
  pub state_is : state_of new ≡ cleared_state (used_pages_of old) (state_of old)
  pub live_is : live_of new ≡ next_live (live_of old)
  pub image : OfLive old (λ side generation. ShowsCleared old new side generation)
  pub wear : Wears (pending_pages old) old new

-- Power was cut in a clear: the state is as it was but for the pages that wait to be erased, or
-- nothing has a value. It was cut in erasing the pages of the other set, or behind that.
pub record IsCutClear (old new : Device) : Type 0 where
  pub may : MayClear old
  pub cut : IsCut old new
  pub steps : IsCutAmong (steps_of_clear old) old new
  pub state_is
      :
      ((pending : ℕ) × (pending ≤ old.size.pages)
      × (state_of new ≡ with_pending pending (state_of old)))
      ⊎ (state_of new ≡ cleared_state (used_pages_of old) (state_of old))
  pub words : OfLive old (λ side generation.
      ErasesPartly (first_page old.size (other side)) (set_of (other side) old) old new
      ⊎ MovesPartly old new side generation [])

-- A clear empties the store, or finds no slot used, and nothing changes; or it was refused, since
-- the device was off or no generation is left, and nothing changed; or power was cut.
abbrev pub Clears : Device → Result Bool ClearFault → Device → Type 0
Clears old (Ok true) new = Empties old new
Clears old (Ok false) new = IsOn old × ((state_of old).fill ≡ 0) × (new ≡ old)
Clears old (Err clear.Off) new = IsOff old × (new ≡ old)
Clears old (Err clear.Spent) new =
    IsOn old × (0 < (state_of old).fill) × ((state_of old).generation ≡ greatest_generation)
    × (new ≡ old)
Clears old (Err clear.Cut) new = IsCutClear old new
