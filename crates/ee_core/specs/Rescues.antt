-- What a rescue leaves.
use Rattle.std.specs.Prelude.{◌≡◌, ◌⊎◌, ◌<◌, ℕ, ◌+◌, ◌-◌, ◌*◌, true, Some, None, List, [], ◌∷◌}
use Rattle.ee_codec.specs.Words.{IsGeneration}
use Rattle.ee_flash.specs.Device.{Device}
use Rattle.ee_flash.specs.Power.{GoesOn, IsCut}
use Rattle.ee_flash.specs.declared.word.Word.{Word}
use Rattle.ee_pages.specs.Laws.{KeepsSide}
use Rattle.ee_pages.specs.Legal.{IsLegal, IsLive}
use Rattle.ee_pages.specs.Meaning.{live_in}
use Rattle.ee_pages.specs.Page.{is_written}
use Rattle.ee_pages.specs.Rescue.{bad_words, named_generation, rescued_map, rescued_side}
use Rattle.ee_pages.specs.RescueLaws.{IsHeld, IsNewest, WentBad, IsToldApart, PutsInSet, meaning_without}
use Rattle.ee_pages.specs.Sets.{first_page, live_of, other, pending_of, set_of, slots_of}
use Rattle.ee_pages.specs.declared.side.Side.{Side}
use Rattle.ee_core.specs.CallSteps.{map_in}
use Rattle.ee_core.specs.Changes.{greatest_generation}
use Rattle.ee_core.specs.Cuts.{ErasesPartly, MovesPartly}
use Rattle.ee_core.specs.Finished.{IsStore}
use Rattle.ee_core.specs.Openings.{IsCutOpening, Opens}
use Rattle.ee_core.specs.Picture.{IsDrawn, elements_of, filled_set, is_used, picture_of, retired_pages}
use Rattle.ee_core.specs.Points.{with_power_on}
use Rattle.ee_core.specs.StepLists.{steps_to_move}
use Rattle.ee_flash.specs.Taking.{Completes, IsCutAmong}
use Rattle.ee_core.specs.State.{Wears, moved_state, not_blank_in, state_of, state_with}
use Rattle.ee_core.specs.declared.rescuing.RescueFault.{RescueFault}
use Rattle.ee_core.specs.declared.rescuing.RescueFault.TheVariants as faults
use Rattle.ee_core.specs.declared.rescuing.Rescued.{Rescued}

-- The set of this side is rescued; it names this generation, and another one is left above it.
pub record Rescues (device : Device) (side : Side) (generation : ℕ) : Type 0 where
  pub side_is : rescued_side device ≡ Some side
  pub generation_is : named_generation (set_of side device) ≡ generation
  pub not_last : IsGeneration (generation + 1)

-- Its map was moved to the other set, in the generation above: a store, word for word as a transfer
-- leaves one. The other set's pages that were not blank were erased, each once, and no other.
pub record IsRescued (old : Device) (rescued : Rescued) (new : Device) : Type 0 where
  pub side : Side
  pub generation : ℕ
  pub rescues : Rescues old side generation
  pub store : IsStore new
  pub goes_on : GoesOn old new
  pub steps : Completes (steps_to_move old side generation (elements_of (map_in side old))) old new
  pub state_is : state_of new
      ≡ moved_state (pending_of (set_of side old)) [] (state_with old side generation)
  pub map_is : (address : ℕ) → (state_of new).map address ≡ rescued_map old address
  pub live_is : live_of new ≡ Some (other side, generation + 1)
  pub new_pages : IsDrawn (other side) new
      (filled_set old.size (generation + 1) (elements_of (map_in side old)))
  pub old_pages : IsDrawn side new (retired_pages (is_used side old) (picture_of side old))
  pub wear : Wears (not_blank_in (other side) old) old new
  pub bad_is : rescued.bad_words ≡ bad_words old
  pub values_are : rescued.live ≡ live_in (rescued_map old)

-- The map is moved: the image is legal, and has it.
pub record HasRescued (old new : Device) : Type 0 where
  pub legal : IsLegal new
  pub map_is : (address : ℕ) → (state_of new).map address ≡ rescued_map old address

-- Power was cut in a rescue: in erasing the pages of the other set, or behind that, in each of its
-- steps. The set that is rescued is as before, and the other one commits as it did or not at all;
-- or the map is moved.
pub record IsCutRescue (old new : Device) : Type 0 where
  pub side : Side
  pub generation : ℕ
  pub rescues : Rescues old side generation
  pub cut : IsCut old new
  pub steps : IsCutAmong (steps_to_move old side generation (elements_of (map_in side old))) old new
  pub words : ErasesPartly (first_page old.size (other side)) (set_of (other side) old) old new
      ⊎ MovesPartly old new side generation (elements_of (map_in side old))
  pub left : KeepsSide old new side ⊎ HasRescued old new

-- why a device is not rescued
abbrev pub RescueFails : Device → RescueFault → Device → Type 0
RescueFails old faults.NothingBegun new = (rescued_side old ≡ None) × (new ≡ old)
RescueFails old faults.Spent new =
    ((side : Side) × (rescued_side old ≡ Some side)
    × (named_generation (set_of side old) ≡ greatest_generation))
    × (new ≡ old)
RescueFails old faults.Cut new = IsCutRescue old new

-- ---- cuts, one after another

-- an opening or a rescue that is cut
abbrev pub IsCutTry : Device → Device → Type 0
IsCutTry old new = IsCutRescue old new ⊎ IsCutOpening old new

-- such tries, one after another, with power turned on behind each
abbrev pub AreCutTries : Device → List Device → Type 0
AreCutTries device [] = Unit {0}
AreCutTries device (next ∷ more) = IsCutTry device next × AreCutTries (with_power_on next) more

-- the device behind them
abbrev pub last_on : Device → List Device → Device
last_on device [] = device
last_on device (next ∷ more) = last_on (with_power_on next) more

-- the store that a rescue or an opening makes, if it is not cut
abbrev pub IsMadeStore : Device → Device → Type 0
IsMadeStore old new = ((rescued : Rescued) × IsRescued old rescued new) ⊎ Opens old new

-- ---- laws: each is proved by the function of its name

-- where a set is held, its map is found behind any cuts
abbrev pub HeldThroughCuts : Type 0
HeldThroughCuts =
    (old : Device) (side : Side) (generation : ℕ) (cuts : List Device) (new : Device)
    → IsHeld old side generation → AreCutTries old cuts → IsMadeStore (last_on old cuts) new
    → (address : ℕ) → (state_of new).map address ≡ rescued_map old address

-- The word that went bad was the newest element or forgetting of the address, which has what
-- the other slots say.
pub record CostsNewest (old new : Device) (side : Side) (page at address : ℕ) : Type 0 where
  pub in_slot : 3 < at
  pub newest : IsNewest (slots_of (set_of side old)) (page * (old.size.words - 4) + (at - 4))
      address
  pub map_is : (state_of new).map address
      ≡ meaning_without (slots_of (set_of side old)) (page * (old.size.words - 4) + (at - 4))
      address

-- One word of a live set went bad. Openings and rescues are cut, as often as it likes, and
-- one is not: each address has what it had, but for the one of which that word was the
-- newest. Of the two words that commit the set it takes that the set is told apart without
-- them, and that none was cut.
abbrev pub OneWordCostsNoMore : Type 0
OneWordCostsNoMore =
    (old changed : Device) (side : Side) (generation page at : ℕ) (word : Word) (cuts : List Device)
    (new : Device)
    → IsLive old side generation → PutsInSet old changed side page at word → WentBad at word
    → (page ≡ 0 → at < 2 → (is_written word ≡ true) × IsToldApart old side × (cuts ≡ []))
    → AreCutTries changed cuts → IsMadeStore (last_on changed cuts) new
    → (address : ℕ)
    → ((state_of new).map address ≡ (state_of old).map address)
    ⊎ CostsNewest old new side page at address

-- one of the set that waits costs nothing
abbrev pub WaitingWordCostsNoMore : Type 0
WaitingWordCostsNoMore =
    (old changed : Device) (side : Side) (generation page at : ℕ) (word : Word) (cuts : List Device)
    (new : Device)
    → IsLive old side generation → PutsInSet old changed (other side) page at word → WentBad at word
    → (page ≡ 0 → at < 2 → IsToldApart old side × (cuts ≡ []))
    → AreCutTries changed cuts → IsMadeStore (last_on changed cuts) new
    → (address : ℕ) → (state_of new).map address ≡ (state_of old).map address
