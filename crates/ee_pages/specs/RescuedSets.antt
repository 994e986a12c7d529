-- The set of a device that is rescued, and by what its words are judged.
use Rattle.std.specs.Prelude.{◌≡◌, Some}
use Rattle.ee_codec.specs.Words.{IsGeneration}
use Rattle.ee_flash.specs.Device.{Device}
use Rattle.ee_pages.specs.Rescue.{named_generation, rescued_side}
use Rattle.ee_pages.specs.Sets.{front, set_of, slots_of}
use Rattle.ee_pages.specs.declared.judging.RescuedSet.{RescuedSet}

-- This set is rescued. It names this generation, and so many of its slots stand before
-- the first erased one.
pub record IsRescuedSet (device : Device) (set : RescuedSet) : Type 0 where
  pub side : rescued_side device ≡ Some set.side
  pub generation : set.generation ≡ named_generation (set_of set.side device)
  pub proper : IsGeneration set.generation
  pub written : set.written ≡ front (slots_of (set_of set.side device))
