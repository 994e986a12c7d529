-- What the erasing of one page beside the live set leaves.
use Rattle.std.specs.Prelude.{◌≡◌, ◌<◌, ◌⊎◌, ℕ, ◌+◌, Bool, true, false, Result, Ok, Err}
use Rattle.ee_flash.specs.Device.{Device, IsOn}
use Rattle.ee_pages.specs.Sets.{other, pending_of, set_of}
use Rattle.ee_pages.specs.declared.side.Side.{Side}
use Rattle.ee_core.specs.Calls.{ErasesLowest, KeepsAllButLowest}

-- how many pages of the set beside this one wait to be erased
abbrev pub waiting_beside : Side → Device → ℕ
waiting_beside side device = pending_of (set_of (other side) device)

-- one page less waits beside the set: the lowest was erased
pub record PageCleaned (old new : Device) (side : Side) : Type 0 where
  pub one_less : waiting_beside side new + 1 ≡ waiting_beside side old
  pub lowest : ErasesLowest old new

-- power was cut in erasing it: as many pages wait, or one less
pub record PageCleanedPartly (old new : Device) (side : Side) : Type 0 where
  pub some : 0 < waiting_beside side old
  pub left : (waiting_beside side new ≡ waiting_beside side old)
      ⊎ (waiting_beside side new + 1 ≡ waiting_beside side old)
  pub lowest : IsOn old → KeepsAllButLowest old new

-- the lowest page that waits beside the live set is erased, if there is one
abbrev pub CleansPage : {E : Type 0} → Result Bool E → Device → Device → Side → Type 0
CleansPage (Ok true) old new side = PageCleaned old new side
CleansPage (Ok false) old new side = (waiting_beside side old ≡ 0) × (new ≡ old)
CleansPage (Err cut) old new side = PageCleanedPartly old new side
