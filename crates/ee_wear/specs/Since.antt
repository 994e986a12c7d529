-- What came between two ledgers.
use Rattle.std.specs.Prelude.{◌≡◌, ◌≢◌, ◌≤◌, ◌<◌, ℕ, ◌-◌, List, length, map, slice_index}
use Rattle.std.specs.List.{zip}
use Rattle.ee_wear.specs.declared.since.SinceFault.{SinceFault}
use Rattle.ee_wear.specs.declared.since.SinceFault.TheVariants.{OtherShape, Backwards, Memory}

-- as many pages as before, and none has less wear now
pub record NoneFell (before now : List ℕ) : Type 0 where
  pub as_many : length now ≡ length before
  pub each : (k : ℕ) → k < length now → slice_index before k ≤ slice_index now k

-- the wear that came since, page by page
abbrev pub differences : List ℕ → List ℕ → List ℕ
differences before now = map (λ counts. counts.1 - counts.0) (zip before now)

-- this page has less wear now than before, and no page below it has
pub record IsFirstFallen (before now : List ℕ) (page : ℕ) : Type 0 where
  pub within : page < length now
  pub less : slice_index now page < slice_index before page
  pub none_below : (k : ℕ) → k < page → slice_index before k ≤ slice_index now k

-- why there is no difference; for want of memory only where there is one
abbrev pub IsSinceFault : List ℕ → List ℕ → SinceFault → Type 0
IsSinceFault before now OtherShape = length now ≢ length before
IsSinceFault before now (Backwards page) =
    (length now ≡ length before) × IsFirstFallen before now page
IsSinceFault before now Memory = NoneFell before now
