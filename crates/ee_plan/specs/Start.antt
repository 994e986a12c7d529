-- What a store gives a trace to start from.
use Rattle.std.specs.Prelude.{◌≡◌, ◌≢◌, ℕ, List, [], ◌∷◌, ◌++◌, None}
use Rattle.std.specs.List.{All, Contains}
use Rattle.std.specs.List.Sorted.{IsStrictlySortedBy}
use Rattle.std.specs.Ordering.{nat_cmp}
use Rattle.ee_codec.specs.Words.{IsAddress}
use Rattle.ee_pages.specs.Meaning.{Map}
use Rattle.ee_core.specs.State.{State}
use Rattle.ee_check.specs.Schedule.{Situation}

-- These are the addresses that have a value in the map, ascending; each is proper.
pub record AreLive (map : Map) (live : List ℕ) : Type 0 where
  pub ascending : IsStrictlySortedBy nat_cmp live
  pub proper : All IsAddress live
  pub have_values : All (λ address. map address ≢ None) live
  pub all : (address : ℕ) → map address ≢ None → Contains live address

-- addresses, and behind them these, which come with values
abbrev pub with_addresses : List ℕ → List (ℕ × ℕ) → List ℕ
with_addresses live [] = live
with_addresses live (found ∷ more) = with_addresses (live ++ found.0 ∷ []) more

-- In a set of so many slots, as many are used as in the store's state, and the addresses that
-- have a value are live.
pub record IsStartOf (slots : ℕ) (state : State) (start : Situation) : Type 0 where
  pub slots_are : start.slots ≡ slots
  pub fill_is : start.fill ≡ state.fill
  pub are_live : AreLive state.map start.live
