-- The addresses that have a value, by rising number, as a reader of the map meets them.
use Rattle.std.specs.Prelude.{◌≡◌, ◌<◌, ◌≤◌, ℕ, IfSome, Option, Some, None, List, [], ◌∷◌}
use Rattle.ee_pages.specs.Meaning.{Map}

-- the next address above this one that has a value, with the value, or that there is none
abbrev pub IsNextLive : Map → ℕ → Option (ℕ × ℕ) → Type 0
IsNextLive map above None = (address : ℕ) → above < address → map address ≡ None
IsNextLive map above (Some found) =
    (above < found.0) × (map found.0 ≡ Some found.1)
    × ((address : ℕ) → above < address → address < found.0 → map address ≡ None)

-- these addresses, with their values, come next above this one, one after another
abbrev pub AreNextLive : Map → ℕ → List (ℕ × ℕ) → Type 0
AreNextLive map above [] = Unit {0}
AreNextLive map above (found ∷ more) =
    IsNextLive map above (Some found) × AreNextLive map found.0 more

-- the last of these addresses, or where there is none this one
abbrev pub last_of : ℕ → List (ℕ × ℕ) → ℕ
last_of above [] = above
last_of above (found ∷ more) = last_of found.0 more

-- above this address none has a value up to another one, or at all
abbrev pub IsNoneLive : Map → ℕ → Option ℕ → Type 0
IsNoneLive map above None = (address : ℕ) → above < address → map address ≡ None
IsNoneLive map above (Some through) =
    (above ≤ through) × ((address : ℕ) → above < address → address ≤ through → map address ≡ None)

-- the addresses above this one that have a value, with their values, up to a further address or all
pub record AreLiveThrough (map : Map) (above : ℕ) (found : List (ℕ × ℕ)) (through : Option ℕ)
    : Type 0 where
  pub next : AreNextLive map above found
  pub rest : IsNoneLive map (last_of above found) through
  pub further : IfSome through (λ last. above < last)

-- where a reader of the map begins: above this address, or above none
abbrev pub above_of : Option ℕ → ℕ
above_of None = 0
above_of (Some address) = address
