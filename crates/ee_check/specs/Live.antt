-- The live addresses, ascending, and what a change makes of them.
use Rattle.std.specs.Prelude.{ℕ, ◌≤◌, List, [], ◌∷◌, length, take}
use Rattle.std.specs.Ordering.{nat_cmp}
use Rattle.std.specs.BTreeMap.{is_at}
use Rattle.std.specs.BTreeSet.{insert_key}
use Rattle.std.specs.Set.{remove_key}
use Rattle.ee_check.specs.declared.change.Change.{Change}
use Rattle.ee_check.specs.declared.change.Change.TheVariants.{Write, Forget}

-- a write makes its address live, a forgetting makes it not live; one that was so already stays so
abbrev pub live_after_one : List ℕ → Change → List ℕ
live_after_one live (Write address) = insert_key nat_cmp live address
live_after_one live (Forget address) = remove_key (is_at (nat_cmp address)) live

-- the addresses live after all of these changes
abbrev pub live_after : List ℕ → List Change → List ℕ
live_after live [] = live
live_after live (change ∷ changes) = live_after (live_after_one live change) changes

-- how many are live after the first n of them
abbrev pub live_count : List ℕ → List Change → ℕ → ℕ
live_count live changes n = length (live_after live (take n changes))

-- no write of the trace makes more addresses live than there are slots
abbrev pub KeepsWithin : ℕ → List ℕ → List Change → Type 0
KeepsWithin slots live [] = Unit {0}
KeepsWithin slots live (Write address ∷ changes) =
    (length (live_after_one live (Write address)) ≤ slots)
    × KeepsWithin slots (live_after_one live (Write address)) changes
KeepsWithin slots live (Forget address ∷ changes) =
    KeepsWithin slots (live_after_one live (Forget address)) changes
