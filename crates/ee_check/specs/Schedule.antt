-- Every store that appends each change and transfers by copying the live set: what it can do to a
-- trace, and what that costs.
use Rattle.std.specs.Prelude.{◌≡◌, ℕ, ◌+◌, ◌<◌, ◌≤◌, List, [], ◌∷◌, length}
use Rattle.ee_check.specs.declared.change.Change.{Change}
use Rattle.ee_check.specs.declared.change.Change.TheVariants.{Write, Forget}
use Rattle.ee_check.specs.Live.{live_after_one}

-- all that matters of a store: a set's slots, how many the live set uses, and the live addresses
pub record Situation : Type 0 where
  pub slots : ℕ
  pub fill : ℕ
  pub live : List ℕ

-- each live address takes a slot, and no more slots are used than there are
pub record IsProper (s : Situation) : Type 0 where
  pub held : length s.live ≤ s.fill
  pub fits : s.fill ≤ s.slots

-- what a store can do: copy the live set, append a change, or carry a change along with such a copy
pub data Move : Type 0 where
  Copy : Move
  Append : Change → Move
  Carry : Change → Move

-- an append needs a free slot; a copied set must have room for a write that is carried along
abbrev pub IsAllowed : Situation → Move → Type 0
IsAllowed s Copy = Unit {0}
IsAllowed s (Append change) = s.fill < s.slots
IsAllowed s (Carry (Write address)) = length (live_after_one s.live (Write address)) ≤ s.slots
IsAllowed s (Carry (Forget address)) = Unit {0}

-- after a copy the live addresses alone take slots, one each
abbrev pub after_move : Situation → Move → Situation
after_move s Copy = record s { fill = length s.live }
after_move s (Append change) = record s { fill = s.fill + 1; live = live_after_one s.live change }
after_move s (Carry change) =
    record s { fill = length (live_after_one s.live change); live = live_after_one s.live change }

-- after all of these moves
abbrev pub after_moves : Situation → List Move → Situation
after_moves s [] = s
after_moves s (move ∷ moves) = after_moves (after_move s move) moves

-- each move is so in the situation in which it is made
abbrev pub EachMove : (Situation → Move → Type 0) → Situation → List Move → Type 0
EachMove is s [] = Unit {0}
EachMove is s (move ∷ moves) = is s move × EachMove is (after_move s move) moves

-- the changes that moves make, in order
abbrev pub changes_of : List Move → List Change
changes_of [] = []
changes_of (Copy ∷ moves) = changes_of moves
changes_of (Append change ∷ moves) = change ∷ changes_of moves
changes_of (Carry change ∷ moves) = change ∷ changes_of moves

-- how often they transfer
abbrev pub cost : List Move → ℕ
cost [] = 0
cost (Copy ∷ moves) = cost moves + 1
cost (Append change ∷ moves) = cost moves
cost (Carry change ∷ moves) = cost moves + 1

-- The moves take a store from the start through the trace, with any number of transfers anywhere.
pub record IsSchedule (start : Situation) (trace : List Change) (moves : List Move) : Type 0 where
  pub allowed : EachMove IsAllowed start moves
  pub changes : changes_of moves ≡ trace

-- the store that transfers exactly when each slot is used
abbrev pub IsLate : Situation → Move → Type 0
IsLate s Copy = ⊥
IsLate s (Append change) = s.fill < s.slots
IsLate s (Carry change) = s.fill ≡ s.slots

-- which changes are carried, counted from 1, where n come before these moves
abbrev pub carried_at : ℕ → List Move → List ℕ
carried_at n [] = []
carried_at n (Copy ∷ moves) = carried_at n moves
carried_at n (Append change ∷ moves) = carried_at (n + 1) moves
carried_at n (Carry change ∷ moves) = (n + 1) ∷ carried_at (n + 1) moves
