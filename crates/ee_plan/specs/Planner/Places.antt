-- Where the late store transfers in a trace that is made many times over, and what its
-- addresses are counted by.
use Rattle.std.specs.Prelude.{◌≡◌, ℕ, ◌+◌, ◌-◌, ◌%◌, ◌<◌, ◌≤◌, List, [], ◌∷◌, length, slice_index, nat_lt, if◌then◌else◌, zero, suc}
use Rattle.ee_check.specs.declared.change.Change.{Change}
use Rattle.ee_check.specs.Live.{live_after_one, live_after}
use Rattle.ee_plan.specs.declared.planner.counts.Counts.{Counts}
use Rattle.ee_plan.specs.declared.planner.walking.Walk.{Walk}

-- how many addresses are live before each change
abbrev pub counts_before : List ℕ → List Change → List ℕ
counts_before live [] = []
counts_before live (change ∷ changes) =
    length live ∷ counts_before (live_after_one live change) changes

-- behind each count come so many more that are the same
pub record AreFlats (counts flats : List ℕ) : Type 0 where
  pub as_many : length flats ≡ length counts
  pub same : (i j : ℕ) → i < length counts → j ≤ slice_index flats i
      → (i + j < length counts) × (slice_index counts (i + j) ≡ slice_index counts i)

-- the counts of the first round, and those of each later one: whatever a trace finds, it leaves the
-- same addresses the second time as the first
pub record AreRoundCounts {A : Type 0} (trace : List Change) (counts : Counts A) : Type 0 where
  pub first : counts.first.items ≡ counts_before [] trace
  pub later : counts.later.items ≡ counts_before (live_after [] trace) trace
  pub flats : AreFlats counts.later.items counts.flats.items

-- rounds of some changes, as many in the first as in a later one
pub record AreRounds {A : Type 0} (counts : Counts A) : Type 0 where
  pub some : 0 < length counts.later.items
  pub as_many : length counts.first.items ≡ length counts.later.items
  pub flats : AreFlats counts.later.items counts.flats.items

-- how many addresses are live after n changes in all
abbrev pub count_after : {A : Type 0} → Counts A → ℕ → ℕ
count_after counts n =
    (if nat_lt n (length counts.later.items) then slice_index counts.first.items n
    else slice_index counts.later.items (n % length counts.later.items))

-- just after change n was a transfer, so each live address uses a slot: the next transfer comes
-- with the first change that finds none free
abbrev pub next_place : (ℕ → ℕ) → ℕ → ℕ → ℕ
next_place count slots n = n + (slots - count n) + 1

-- with which change transfer k comes, and 0 for none yet
unfoldable pub place_in_round : (ℕ → ℕ) → ℕ → ℕ → ℕ
place_in_round count slots zero = 0
place_in_round count slots (suc k) = next_place count slots (place_in_round count slots k)

-- it stands where it says, within the trace
pub record IsOnWay (count : ℕ → ℕ) (slots total : ℕ) (walk : Walk) : Type 0 where
  pub place : walk.place ≡ place_in_round count slots walk.made
  pub within : walk.place ≤ total
  pub rising : walk.made ≤ walk.place

-- change n is the first, from 0 on, after which more addresses are live than there are slots
pub record IsFirstOver (count : ℕ → ℕ) (slots n : ℕ) : Type 0 where
  pub over : slots < count n
  pub before : (m : ℕ) → m < n → count m ≤ slots
