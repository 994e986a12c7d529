-- A map of which every address is forgotten: nothing has a value in it, and no word is copied of
-- it.
use Rattle.ee_core.proofs.Words.{◌≡◌, inl, inr, ℕ, ◌+◌, ◌<◌, ◌≤◌, Bool, true, false, cond, Option, None, List, [], refl, ap, ◌∙◌, arith, subst, length, suc, zero, ◌==◌, slice_index_or, Contains, cases_eq, rules}
use Rattle.ee_core.proofs.Sets.{Word, Change, Forget, Map, changed_by, live_in, map_after, meaning}
use Rattle.ee_core.proofs.Calls.{HasChange, map_without, moved_words, put_words, each_forgotten}
use Rattle.ee_core.specs.Picture.{elements_to}
use Rattle.ee_core.specs.Puts.{forgets_from}
use Rattle.ee_core.proofs.CopiedMaps.{forget-at, live_in-nothing}
use Rattle.ee_core.proofs.Outside.{meaning-above, meaning-zero}

-- ---- the map

none_or_none : (here : Bool) (value : Option ℕ) → value ≡ None → cond here None value ≡ None
none_or_none true _ _ = refl
none_or_none false _ none = none

pub still_none : (first count : ℕ) (map : Map) (address : ℕ) → map address ≡ None
    → changed_by (forgets_from first count) map address ≡ None
unfolding forgets_from
still_none _ zero _ _ none = none
still_none first (suc more) map address none =
    still_none (first + 1) more (map_after (Forget first) map) address
    (none_or_none (first == address) (map address) none)

forgotten_in : (first count : ℕ) (map : Map) (address : ℕ) → first ≤ address
    → address < first + count → changed_by (forgets_from first count) map address ≡ None
unfolding forgets_from
forgotten_in _ zero _ _ from below = absurd (omega arith)
forgotten_in first (suc more) map address from below = elim (cases_eq _ _) [
  | inl here ↦ still_none (first + 1) more (map_after (Forget first) map) address
      (forget-at map _ _ here)
  | inr further ↦ forgotten_in (first + 1) more (map_after (Forget first) map) address (omega arith)
      (omega arith)
]

pub all_forgotten : (slots : List Word) (address : ℕ)
    → changed_by each_forgotten (meaning slots) address ≡ None
all_forgotten slots address = elim (cases_eq _ 0) [
  | inl zeroth ↦ still_none 1 65534 (meaning slots) address
      (ap (meaning slots) zeroth ∙ meaning-zero slots)
  | inr some ↦ search (rules, forgotten_in, still_none, meaning-above)
]

-- no address has a value in it
pub none_live : (slots : List Word) → 0 ≡ live_in (changed_by each_forgotten (meaning slots))
none_live slots = live_in-nothing _ (all_forgotten slots)

-- each of the changes is there in a map in which nothing has a value
forgotten_at : (first count : ℕ) (change : Change) (map : Map) (place : ℕ)
    → place < length (forgets_from first count)
    → slice_index_or (forgets_from first count) place change ≡ change
    → ((address : ℕ) → map address ≡ None) → HasChange change map
unfolding forgets_from
forgotten_at _ zero _ map place within is none = absurd (omega arith)
forgotten_at first (suc more) change map zero within is none =
    subst (λ one. HasChange one map) is (none first)
forgotten_at first (suc more) change map (suc place) within is none =
    forgotten_at (first + 1) more change map place (omega arith) is none

pub forgotten_has : (first count : ℕ) (change : Change) (map : Map)
    → Contains (forgets_from first count) change → ((address : ℕ) → map address ≡ None)
    → HasChange change map
forgotten_has first count change map kept none = search forgotten_at

-- ---- the words

none_put : (first count : ℕ) → put_words (forgets_from first count) ≡ []
unfolding forgets_from
none_put _ zero = refl
none_put first (suc more) = none_put (first + 1) more

without_is : (first count : ℕ) (map : Map)
    → map_without (forgets_from first count) map ≡ changed_by (forgets_from first count) map
unfolding forgets_from
without_is _ zero _ = refl
without_is first (suc more) map = without_is (first + 1) more (map_after (Forget first) map)

no_elements : (map : Map) (count : ℕ) → ((address : ℕ) → map address ≡ None)
    → elements_to map count ≡ []
unfolding elements_to
no_elements _ zero _ = refl
no_elements map (suc count) none = rw (no_elements map count none, none (suc count)) refl

pub none_moved : (slots : List Word) → moved_words each_forgotten (meaning slots) ≡ []
none_moved slots = search (without_is, no_elements, all_forgotten, none_put)
