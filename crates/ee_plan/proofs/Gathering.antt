-- The live addresses of a store, one after another.
use Rattle.std.proofs.Common.{◌≡◌, ◌≢◌, IfOk, Result, Ok, Err, inl, inr, ℕ, ◌-◌, ◌*◌, ◌<◌, ◌≤◌, Option, Some, None, List, [], ◌∷◌, ◌++◌, length, length-append, sym, subst, ◌∙◌, arith, rules}
use Rattle.std.proofs.Math.Nat.{mul-le-mul}
use Rattle.std.proofs.lemmas.Bool.{cases_lt, cases_eq}
use Rattle.std.proofs.lemmas.Cmp.{nat_cmp_total}
use Rattle.std.proofs.lemmas.List.Elements.{All-head, All-push, All-tail, All-weaker, Contains-append_left, Contains-push, recursion_from_All}
use Rattle.std.proofs.lemmas.Map.Lookups.{btree_set_from_contains, exact_unsigned}
use Rattle.std.specs.declared.cmp.Ordering.TheVariants.{Less}
use Rattle.std.specs.List.{All, AllByRecursion, Contains}
use Rattle.std.specs.List.Sorted.{IsStrictlySortedBy}
use Rattle.std.specs.Ordering.{nat_cmp}
use Rattle.std.specs.BTreeSet.{BTreeSet, IsFromIterResult}
use Rattle.ee_codec.specs.Words.{IsAddress}
use Rattle.ee_pages.specs.Meaning.{Map, live_in, live_to}
use Rattle.ee_pages.specs.LiveOrder.{AreLiveThrough, AreNextLive, IsNextLive, IsNoneLive, last_of}
use Rattle.ee_pages.proofs.Public.{gap_to, last_below, live_to-end, live_to-next, live_to-zero, live_within_fill}
use Rattle.ee_pages.specs.Sets.{live_of}
use Rattle.ee_pages.specs.declared.side.Side.{Side}
use Rattle.ee_flash.specs.Device.{Device}
use Rattle.ee_flash.specs.Size.{slot_count}
use Rattle.ee_core.specs.Finished.{IsStore}
use Rattle.ee_core.specs.State.{state_in, state_of}
use Rattle.ee_core.proofs.Public.{meaning-zero, few_within, few_slots, state_is}
use Rattle.ee_check.specs.Start.{IsStart}
use Rattle.ee_plan.specs.Start.{AreLive, with_addresses}
use Rattle.ee_check.proofs.Public.{smaller}

-- these are the addresses up to this one that have a value, ascending
pub record AreLiveTo (map : Map) (above : ℕ) (live : List ℕ) : Type 0 where
  pub below : All (λ address. address ≤ above) live
  pub ascending : IsStrictlySortedBy nat_cmp live
  pub proper : All IsAddress live
  pub have_values : All (λ address. map address ≢ None) live
  pub all : (address : ℕ) → address ≤ above → map address ≢ None → Contains live address
  pub count : length live ≡ live_to map above

-- one address more, above all others, stays above them
above_each : (x k : ℕ) (xs : List ℕ) → AllByRecursion (λ y. nat_cmp x y ≡ Less) xs → x < k
    → AllByRecursion (λ y. nat_cmp x y ≡ Less) (xs ++ k ∷ [])
above_each x k [] below h = (smaller x k h, tt)
above_each x k (y ∷ xs) below h = (below.0, above_each x k xs below.1 h)

sorted_push : (xs : List ℕ) (k : ℕ) → IsStrictlySortedBy nat_cmp xs → AllByRecursion (λ x. x < k) xs
    → IsStrictlySortedBy nat_cmp (xs ++ k ∷ [])
unfolding IsStrictlySortedBy
sorted_push [] k sorted below = (tt, tt)
sorted_push (x ∷ xs) k sorted below =
    (above_each x k xs sorted.0 below.0, sorted_push xs k sorted.1 below.1)

pub none_sorted : IsStrictlySortedBy nat_cmp []
unfolding IsStrictlySortedBy
none_sorted = tt

some_value : (found : Option ℕ) (value : ℕ) → found ≡ Some value → found ≢ None
some_value found value e = λ none. absurd (cc (sym e ∙ none))

pub none_yet : (map : Map) → map 0 ≡ None → AreLiveTo map 0 []
none_yet map none = search (rules, live_to-zero, none_sorted)

-- the list with the address behind it
pushed : (map : Map) (above address value : ℕ) (live : List ℕ) → AreLiveTo map above live
    → IsAddress address → IsNextLive map above (Some (address, value))
    → AreLiveTo map address (live ++ address ∷ [])
pushed map above address value live so_far proper next =
    let lower : All (λ x. x < address) live =
    All-weaker (λ x. x ≤ above) (λ x. x < address) (λ x low. omega (arith, next.0)) live
    so_far.below in
    record {
      below =
          All-push (λ x. x ≤ address) live address
          (All-weaker (λ x. x < address) (λ x. x ≤ address) (λ x low. omega arith) live lower)
          (omega arith);
      ascending =
          sorted_push live address so_far.ascending
          (recursion_from_All (λ x. x < address) live lower);
      proper = All-push IsAddress live address so_far.proper proper;
      have_values =
          All-push (λ x. map x ≢ None) live address so_far.have_values
          (some_value (map address) value next.1);
      all = λ k low has. elim (cases_eq k address) [
        | inl same ↦ subst (Contains (live ++ address ∷ [])) (sym same) (Contains-push live address)
        | inr other ↦ elim (cases_lt above k) [
          | inl more ↦ absurd (has (next.2 k more (omega arith)))
          | inr less ↦ Contains-append_left live (address ∷ []) k (so_far.all k less has)
        ]
      ];
      count = let e = live_to-next map above address value next in
          let f = so_far.count in omega (arith, length-append live (address ∷ []));
    }

-- the addresses of a batch, one after another
batch_more : (map : Map) (found : List (ℕ × ℕ)) (above : ℕ) (live : List ℕ)
    → AreLiveTo map above live → All (λ (one : ℕ × ℕ). IsAddress one.0) found
    → AreNextLive map above found → AreLiveTo map (last_of above found) (with_addresses live found)
batch_more map [] above live so_far proper next = so_far
batch_more map (first ∷ more) above live so_far proper next =
    let after =
    pushed map above first.0 first.1 live so_far
    (All-head (λ (one : ℕ × ℕ). IsAddress one.0) first more proper) next.0 in
    batch_more map more first.0 (live ++ first.0 ∷ []) after
    (All-tail (λ (one : ℕ × ℕ). IsAddress one.0) first more proper) next.1

-- no more of them up to a further address
none_more : (map : Map) (above to : ℕ) (live : List ℕ) → AreLiveTo map above live
    → IsNoneLive map above (Some to) → AreLiveTo map to live
none_more map above to live so_far none = search (rules, cases_lt, gap_to)

-- a whole batch
pub through_batch : (map : Map) (found : List (ℕ × ℕ)) (above to : ℕ) (live : List ℕ)
    → AreLiveTo map above live → All (λ (one : ℕ × ℕ). IsAddress one.0) found
    → AreLiveThrough map above found (Some to) → AreLiveTo map to (with_addresses live found)
through_batch map found above to live so_far proper batch = search (rules, none_more, batch_more)

all_live : (map : Map) (above : ℕ) (live : List ℕ) → AreLiveTo map above live
    → IsNextLive map above None → AreLive map live
all_live map above live so_far none = search (rules, cases_lt)

all_counted : (map : Map) (above : ℕ) (live : List ℕ) → above < 65535 → AreLiveTo map above live
    → IsNextLive map above None → length live ≡ live_in map
all_counted map above live below so_far none = so_far.count ∙ sym (live_to-end map above below none)

-- the last batch
pub last_live : (map : Map) (found : List (ℕ × ℕ)) (above : ℕ) (live : List ℕ)
    → AreLiveTo map above live → All (λ (one : ℕ × ℕ). IsAddress one.0) found
    → AreLiveThrough map above found None → AreLive map (with_addresses live found)
last_live map found above live so_far proper batch =
    all_live map (last_of above found) (with_addresses live found)
    (batch_more map found above live so_far proper batch.next) batch.rest

pub last_counted : (map : Map) (found : List (ℕ × ℕ)) (above : ℕ) (live : List ℕ) → above < 65535
    → AreLiveTo map above live → All (λ (one : ℕ × ℕ). IsAddress one.0) found
    → AreLiveThrough map above found None → length (with_addresses live found) ≡ live_in map
last_counted map found above live below so_far proper batch =
    all_counted map (last_of above found) (with_addresses live found)
    (last_below found above below proper)
    (batch_more map found above live so_far proper batch.next) batch.rest

-- a set that is built of ascending addresses has them in their order
pub set_of_ascending : {E : Type 0} (set : Result (BTreeSet ℕ) E) (live : List ℕ)
    → IsStrictlySortedBy nat_cmp live → IfOk set (IsFromIterResult nat_cmp live)
    → IfOk set (λ set. set.keys ≡ live)
set_of_ascending (Ok set) live ascending built =
    btree_set_from_contains nat_cmp_total set (record { keys = live }) built.1 ascending built.0
    exact_unsigned
set_of_ascending (Err refused) live ascending built = tt

-- what is so of the addresses is so of the set that is built of them
pub as_built : {E : Type 0} (Q : List ℕ → Type 0) (set : Result (BTreeSet ℕ) E) (live : List ℕ)
    → Q live → IfOk set (λ set. set.keys ≡ live) → IfOk set (λ set. Q set.keys)
as_built Q set live h1 h2 = search rules

-- 0 is no address, and has no value in any image
zero_in_state : (device : Device) (found : Option (Side × ℕ)) → (state_in device found).map 0 ≡ None
zero_in_state device found = search (rules, meaning-zero)

pub zero_has_none : (device : Device) → (state_of device).map 0 ≡ None
zero_has_none device = zero_in_state device (live_of device)

-- a set has a slot
some_slots : (pages words : ℕ) → 1 ≤ pages → 5 ≤ words → 1 ≤ pages * (words - 4)
some_slots pages words some long = search (rules, mul-le-mul)

-- what a store has is a start
pub store_starts : (device : Device) (slots fill : ℕ) (live : List ℕ) → IsStore device
    → slots ≡ slot_count device.size → fill ≡ (state_of device).fill
    → length live ≡ live_in (state_of device).map
    → IsStart record { slots = slots; fill = fill; live = live }
store_starts device slots fill live store counted filled held =
    search (rules, few_slots, few_within, live_within_fill, some_slots, state_is)
