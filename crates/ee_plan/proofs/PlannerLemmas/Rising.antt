-- Numbers in ascending order: what an insertion and a removal keep.
use Rattle.std.proofs.Common.{◌≡◌, inl, inr, ℕ, ◌<◌, List, [], ◌∷◌, sym, arith, false, rules}
use Rattle.std.proofs.lemmas.Bool.{cases_lt, cases_eq}
use Rattle.std.proofs.lemmas.List.Elements.{All-from_recursion, recursion_from_All}
use Rattle.std.proofs.lemmas.Map.Views.{All-insert_key, All-remove_key}
use Rattle.std.specs.declared.cmp.Ordering.TheVariants.{Less}
use Rattle.std.specs.List.{All, AllByRecursion}
use Rattle.std.specs.List.Sorted.{IsStrictlySortedBy}
use Rattle.std.specs.Ordering.{nat_cmp}
use Rattle.std.specs.BTreeMap.{is_at}
use Rattle.std.specs.BTreeSet.{insert_key}
use Rattle.std.specs.Set.{remove_key}
use Rattle.std.proofs.lemmas.Cmp.{ranked}
use Rattle.ee_check.proofs.Public.{greater, same, smaller}

-- a removal passes any other number
pub not_at : (k x : ℕ) → (k ≡ x → ⊥) → is_at (nat_cmp k) x ≡ false
not_at k x apart = search (rules, cases_lt, greater, smaller)

pub from_less : (a b : ℕ) → nat_cmp a b ≡ Less → a < b
from_less a b h = ranked a b Less (sym h)

-- what is above a number is above a smaller one
above_both : (k x : ℕ) (xs : List ℕ) → k < x → AllByRecursion (λ y. nat_cmp x y ≡ Less) xs
    → AllByRecursion (λ y. nat_cmp k y ≡ Less) xs
above_both k x [] h above = tt
above_both k x (y ∷ ys) h above = search (rules, smaller, from_less, (above_both k x ys h above.1))

pub insert_sorted : (xs : List ℕ) (k : ℕ) → IsStrictlySortedBy nat_cmp xs
    → IsStrictlySortedBy nat_cmp (insert_key nat_cmp xs k)
unfolding IsStrictlySortedBy
insert_sorted [] k sorted = (tt, tt)
insert_sorted (x ∷ xs) k sorted = elim (cases_lt k x) [
  | inl before ↦ rw (smaller k x before)
      ((smaller k x before, above_both k x xs before sorted.0), sorted)
  | inr behind ↦ elim (cases_eq k x) [
    | inl here ↦ rw (same k x here) sorted
    | inr apart ↦
        let later : x < k = omega arith in
        let P = λ (y : ℕ). nat_cmp x y ≡ Less in
        let beyond : All P xs = All-from_recursion P xs sorted.0 in
        let above : All P (insert_key nat_cmp xs k) =
        All-insert_key nat_cmp k P xs beyond (smaller x k later) in
        rw (greater k x later)
        (recursion_from_All P (insert_key nat_cmp xs k) above, insert_sorted xs k sorted.1)
  ]
]

pub remove_sorted : (xs : List ℕ) (k : ℕ) → IsStrictlySortedBy nat_cmp xs
    → IsStrictlySortedBy nat_cmp (remove_key (is_at (nat_cmp k)) xs)
unfolding IsStrictlySortedBy
remove_sorted [] k sorted = tt
remove_sorted (x ∷ xs) k sorted = elim (cases_eq k x) [
  | inl here ↦ rw (same k x here) sorted.1
  | inr apart ↦
      let P = λ (y : ℕ). nat_cmp x y ≡ Less in
      let left = remove_key (is_at (nat_cmp k)) xs in
      let above : All P left =
      All-remove_key (is_at (nat_cmp k)) P xs (All-from_recursion P xs sorted.0) in
      rw (not_at k x apart) (recursion_from_All P left above, remove_sorted xs k sorted.1)
]
