-- What is left of a map's entries while they are gone over by rising address.
use Rattle.std.proofs.Common.{◌≡◌, ◌∙◌, ◌<◌, ◌≤◌, ◌+◌, ℕ, Option, Some, None, List, [], ◌∷◌, length, sym, ap, arith, nat_cmp, rules}
use Rattle.std.proofs.lemmas.Bool.{cases_eq, cases_lt}
use Rattle.std.proofs.lemmas.Grind.{common_steps}
use Rattle.std.proofs.lemmas.List.Elements.{All-head, All-weaker}
use Rattle.std.proofs.lemmas.Map.{lookup-none}
use Rattle.std.proofs.lemmas.Map.Entries.{none_below_head}
use Rattle.std.proofs.lemmas.Map.Keys.{sorted_tail}
use Rattle.std.proofs.lemmas.Map.Views.{All-after_first}
use Rattle.std.specs.BTreeMap.{BTreeMap, get, is_at}
use Rattle.std.specs.Cmp.{nat_cmp_total}
use Rattle.std.specs.List.{All}
use Rattle.std.specs.List.Sorted.{IsStrictlySortedBy}
use Rattle.std.specs.Map.{keys_of, lookup}
use Rattle.std.specs.declared.cmp.Ordering.TheVariants.{Less}
use Rattle.ee_settings.specs.Listing.{behind_at, first_address, first_at, lower_of}

-- from this address on, a map has these entries, which rise, and no others
abbrev pub AreEntriesFrom : {T : Type 0} → (ℕ → Option T) → ℕ → List (ℕ × T) → Type 0
AreEntriesFrom map from [] = (address : ℕ) → from ≤ address → map address ≡ None
AreEntriesFrom map from (entry ∷ more) =
    (from ≤ entry.0) × ((address : ℕ) → from ≤ address → address < entry.0 → map address ≡ None)
    × (map entry.0 ≡ Some entry.1) × AreEntriesFrom map (entry.0 + 1) more

-- the first of the entries isn't below this address
abbrev pub BeginFrom : {T : Type 0} → ℕ → List (ℕ × T) → Type 0
BeginFrom address [] = Unit {0}
BeginFrom address (entry ∷ more) = address ≤ entry.0

module _ {T : Type 0} (map : ℕ → Option T) where
  left_from : (from : ℕ) (entries : List (ℕ × T)) → IsStrictlySortedBy nat_cmp (keys_of entries)
      → All (λ key. from ≤ key) (keys_of entries)
      → ((address : ℕ) → from ≤ address → map address ≡ lookup (is_at (nat_cmp address)) entries)
      → AreEntriesFrom map from entries
  left_from from [] ordered least same = same
  left_from from (entry ∷ more) ordered least same =
      let low : from ≤ entry.0 =
      All-head (λ (key : ℕ). from ≤ key) entry.0 (keys_of more) least in (
        low,
        (λ address above below. same address above
            ∙ lookup-none (is_at (nat_cmp address)) (entry ∷ more)
            (none_below_head nat_cmp_total address entry more ordered
            (grind (arith, common_steps)))),
        same entry.0 low ∙ grind (arith, common_steps),
        left_from (entry.0 + 1) more (sorted_tail nat_cmp entry.0 (keys_of more) ordered)
            (All-weaker (λ (key : ℕ). nat_cmp entry.0 key ≡ Less) (λ (key : ℕ). entry.0 + 1 ≤ key)
            (λ key less. grind (arith, common_steps)) (keys_of more)
            (All-after_first nat_cmp entry.0 (keys_of more) ordered))
            (λ address above.
            same address (omega (arith, low, above)) ∙ grind (arith, common_steps)),
      )

  -- at first all entries are left
  pub left_first : (tree : BTreeMap ℕ T) (entries : List (ℕ × T)) → entries ≡ tree.entries
      → IsStrictlySortedBy nat_cmp (keys_of tree.entries) → get nat_cmp tree ≡ map
      → AreEntriesFrom map 0 entries
  left_first tree entries is ordered same =
      rw is
      (left_from 0 tree.entries ordered (search rules)
      (λ address above. ap (λ (f : ℕ → Option T). f address) (sym same)))

  pub left_above : (from : ℕ) (entries : List (ℕ × T)) → AreEntriesFrom map from entries
      → BeginFrom from entries
  left_above from entries h1 = search rules

  pub none_below : (from address : ℕ) (entries : List (ℕ × T)) → AreEntriesFrom map from entries
      → BeginFrom address entries → (other : ℕ) → from ≤ other → other < address → map other ≡ None
  none_below from address entries h1 h2 other h3 h4 = search rules

  pub first_found : (from address : ℕ) (entries : List (ℕ × T)) → AreEntriesFrom map from entries
      → BeginFrom address entries → from ≤ address → first_at address entries ≡ map address
  first_found from address entries h1 h2 h3 = search (rules, cases_eq)

  pub left_behind : (from address : ℕ) (entries : List (ℕ × T)) → AreEntriesFrom map from entries
      → BeginFrom address entries → from ≤ address
      → AreEntriesFrom map (address + 1) (behind_at address entries)
  left_behind from address entries h1 h2 h3 = search (rules, cases_eq)

-- ---- of two maps

-- the address is the lower of the first of each
pub record IsLowest {S T : Type 0} (address : ℕ) (one : List (ℕ × S)) (other : List (ℕ × T))
    : Type 0 where
  pub one_from : BeginFrom address one
  pub other_from : BeginFrom address other
  pub above : (from : ℕ) → BeginFrom from one → BeginFrom from other → from ≤ address
  pub shorter : length (behind_at address one) + length (behind_at address other) < length one
      + length other

pub lower_lowest : {S T : Type 0} (address : ℕ) (one : List (ℕ × S)) (other : List (ℕ × T))
    → lower_of (first_address one) (first_address other) ≡ Some address → IsLowest address one other
lower_lowest address one other h1 = search (rules, cases_lt)

pub none_lower : {S T : Type 0} (one : List (ℕ × S)) (other : List (ℕ × T))
    → lower_of (first_address one) (first_address other) ≡ None → (one ≡ []) × (other ≡ [])
none_lower one other h1 = search rules
