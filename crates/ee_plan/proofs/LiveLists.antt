-- The live addresses as a list: what a change makes of it, and how many they are.
use Rattle.std.proofs.Common.{◌≡◌, ◌≢◌, ◌⊎◌, inl, inr, ℕ, ◌+◌, ◌<◌, Option, Some, None, List, [], ◌∷◌, length, refl, sym, subst, ◌∙◌, arith, rules}
use Rattle.std.proofs.lemmas.Bool.{cases_lt, cases_eq}
use Rattle.std.proofs.lemmas.Grind.{common_steps}
use Rattle.std.proofs.lemmas.List.Elements.{All-from_recursion, All-contains, All-cons, All-head, All-nil, All-tail, All-weaker, Contains-append_right}
use Rattle.std.proofs.lemmas.Map.Keys.{sorted_head, sorted_tail}
use Rattle.std.proofs.lemmas.Map.Views.{All-insert_key, All-remove_key}
use Rattle.std.specs.declared.cmp.Ordering.TheVariants.{Less}
use Rattle.std.specs.List.{All, AllByRecursion, Contains}
use Rattle.std.specs.List.Sorted.{IsStrictlySortedBy}
use Rattle.std.specs.Ordering.{nat_cmp}
use Rattle.std.specs.BTreeMap.{is_at}
use Rattle.std.specs.BTreeSet.{insert_key}
use Rattle.std.specs.Set.{remove_key}
use Rattle.ee_codec.specs.Words.{IsAddress}
use Rattle.ee_pages.specs.Meaning.{Map, Put, live_in, live_to}
use Rattle.ee_pages.specs.LiveOrder.{IsNextLive}
use Rattle.ee_pages.specs.Meaning as meaning
use Rattle.ee_pages.proofs.Public.{gap_to, live_to-next, live_to-zero}
use Rattle.ee_check.specs.declared.change.Change.TheVariants.{Forget, Write}
use Rattle.ee_check.specs.Live.{live_after_one}
use Rattle.ee_check.proofs.Public.{greater, same, smaller}
use Rattle.ee_plan.proofs.PlannerLemmas.Public.{from_less, insert_sorted, not_at, remove_sorted}
use Rattle.ee_plan.specs.Start.{AreLive}

-- ---- what a list contains

contains_here : (x : ℕ) (xs : List ℕ) → Contains (x ∷ xs) x
contains_here x xs = (0, omega arith, refl)

contains_behind : (x a : ℕ) (xs : List ℕ) → Contains xs a → Contains (x ∷ xs) a
contains_behind x a xs h = Contains-append_right (x ∷ []) xs a h

contains_alone : (x a : ℕ) → Contains (x ∷ []) a → x ≡ a
contains_alone x a h = search rules

contains_cases : (x a : ℕ) (xs : List ℕ) → Contains (x ∷ xs) a → (x ≡ a) ⊎ Contains xs a
contains_cases x a xs h = search (rules, contains_alone)

contains_more : (x a : ℕ) (xs ys : List ℕ) → (Contains xs a → Contains ys a) → Contains (x ∷ xs) a
    → Contains (x ∷ ys) a
contains_more x a xs ys more h = search (rules, contains_behind, contains_cases, contains_here)

-- an insertion keeps what there is, and adds its own
insert_keeps : (xs : List ℕ) (k a : ℕ) → Contains xs a → Contains (insert_key nat_cmp xs k) a
insert_keeps [] k a h = absurd (let g : h.0 < 0 = h.1 in omega arith)
insert_keeps (x ∷ xs) k a h = elim (cases_lt k x) [
  | inl before ↦ rw (smaller k x before) (contains_behind k a (x ∷ xs) h)
  | inr behind ↦ elim (cases_eq k x) [
    | inl here ↦ rw (same k x here) h
    | inr apart ↦ rw (greater k x (omega arith))
        (contains_more x a xs (insert_key nat_cmp xs k) (insert_keeps xs k a) h)
  ]
]

insert_adds : (xs : List ℕ) (k : ℕ) → Contains (insert_key nat_cmp xs k) k
insert_adds [] k = contains_here k []
insert_adds (x ∷ xs) k = elim (cases_lt k x) [
  | inl before ↦ rw (smaller k x before) (contains_here k (x ∷ xs))
  | inr behind ↦ elim (cases_eq k x) [
    | inl here ↦ rw (same k x here)
        (subst (λ b. Contains (x ∷ xs) b) (sym here) (contains_here x xs))
    | inr apart ↦ rw (greater k x (omega arith))
        (contains_behind x k (insert_key nat_cmp xs k) (insert_adds xs k))
  ]
]

-- ---- a write

put_there : (map : Map) (named value address : ℕ) → named ≡ address
    → meaning.map_after (Put named value) map address ≡ Some value
put_there map named value address here = grind (arith, common_steps)

put_elsewhere : (map : Map) (named value address : ℕ) → (named ≡ address → ⊥)
    → meaning.map_after (Put named value) map address ≡ map address
put_elsewhere map named value address apart = grind (arith, common_steps)

put_has : (map : Map) (named value address : ℕ) → named ≡ address
    → meaning.map_after (Put named value) map address ≢ None
put_has map named value address here = λ e. let f = put_there map named value address here in cc

put_keeps : (map : Map) (named value address : ℕ) → map address ≢ None
    → meaning.map_after (Put named value) map address ≢ None
put_keeps map named value address some = search (rules, cases_eq, put_elsewhere, put_has)

-- what is live after a value is put
pub live_after_put : (map : Map) (live : List ℕ) (address value : ℕ) → IsAddress address
    → AreLive map live
    → AreLive (meaning.map_after (Put address value) map) (live_after_one live (Write address))
live_after_put map live address value proper are = record {
  ascending = insert_sorted live address are.ascending;
  proper = All-insert_key nat_cmp address IsAddress live are.proper proper;
  have_values =
      let P = λ (a : ℕ). meaning.map_after (Put address value) map a ≢ None in
      let all : All P live =
      All-weaker (λ a. map a ≢ None) P (put_keeps map address value) live are.have_values in
      All-insert_key nat_cmp address P live all (put_has map address value address refl);
  all = λ a some. elim (cases_eq address a) [
    | inl here ↦ subst (λ b. Contains (insert_key nat_cmp live address) b) here
        (insert_adds live address)
    | inr apart ↦ insert_keeps live address a
        (are.all a (λ none. some (put_elsewhere map address value a apart ∙ none)))
  ];
}

-- ---- a forgetting

not_first : (x a : ℕ) (xs : List ℕ) → (a ≡ x → ⊥) → Contains (x ∷ xs) a → Contains xs a
not_first x a xs apart h =
    elim (contains_cases x a xs h) [ inl here ↦ absurd (apart (sym here)) | inr behind ↦ behind ]

-- what is above a number isn't it
none_below : (k : ℕ) (xs : List ℕ) → AllByRecursion (λ y. nat_cmp k y ≡ Less) xs
    → All (λ y. y ≢ k) xs
none_below k xs above = grind (arith, common_steps, from_less)

remove_keeps : (xs : List ℕ) (k a : ℕ) → (a ≡ k → ⊥) → Contains xs a
    → Contains (remove_key (is_at (nat_cmp k)) xs) a
remove_keeps [] k a other h = h
remove_keeps (x ∷ xs) k a other h = elim (cases_eq k x) [
  | inl here ↦ rw (same k x here) (not_first x a xs (λ e. other (e ∙ sym here)) h)
  | inr apart ↦ rw (not_at k x apart)
      (contains_more x a xs (remove_key (is_at (nat_cmp k)) xs) (remove_keeps xs k a other) h)
]

remove_takes : (xs : List ℕ) (k : ℕ) → IsStrictlySortedBy nat_cmp xs
    → All (λ y. y ≢ k) (remove_key (is_at (nat_cmp k)) xs)
remove_takes [] k sorted = All-nil (λ y. y ≢ k)
remove_takes (x ∷ xs) k sorted = elim (cases_eq k x) [
  | inl here ↦
      let above =
      subst (λ n. AllByRecursion (λ y. nat_cmp n y ≡ Less) xs) (sym here)
      (sorted_head nat_cmp x xs sorted) in
      rw (same k x here) (none_below k xs above)
  | inr apart ↦
      let rest = remove_takes xs k (sorted_tail nat_cmp x xs sorted) in
      rw (not_at k x apart)
      (All-cons (λ y. y ≢ k) x (remove_key (is_at (nat_cmp k)) xs) (λ e. apart (sym e)) rest)
]

forget_elsewhere : (map : Map) (named address : ℕ) → (named ≡ address → ⊥)
    → meaning.map_after (meaning.Forget named) map address ≡ map address
forget_elsewhere map named address apart = grind (arith, common_steps)

forget_there : (map : Map) (named address : ℕ) → named ≡ address
    → meaning.map_after (meaning.Forget named) map address ≡ None
forget_there map named address here = grind (arith, common_steps)

-- what is live after an address is forgotten
pub live_after_forget : (map : Map) (live : List ℕ) (address : ℕ) → AreLive map live
    → AreLive (meaning.map_after (meaning.Forget address) map)
    (live_after_one live (Forget address))
live_after_forget map live address are =
    let test = is_at (nat_cmp address) in
    let Q = λ (a : ℕ). map a ≢ None in
    let apart : All (λ a. a ≢ address) (remove_key test live) =
    remove_takes live address are.ascending in
    let left : All Q (remove_key test live) = All-remove_key test Q live are.have_values in
    record {
      ascending = remove_sorted live address are.ascending;
      proper = All-remove_key test IsAddress live are.proper;
      have_values =
          λ k d h none.
          left k d h (sym (forget_elsewhere map address _ (λ e. apart k d h (sym e))) ∙ none);
      all = λ a some. elim (cases_eq address a) [
        | inl here ↦ absurd (some (forget_there map address a here))
        | inr other ↦
            let had : map a ≢ None = λ none. some (forget_elsewhere map address a other ∙ none) in
            remove_keeps live address a (λ e. other (sym e)) (are.all a had)
      ];
    }

-- ---- how many are live

value_or_none : (found : Option ℕ) → found ≢ None → (value : ℕ) × (found ≡ Some value)
value_or_none found h1 = search rules

none_or_value : (found : Option ℕ) → (found ≡ None) ⊎ (found ≢ None)
none_or_value found = search rules

-- the live addresses above this one
record AreAbove (map : Map) (above : ℕ) (live : List ℕ) : Type 0 where
  pub ascending : IsStrictlySortedBy nat_cmp live
  pub proper : All IsAddress live
  pub have_values : All (λ address. map address ≢ None) live
  pub all : (address : ℕ) → above < address → map address ≢ None → Contains live address
  pub higher : All (λ address. above < address) live

first_is_next : (map : Map) (above x value : ℕ) (xs : List ℕ) → AreAbove map above (x ∷ xs)
    → map x ≡ Some value → IsNextLive map above (Some (x, value))
first_is_next map above x value xs are is = search (
  rules,
  All-head,
  none_or_value,
  contains_cases,
  All-from_recursion,
  sorted_head,
  from_less,
  All-contains,
)

others_above : (map : Map) (above x : ℕ) (xs : List ℕ) → AreAbove map above (x ∷ xs)
    → AreAbove map x xs
others_above map above x xs are =
    let P = λ (y : ℕ). nat_cmp x y ≡ Less in
    let beyond : All P xs = All-from_recursion P xs (sorted_head nat_cmp x xs are.ascending) in
    let low : above < x = All-head (λ address. above < address) x xs are.higher in
    record {
      ascending = sorted_tail nat_cmp x xs are.ascending;
      proper = All-tail IsAddress x xs are.proper;
      have_values = All-tail (λ address. map address ≢ None) x xs are.have_values;
      all = λ a high some. elim (contains_cases x a xs (are.all a (omega arith) some)) [
        | inl here ↦ absurd (omega arith)
        | inr behind ↦ behind
      ];
      higher = All-weaker P (λ y. x < y) (from_less x) xs beyond;
    }

count_above : (map : Map) (live : List ℕ) (above : ℕ) → above < 65535 → AreAbove map above live
    → live_to map 65534 ≡ live_to map above + length live
count_above map [] above low are = search (rules, gap_to, none_or_value)
count_above map (x ∷ xs) above low are =
    let found =
    value_or_none (map x) (All-head (λ address. map address ≢ None) x xs are.have_values) in
    let one = live_to-next map above x found.0 (first_is_next map above x found.0 xs are found.1) in
    let end : x < 65535 = (All-head IsAddress x xs are.proper).1 in
    let rest = count_above map xs x end (others_above map above x xs are) in
    omega arith

-- as many as there are in the list
pub live_count_is : (map : Map) (live : List ℕ) → AreLive map live → live_in map ≡ length live
live_count_is map live are =
    let here : AreAbove map 0 live = record {
      ascending = are.ascending;
      proper = are.proper;
      have_values = are.have_values;
      all = λ a low some. are.all a some;
      higher = All-weaker IsAddress (λ y. 0 < y) (λ a proper. proper.0) live are.proper;
    } in
    let e = count_above map live 0 (omega arith) here in
    let z = live_to-zero map in
    omega arith
