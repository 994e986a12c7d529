-- The second round of a trace leaves the addresses live that the first one left.
use Rattle.std.proofs.Common.{◌≡◌, ◌⊎◌, inl, inr, ℕ, ◌≤◌, Bool, true, false, cond, List, [], ◌∷◌, refl, sym, ◌∙◌, arith, rules}
use Rattle.std.proofs.lemmas.Bool.{cases_lt, cases_eq}
use Rattle.std.specs.declared.cmp.Ordering.TheVariants.{Less}
use Rattle.std.specs.List.{AllByRecursion}
use Rattle.std.specs.List.Sorted.{IsStrictlySortedBy}
use Rattle.std.specs.Ordering.{nat_cmp}
use Rattle.std.specs.BTreeMap.{is_at}
use Rattle.std.specs.BTreeSet.{insert_key}
use Rattle.std.specs.Set.{remove_key}
use Rattle.ee_check.specs.declared.change.Change.{Change}
use Rattle.ee_check.specs.declared.change.Change.TheVariants.{Forget, Write}
use Rattle.ee_check.specs.Live.{live_after_one, live_after}
use Rattle.ee_check.proofs.Public.{greater, same, smaller}
use Rattle.ee_plan.proofs.PlannerLemmas.Rising.{not_at, from_less, insert_sorted, remove_sorted}

-- ---- which addresses a list has

-- whether it has this one
abbrev has : List ℕ → ℕ → Bool
has [] q = false
has (x ∷ xs) q = cond (is_at (nat_cmp q) x) true (has xs q)

here_it_is : (q x : ℕ) → q ≡ x → is_at (nat_cmp q) x ≡ true
here_it_is q x e = rw (same q x e) refl

none_so_low : (q k : ℕ) (xs : List ℕ) → q ≤ k → AllByRecursion (λ y. nat_cmp k y ≡ Less) xs
    → has xs q ≡ false
none_so_low q k [] low above = refl
none_so_low q k (x ∷ xs) low above =
    search (rules, from_less, not_at, (none_so_low q k xs low above.1))

twice : (b c : Bool) → cond b true c ≡ cond b true (cond b true c)
twice b c = search rules

swapped : (a b c : Bool) → cond a true (cond b true c) ≡ cond b true (cond a true c)
swapped a b c = search rules

has_insert : (xs : List ℕ) (k q : ℕ)
    → has (insert_key nat_cmp xs k) q ≡ cond (is_at (nat_cmp q) k) true (has xs q)
has_insert [] k q = refl
has_insert (x ∷ xs) k q =
    search (rules, cases_eq, cases_lt, greater, same, smaller, swapped, twice, (has_insert xs k q))

has_remove : (xs : List ℕ) (k q : ℕ) → IsStrictlySortedBy nat_cmp xs
    → has (remove_key (is_at (nat_cmp k)) xs) q ≡ cond (is_at (nat_cmp q) k) false (has xs q)
unfolding IsStrictlySortedBy
has_remove [] k q sorted = search (rules, cases_eq, here_it_is, not_at)
has_remove (x ∷ xs) k q sorted = elim (cases_eq k x) [
  | inl here ↦ elim (cases_eq q k) [
    | inl taken ↦ rw (here_it_is k x here, here_it_is q k taken)
        (none_so_low q x xs (omega arith) sorted.0)
    | inr apart ↦ rw (here_it_is k x here, not_at q k apart, not_at q x (λ e. apart (e ∙ sym here)))
        refl
  ]
  | inr other ↦ rw (not_at k x other) (elim (cases_eq q k) [
    | inl taken ↦ rw (not_at q x (λ e. other (sym taken ∙ e)))
        (has_remove xs k q sorted.1 ∙ rw (here_it_is q k taken) refl)
    | inr apart ↦ rw (has_remove xs k q sorted.1, not_at q k apart) refl
  ])
]

-- two ascending lists that have the same are the same
one_list : (xs ys : List ℕ) → IsStrictlySortedBy nat_cmp xs → IsStrictlySortedBy nat_cmp ys
    → ((q : ℕ) → has xs q ≡ has ys q) → xs ≡ ys
unfolding IsStrictlySortedBy
one_list [] [] sorted sort alike = refl
one_list [] (y ∷ ys) sorted sort alike =
    let e : false ≡ true = alike y ∙ rw (here_it_is y y refl) refl in absurd (cc)
one_list (x ∷ xs) [] sorted sort alike =
    let e : false ≡ true = sym (alike x) ∙ rw (here_it_is x x refl) refl in absurd (cc)
one_list (x ∷ xs) (y ∷ ys) sorted sort alike = elim (cases_lt x y) [
  | inl before ↦
      let there : has (x ∷ xs) x ≡ true = rw (here_it_is x x refl) refl in
      let not_here : has (y ∷ ys) x ≡ false =
      rw (not_at x y (λ e. omega arith)) (none_so_low x y ys (omega arith) sort.0) in
      let e : false ≡ true = sym not_here ∙ sym (alike x) ∙ there in absurd (cc)
  | inr behind ↦ elim (cases_eq x y) [
    | inl here ↦
        let rest : (q : ℕ) → has xs q ≡ has ys q = λ q. elim (cases_eq q x) [
          | inl taken ↦ none_so_low q x xs (omega arith) sorted.0
              ∙ sym (none_so_low q y ys (omega arith) sort.0)
          | inr apart ↦
              let left : has (x ∷ xs) q ≡ has xs q = rw (not_at q x apart) refl in
              let right : has (y ∷ ys) q ≡ has ys q =
              rw (not_at q y (λ e. apart (e ∙ sym here))) refl in
              sym left ∙ alike q ∙ right
        ] in
        let tails = one_list xs ys sorted.1 sort.1 rest in cc
    | inr apart ↦
        let there : has (y ∷ ys) y ≡ true = rw (here_it_is y y refl) refl in
        let not_here : has (x ∷ xs) y ≡ false =
        rw (not_at y x (λ e. apart (sym e))) (none_so_low y x xs (omega arith) sorted.0) in
        let e : false ≡ true = sym not_here ∙ alike y ∙ there in absurd (cc)
  ]
]

-- ---- what changes make of one address

-- whether it is live after the changes, by whether it was before
abbrev decides : List Change → ℕ → Bool → Bool
decides [] q was = was
decides (Write address ∷ changes) q was =
    decides changes q (cond (is_at (nat_cmp q) address) true was)
decides (Forget address ∷ changes) q was =
    decides changes q (cond (is_at (nat_cmp q) address) false was)

-- they leave it as it was, or what it was is of no matter
decided : (changes : List Change) (q : ℕ)
    → ((b : Bool) → decides changes q b ≡ b)
    ⊎ ((b c : Bool) → decides changes q b ≡ decides changes q c)
decided [] q = inl (λ b. refl)
decided (Write address ∷ changes) q = elim (cases_eq q address) [
  | inl here ↦ inr (λ b c. rw (here_it_is q address here) refl)
  | inr apart ↦ rw (not_at q address apart) (decided changes q)
]
decided (Forget address ∷ changes) q = elim (cases_eq q address) [
  | inl here ↦ inr (λ b c. rw (here_it_is q address here) refl)
  | inr apart ↦ rw (not_at q address apart) (decided changes q)
]

decided_again : (changes : List Change) (q : ℕ) (b : Bool)
    → decides changes q (decides changes q b) ≡ decides changes q b
decided_again changes q b = elim (decided changes q) [
  | inl left ↦ left (decides changes q b)
  | inr settled ↦ settled (decides changes q b) b
]

changed_sorted : (live : List ℕ) (change : Change) → IsStrictlySortedBy nat_cmp live
    → IsStrictlySortedBy nat_cmp (live_after_one live change)
changed_sorted live change h1 = search (rules, insert_sorted, remove_sorted)

after_sorted : (live : List ℕ) (changes : List Change) → IsStrictlySortedBy nat_cmp live
    → IsStrictlySortedBy nat_cmp (live_after live changes)
after_sorted live [] sorted = sorted
after_sorted live (change ∷ changes) sorted =
    after_sorted (live_after_one live change) changes (changed_sorted live change sorted)

has_after : (live : List ℕ) (changes : List Change) (q : ℕ) → IsStrictlySortedBy nat_cmp live
    → has (live_after live changes) q ≡ decides changes q (has live q)
has_after live [] q sorted = refl
has_after live (Write address ∷ changes) q sorted = search (
  rules,
  insert_sorted,
  has_insert,
  (has_after (live_after_one live (Write address)) changes q (insert_sorted live address sorted)),
)
has_after live (Forget address ∷ changes) q sorted = search (
  rules,
  remove_sorted,
  has_remove,
  (has_after (live_after_one live (Forget address)) changes q
      (remove_sorted live address sorted)),
)

-- made twice, changes leave what they left the first time
made_twice : (live : List ℕ) (changes : List Change) → IsStrictlySortedBy nat_cmp live
    → live_after (live_after live changes) changes ≡ live_after live changes
made_twice live changes sorted = search (rules, after_sorted, decided_again, has_after, one_list)

-- so it is from none
pub left_again : (changes : List Change)
    → live_after (live_after [] changes) changes ≡ live_after [] changes
unfolding IsStrictlySortedBy
left_again changes = made_twice [] changes tt
