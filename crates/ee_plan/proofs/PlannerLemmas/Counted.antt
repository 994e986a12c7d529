-- The counts of two rounds count the live addresses of all of them.
use Rattle.std.proofs.Common.{◌≡◌, ℕ, zero, suc, ◌+◌, ◌-◌, ◌*◌, ◌%◌, ◌/◌, ◌<◌, ◌≤◌, List, [], ◌∷◌, ◌++◌, length, take, get_or, inl, inr, refl, sym, ap, subst, ◌∙◌, arith, replicate, set, rules}
use Rattle.std.specs.Prelude.{nat_lt, false}
use Rattle.std.proofs.lemmas.Bool.{cases_eq, cases_lt, lt-ltb, le-ltb}
use Rattle.std.proofs.lemmas.List.{get_or-replicate, get_or-set_other, get_or-set_same, length-replicate, length-set, take-append-le}
use Rattle.std.proofs.Math.Seq.{take-append-add}
use Rattle.std.proofs.Math.Nat.{mod-eq_of_lt, mod-lt, add-mod_left, add-mul-mod_self_left, mod-mod, mod-add-mod, div-add-mod}
use Rattle.ee_check.specs.declared.change.Change.{Change}
use Rattle.ee_check.specs.Live.{live_after_one, live_after, live_count}
use Rattle.ee_check.proofs.Public.{live_after-append}
use Rattle.ee_plan.specs.declared.planner.counts.Counts.{Counts}
use Rattle.ee_plan.specs.Planner.Rounds.{repeated_trace}
use Rattle.ee_plan.specs.Planner.Places.{counts_before, AreRoundCounts, AreFlats, AreRounds, count_after}
use Rattle.ee_plan.proofs.PlannerLemmas.Repeating.{left_again}

-- ---- the counts of one round

counts_length : (live : List ℕ) (changes : List Change)
    → length (counts_before live changes) ≡ length changes
counts_length live [] = refl
counts_length live (change ∷ changes) =
    let h = counts_length (live_after_one live change) changes in omega arith

counts_at : (live : List ℕ) (changes : List Change) (n : ℕ) → n < length changes
    → get_or (counts_before live changes) n 0 ≡ live_count live changes n
counts_at live [] n h = absurd (omega arith)
counts_at live (change ∷ changes) zero h = refl
counts_at live (change ∷ changes) (suc n) h =
    counts_at (live_after_one live change) changes n (omega arith)

pub later_length : {A : Type 0} (trace : List Change) (counts : Counts A)
    → AreRoundCounts trace counts → length counts.later.items ≡ length trace
later_length trace counts are = ap length are.later ∙ counts_length (live_after [] trace) trace

pub are_rounds : {A : Type 0} (trace : List Change) (counts : Counts A)
    → AreRoundCounts trace counts → 0 < length trace → AreRounds counts
are_rounds trace counts are some = search (rules, counts_length, later_length)

-- ---- rounds that leave the addresses which they find

settled_count : (live : List ℕ) (trace : List Change) (runs n : ℕ) → 0 < length trace
    → live_after live trace ≡ live → n ≤ runs * length trace
    → live_count live (repeated_trace runs trace) n ≡ live_count live trace (n % length trace)
settled_count live trace zero n some settled within = search (rules, mod-eq_of_lt)
settled_count live trace (suc runs) n some settled within = elim (cases_lt n (length trace)) [
  | inl first ↦ rw
      (mod-eq_of_lt first, take-append-le n trace (repeated_trace runs trace) (omega arith)) refl
  | inr later ↦
      let m = n - length trace in
      let e : n ≡ length trace + m = omega arith in
      let product : suc runs * length trace ≡ runs * length trace + length trace = omega arith in
      let more = settled_count live trace runs m some settled (omega arith) in
      let split : take n (trace ++ repeated_trace runs trace)
      ≡ trace ++ take m (repeated_trace runs trace) =
      ap (λ k. take k (trace ++ repeated_trace runs trace)) e
      ∙ take-append-add trace (repeated_trace runs trace) m in
      let same : live_after live (trace ++ take m (repeated_trace runs trace))
      ≡ live_after live (take m (repeated_trace runs trace)) =
      live_after-append live trace (take m (repeated_trace runs trace))
      ∙ ap (λ l. live_after l (take m (repeated_trace runs trace))) settled in
      let turn : n % length trace ≡ m % length trace =
      ap (λ k. k % length trace) e ∙ add-mod_left (length trace) m in
      ap (λ l. length (live_after live l)) split ∙ ap length same ∙ more
      ∙ ap (live_count live trace) (sym turn)
]

-- ---- all rounds

first_count : {A : Type 0} (trace : List Change) (counts : Counts A) (n : ℕ)
    → AreRoundCounts trace counts → n < length trace → count_after counts n ≡ live_count [] trace n
first_count trace counts n are within = search (rules, counts_at, later_length, lt-ltb)

later_count : {A : Type 0} (trace : List Change) (counts : Counts A) (n : ℕ)
    → AreRoundCounts trace counts → 0 < length trace → length trace ≤ n
    → count_after counts n ≡ live_count (live_after [] trace) trace (n % length trace)
later_count trace counts n are some behind = search (rules, counts_at, later_length, le-ltb, mod-lt)

pub counted : {A : Type 0} (trace : List Change) (counts : Counts A) (runs n : ℕ)
    → AreRoundCounts trace counts → 0 < length trace → n ≤ runs * length trace
    → count_after counts n ≡ live_count [] (repeated_trace runs trace) n
counted trace counts zero n are some within =
    let e : n ≡ 0 = omega arith in
    subst (λ k. count_after counts k ≡ live_count [] [] k) (sym e)
    (first_count trace counts 0 are some)
counted trace counts (suc runs) n are some within = elim (cases_lt n (length trace)) [
  | inl first ↦ first_count trace counts n are first
      ∙ sym (rw (take-append-le n trace (repeated_trace runs trace) (omega arith)) refl)
  | inr behind ↦
      let m = n - length trace in
      let left = live_after [] trace in
      let e : n ≡ length trace + m = omega arith in
      let product : suc runs * length trace ≡ runs * length trace + length trace = omega arith in
      let more = settled_count left trace runs m some (left_again trace) (omega arith) in
      let split : take n (trace ++ repeated_trace runs trace)
      ≡ trace ++ take m (repeated_trace runs trace) =
      ap (λ k. take k (trace ++ repeated_trace runs trace)) e
      ∙ take-append-add trace (repeated_trace runs trace) m in
      let turn : n % length trace ≡ m % length trace =
      ap (λ k. k % length trace) e ∙ add-mod_left (length trace) m in
      later_count trace counts n are some (omega arith) ∙ ap (live_count left trace) turn ∙ sym more
      ∙ sym
      (ap (λ l. length (live_after [] l)) split
      ∙ ap length (live_after-append [] trace (take m (repeated_trace runs trace))))
]

-- in the second round the place in it needs no division
pub one_round_back : (n size : ℕ) → size ≤ n → n - size < size → n % size ≡ n - size
one_round_back n size behind second = search (rules, add-mod_left, mod-eq_of_lt)

-- while the counts of a round stay the same, so do those after so many changes
pub stays_flat : {A : Type 0} (counts : Counts A) (n j : ℕ) → AreRounds counts
    → length counts.later.items ≤ n
    → j ≤ get_or counts.flats.items (n % length counts.later.items) 0
    → count_after counts (n + j) ≡ count_after counts n
stays_flat counts n j rounds behind within =
    let size = length counts.later.items in
    let place = n % size in
    let small : place < size = mod-lt n rounds.some in
    let flat = rounds.flats.same place j small within in
    let turn : (n + j) % size ≡ place + j = sym (mod-add-mod n size j) ∙ mod-eq_of_lt flat.0 in
    let one : nat_lt (n + j) size ≡ false = le-ltb (n + j) size (omega arith) in
    let other : nat_lt n size ≡ false = le-ltb n size behind in
    rw (one, other, turn) flat.1

-- none is known to stay so at first
pub no_flats : (counts flats : List ℕ) → flats ≡ replicate (length counts) 0 → AreFlats counts flats
no_flats counts flats is = search (rules, get_or-replicate, length-replicate)

-- what stays so ends within the round
pub flat_within : (counts flats : List ℕ) (i : ℕ) → AreFlats counts flats → i < length counts
    → get_or flats i 0 < length counts
flat_within counts flats i are within =
    let h = (are.same i (get_or flats i 0) within (omega arith)).0 in omega arith

-- one that is the same as the one behind it stays so as long, and once more
pub flat_more : (counts flats : List ℕ) (at : ℕ) → AreFlats counts flats → at + 1 < length counts
    → get_or counts at 0 ≡ get_or counts (at + 1) 0
    → AreFlats counts (set flats at (get_or flats (at + 1) 0 + 1))
flat_more counts flats at are within same = record {
  as_many = length-set flats at (get_or flats (at + 1) 0 + 1) ∙ are.as_many;
  same = λ i j h k. elim (cases_eq i at) [
    | inl here ↦
        let there : get_or (set flats at (get_or flats (at + 1) 0 + 1)) at 0
        ≡ get_or flats (at + 1) 0 + 1 =
        get_or-set_same flats at (get_or flats (at + 1) 0 + 1) 0
        (let e = are.as_many in omega arith) in
        let most : j ≤ get_or flats (at + 1) 0 + 1 =
        let e = ap (λ n. get_or (set flats at (get_or flats (at + 1) 0 + 1)) n 0) here in
        omega arith in
        elim (cases_eq j 0) [
          | inl none ↦
              (omega arith, ap (λ n. get_or counts n 0) (let e : i + j ≡ i = omega arith in e))
          | inr some ↦
              let next = are.same (at + 1) (j - 1) within (omega arith) in
              let e : i + j ≡ at + 1 + (j - 1) = omega arith in (
                let a = next.0 in omega arith,
                ap (λ n. get_or counts n 0) e ∙ next.1 ∙ sym same
                    ∙ ap (λ n. get_or counts n 0) (sym here),
              )
        ]
    | inr apart ↦
        let there : get_or (set flats at (get_or flats (at + 1) 0 + 1)) i 0 ≡ get_or flats i 0 =
        get_or-set_other flats at i (get_or flats (at + 1) 0 + 1) 0 apart in
        are.same i j h (omega arith)
  ];
}

-- none is above the greatest of two rounds
pub none_more : {A : Type 0} (counts : Counts A) (n : ℕ) → AreRounds counts
    → count_after counts n ≤ counts.most
none_more counts n rounds = grind (arith, mod-lt)

-- ---- the counts come round

pub same_count : {A : Type 0} (counts : Counts A) (m n : ℕ) → length counts.later.items ≤ m
    → length counts.later.items ≤ n → m % length counts.later.items ≡ n % length counts.later.items
    → count_after counts m ≡ count_after counts n
same_count counts m n h k e = search (rules, le-ltb)

pub comes_round : {A : Type 0} (counts : Counts A) (d n : ℕ) → d % length counts.later.items ≡ 0
    → length counts.later.items ≤ n → count_after counts (n + d) ≡ count_after counts n
comes_round counts d n whole behind =
    let size = length counts.later.items in
    let e : n + d ≡ n + size * (d / size) = let a = div-add-mod d size in omega arith in
    same_count counts (n + d) n (omega arith) behind
    (ap (λ k. k % size) e ∙ add-mul-mod_self_left n size (d / size))

-- what comes after the second round has come in it
pub in_two_rounds : {A : Type 0} (counts : Counts A) (slots last total : ℕ)
    → 0 < length counts.later.items → (last < total → last ≡ 2 * length counts.later.items)
    → ((n : ℕ) → n ≤ last → count_after counts n ≤ slots) → (n : ℕ) → n ≤ total
    → count_after counts n ≤ slots
in_two_rounds counts slots last total some cut fits n within = elim (cases_lt last n) [
  | inl behind ↦
      let size = length counts.later.items in
      let end = cut (omega arith) in
      let small : n % size < size = mod-lt n some in
      let place = size + n % size in
      let e : count_after counts n ≡ count_after counts place =
      same_count counts n place (omega arith) (omega arith)
      (sym (add-mod_left size (n % size) ∙ mod-mod n size)) in
      let h = fits place (omega arith) in
      omega arith
  | inr there ↦ fits n (omega arith)
]
