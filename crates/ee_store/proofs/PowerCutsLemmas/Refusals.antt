-- Refusals, and what is looked for, as tests.
use Rattle.std.proofs.Common.{◌≡◌, inl, inr, ◌<◌, ◌≤◌, ◌+◌, ℕ, zero, suc, Bool, cond, Option, Some, None, List, [], ◌∷◌, ap, arith, false, length, refl, sym, true, ◌∙◌}
use Rattle.std.specs.Prelude.{◌&&◌, ◌==◌, is_some, not, slice_get}
use Rattle.std.proofs.lemmas.Bool.{cases_eq, cases_lt, eq-eqb, eqb-true, lt-ltb, ltb-true, true≢false}
use Rattle.ee_codec.specs.Words.{IsAddress}
use Rattle.ee_pages.proofs.Public.{live_to-suc}
use Rattle.ee_pages.specs.Meaning as meaning
use Rattle.ee_pages.specs.Meaning.{Change, Map, changed_by, live_in, live_to}
use Rattle.ee_core.proofs.Public.{live_in-nothing}
use Rattle.ee_core.specs.Changes.{HaveNoGeneration, HaveNoPlace, IsAccepted, greatest_generation}
use Rattle.ee_core.specs.Puts.{HasAll, is_put_again, is_twice}
use Rattle.ee_core.specs.State.{State}
use Rattle.ee_core.specs.declared.change.Put as listed
use Rattle.ee_store.specs.PowerCuts.Deciding.{are_spent, first_of, has_all, has_value, have_no_place, refusal_of}
use Rattle.ee_store.specs.PowerCuts.Events.{IsEmptied}
use Rattle.ee_store.specs.declared.power_cuts.event.Answer.{Answer}

pub both_true : (a b : Bool) → (a && b) ≡ true → (a ≡ true) × (b ≡ true)
both_true true true e = (refl, refl)
both_true true false e = absurd (true≢false (sym e))
both_true false b e = absurd (true≢false (sym e))

none_is : (found : Option ℕ) → not (is_some found) ≡ true → found ≡ None
none_is None e = refl
none_is (Some n) e = absurd (true≢false (sym e))

pub false_from : (test : Bool) → (test ≡ true → ⊥) → test ≡ false
false_from true never = absurd (never refl)
false_from false never = refl

module _ (slots : ℕ) (state : State) where
  place_tested : (changes : List Change)
      → (have_no_place slots state changes ≡ true → HaveNoPlace slots state changes)
      × (HaveNoPlace slots state changes → have_no_place slots state changes ≡ true)
  place_tested [] = (λ is. absurd (true≢false (sym is)), λ none. absurd none)
  place_tested (meaning.Put address value ∷ []) = (
    λ is.
        let parts =
        both_true (not (is_some (state.map address))) (live_in state.map == slots) is in
        record {
          new_address = none_is (state.map address) parts.0;
          all_live = eqb-true (live_in state.map) slots parts.1;
        },
    λ full.
        ap (λ found. not (is_some found) && (live_in state.map == slots)) full.new_address
        ∙ eq-eqb (live_in state.map) slots full.all_live,
  )
  place_tested (meaning.Forget address ∷ []) = (
    λ is. none_is (state.map address) is,
    λ none. ap (λ found. not (is_some found)) none,
  )
  place_tested (first ∷ second ∷ more) =
      let count = live_in (changed_by (first ∷ second ∷ more) state.map) in
      (λ is. ltb-true slots count is, λ over. lt-ltb slots count over)

  spent_tested : (changes : List Change)
      → (are_spent slots state changes ≡ true → HaveNoGeneration slots state changes)
      × (HaveNoGeneration slots state changes → are_spent slots state changes ≡ true)
  spent_tested [] = (λ is. absurd (true≢false (sym is)), λ none. absurd none)
  spent_tested (change ∷ []) = (
    λ is.
        let parts =
        both_true (state.fill == slots) (state.generation == greatest_generation) is in
        record {
          all_used = eqb-true state.fill slots parts.0;
          last_generation = eqb-true state.generation greatest_generation parts.1;
        },
    λ spent.
        ap (λ b. b && (state.generation == greatest_generation))
        (eq-eqb state.fill slots spent.all_used)
        ∙ eq-eqb state.generation greatest_generation spent.last_generation,
  )
  spent_tested (first ∷ second ∷ more) = (
    λ is. eqb-true state.generation greatest_generation is,
    λ last. eq-eqb state.generation greatest_generation last,
  )

  module _ (changes : List Change) (no_place spent : Answer) where
    abbrev refused_by : Bool → Bool → Option Answer
    refused_by placeless last = cond placeless (Some no_place) (cond last (Some spent) None)

    placed : ¬ HaveNoPlace slots state changes → have_no_place slots state changes ≡ false
    placed has =
        false_from (have_no_place slots state changes)
        (λ is. has ((place_tested changes).0 is))

    pub refused_place : HaveNoPlace slots state changes
        → refusal_of no_place spent changes slots state ≡ Some no_place
    refused_place none =
        ap (λ b. refused_by b (are_spent slots state changes)) ((place_tested changes).1 none)

    pub refused_spent : ¬ HaveNoPlace slots state changes → HaveNoGeneration slots state changes
        → refusal_of no_place spent changes slots state ≡ Some spent
    refused_spent has none =
        ap (λ b. refused_by b (are_spent slots state changes)) (placed has)
        ∙ ap (refused_by false) ((spent_tested changes).1 none)

    pub not_refused : IsAccepted slots state changes
        → refusal_of no_place spent changes slots state ≡ None
    not_refused accepted =
        ap (λ b. refused_by b (are_spent slots state changes)) (placed accepted.has_place)
        ∙ ap (refused_by false)
        (false_from (are_spent slots state changes)
        (λ is. accepted.not_spent ((spent_tested changes).0 is)))

-- ---- the first number that passes

pub first_found : (test : ℕ → Bool) (from more place : ℕ) → from ≤ place → place < from + more
    → test place ≡ true → ((lower : ℕ) → lower < place → test lower ≡ false)
    → first_of test from more ≡ Some place
first_found test from zero place at within passes none = absurd (omega (arith, at, within))
first_found test from (suc more) place at within passes none =
    let next : Option ℕ = first_of test (from + 1) more in
    elim (cases_eq from place) [
      | inl here ↦
          ap (λ b. cond b (Some from) next) (ap test here ∙ passes) ∙ ap (λ n. Some n) here
      | inr away ↦
          ap (λ b. cond b (Some from) next) (none from (omega (arith, at, away)))
          ∙ first_found test (from + 1) more place (omega (arith, at, away))
          (omega (arith, within)) passes none
    ]

pub first_none : (test : ℕ → Bool) (from more : ℕ) → ((place : ℕ) → test place ≡ false)
    → first_of test from more ≡ None
first_none test from zero none = refl
first_none test from (suc more) none =
    ap (λ b. cond b (Some from) (first_of test (from + 1) more)) (none from)
    ∙ first_none test (from + 1) more none

listed_there : (earlier puts : List listed.Put) (place : ℕ)
    → is_put_again earlier (slice_get puts place) ≡ true → place < length puts
listed_there earlier [] place is = absurd (true≢false (sym is))
listed_there earlier (put ∷ puts) zero is = omega arith
listed_there earlier (put ∷ puts) (suc place) is =
    let within = listed_there earlier puts place is in omega (arith, within)

pub twice_within : (puts : List listed.Put) (place : ℕ) → is_twice puts place ≡ true
    → place < length puts
twice_within puts place is = listed_there _ puts place is

-- ---- what is looked for

-- tests of one thing are one
pub same_test : {P : Type 0} (a b : Bool) → (a ≡ true → P) × (P → a ≡ true)
    → (b ≡ true → P) × (P → b ≡ true) → a ≡ b
same_test true b first second = sym (second.1 (first.0 refl))
same_test false true first second = first.1 (second.0 refl)
same_test false false first second = refl

pub value_tested : (found : Option ℕ) (value : ℕ)
    → (has_value found value ≡ true → found ≡ Some value)
    × (found ≡ Some value → has_value found value ≡ true)
value_tested None value = (λ is. absurd (true≢false (sym is)), λ is. absurd (cc is))
value_tested (Some held) value = (
  λ is. ap (λ n. Some n) (eqb-true held value is),
  λ is. let same : held ≡ value = cc is in eq-eqb held value same,
)

pub all_tested : (puts : List listed.Put) (map : Map)
    → (has_all puts map ≡ true → HasAll puts map) × (HasAll puts map → has_all puts map ≡ true)
all_tested [] map = (λ is. tt, λ all. refl)
all_tested (put ∷ puts) map =
    let here = value_tested (map put.address) put.value in
    let rest = all_tested puts map in (
      λ is.
          let parts = both_true (has_value (map put.address) put.value) (has_all puts map) is in
          (here.0 parts.0, rest.0 parts.1),
      λ all. ap (λ b. b && has_all puts map) (here.1 all.0) ∙ rest.1 all.1,
    )

pub none_tested : (found : Option ℕ)
    → (not (is_some found) ≡ true → found ≡ None) × (found ≡ None → not (is_some found) ≡ true)
none_tested found = (none_is found, λ none. ap (λ one. not (is_some one)) none)

not_counted : (found : Option ℕ) (count : ℕ) → count ≡ cond (is_some found) 1 0 → count ≡ 0
    → found ≡ None
not_counted None count is none = refl
not_counted (Some value) count is none = absurd (omega (arith, is, none))

counts_none : (map : Map) (last address : ℕ) → live_to map last ≡ 0 → 1 ≤ address
    → address ≤ last → map address ≡ None
counts_none map zero address none from to = absurd (omega (arith, from, to))
counts_none map (suc last) address none from to =
    let counted = live_to-suc map last in
    elim (cases_eq address (suc last)) [
      | inl here ↦ ap map here ∙ not_counted (map (suc last)) _ refl (omega (arith, counted, none))
      | inr away ↦
          counts_none map last address (omega (arith, counted, none)) from
          (omega (arith, to, away))
    ]

-- a map that has values at proper addresses alone
pub emptied_tested : (map : Map) → ((address : ℕ) → ¬ IsAddress address → map address ≡ None)
    → ((live_in map == 0) ≡ true → IsEmptied map) × (IsEmptied map → (live_in map == 0) ≡ true)
emptied_tested map outside = (
  λ is address. elim (cases_lt 0 address) [
    | inl some ↦
        elim (cases_lt address 65535) [
          | inl below ↦
              counts_none map 65534 address (eqb-true (live_in map) 0 is) (omega (arith, some))
              (omega (arith, below))
          | inr above ↦
              outside address (λ proper. let least = proper.1 in omega (arith, least, above))
        ]
    | inr zeroth ↦
        outside address (λ proper. let least = proper.0 in omega (arith, least, zeroth))
  ],
  λ none. eq-eqb (live_in map) 0 (sym (live_in-nothing map none)),
)
