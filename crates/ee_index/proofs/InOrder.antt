-- What a search among entries in order finds, and what a change of one of them leaves.
use Rattle.std.proofs.Common.{◌≡◌, ◌≢◌, inl, inr, ℕ, ◌+◌, ◌<◌, ◌≤◌, Bool, cond, true, false, Some, None, Result, Ok, Err, IfOk, IfErr, is_ok, is_some, List, [], ◌∷◌, ◌-◌, length, take, drop, set, get_or, refl, sym, ap, ◌∙◌, arith, suc, zero, rules}
use Rattle.std.proofs.lemmas.Bool.{cases_eq}
use Rattle.std.proofs.lemmas.Grind.{common_steps}
use Rattle.std.proofs.lemmas.Bool.Decides.{nat_tests}
use Rattle.std.proofs.lemmas.Cmp.{ranked}
use Rattle.std.proofs.lemmas.List.{get_or-map}
use Rattle.std.proofs.lemmas.List.Sorted.{IsNonDecreasingBy-from_default}
use Rattle.std.proofs.lemmas.Map.Entries.{length-keys_of}
use Rattle.std.proofs.lemmas.Map.Keys.{below_from_sorted, sorted_tail}
use Rattle.std.specs.Cmp.{nat_cmp_is}
use Rattle.std.specs.List.{AllByRecursion, filter, insert, remove}
use Rattle.std.specs.List.Sorted.{IsBinarySearchResult, IsNonDecreasingBy, IsSearchInRange, IsStrictlySortedBy}
use Rattle.std.specs.Map.{keys_of}
use Rattle.std.specs.Ordering.{nat_cmp, ordering_index}
use Rattle.std.specs.declared.cmp.Ordering.TheVariants.{Less}
use Rattle.ee_pages.specs.Meaning.{Forget, Map, Put, map_after}
use Rattle.ee_index.specs.Entries.{AreAbove, AreInOrder, StandsAt, WouldStandAt, address_at}
use Rattle.ee_index.specs.Index.{slot_for}
use Rattle.ee_index.proofs.IndexReaders.{absent_to, none_unless, put_elsewhere, put_there}
use Rattle.ee_index.proofs.IndexedStores.{as_put}

-- ---- places

abbrev slot_at : List (ℕ × ℕ) → ℕ → ℕ
slot_at entries place = (get_or entries place (0, 0)).1

module _ (entries : List (ℕ × ℕ)) (ordered : AreInOrder entries) where
  pub rises : (before behind : ℕ) → before < behind → behind < length entries
      → address_at entries before < address_at entries behind
  rises before behind low within =
      let first =
      get_or-map (λ (entry : ℕ × ℕ). entry.0) entries before (0, 0) 0
      (omega (arith, low, within)) in
      let second = get_or-map (λ (entry : ℕ × ℕ). entry.0) entries behind (0, 0) 0 within in
      grind (arith, common_steps, below_from_sorted, length-keys_of)

  pub stands_at : (address place : ℕ) → place < length entries → address_at entries place ≡ address
      → StandsAt entries address place
  stands_at address place within here = search (rules, rises)

  comparisons_rise : (address : ℕ)
      → IsNonDecreasingBy (λ (entry : ℕ × ℕ). ordering_index (nat_cmp entry.0 address)) entries
  comparisons_rise address =
      IsNonDecreasingBy-from_default (λ (entry : ℕ × ℕ). ordering_index (nat_cmp entry.0 address))
      entries (0, 0) (λ i j le in_range.
      let keys_rise : address_at entries i ≤ address_at entries j =
      grind (arith, rises i j, λ (same : i ≡ j). ap (address_at entries) same) in
      grind (arith, nat_tests))

  pub searched : (address : ℕ) (r : Result ℕ ℕ) → IsSearchInRange r (length entries)
      → IsBinarySearchResult (λ (entry : ℕ × ℕ). nat_cmp entry.0 address) entries r
      → record {
        found : IfOk r (StandsAt entries address);
        absent : IfErr r (WouldStandAt entries address);
      }
  searched address (Ok at) in_range equal = record {
    found =
        stands_at address at in_range (ranked _ address _ (sym (equal (0, 0))));
    absent = tt;
  }
  searched address (Err at) in_range parted = record {
    found = tt;
    absent = record {
      within = in_range;
      below =
          λ j lt. ranked _ address _
          (sym ((parted (comparisons_rise address)).0 j (0, 0) (omega arith) lt));
      above =
          λ j le lt.
          ranked _ address _ (sym ((parted (comparisons_rise address)).1 j (0, 0) le lt));
    };
  }

-- in what is left behind the first, an entry stands one place lower
rest_stands : (first : ℕ × ℕ) (rest : List (ℕ × ℕ)) (address place : ℕ)
    → StandsAt (first ∷ rest) address (suc place) → StandsAt rest address place
rest_stands first rest address place here = record {
  within = omega (arith, here.within);
  here = here.here;
  below = λ before low. here.below (suc before) (omega (arith, low));
  above = λ behind high end. here.above (suc behind) (omega (arith, high)) (omega (arith, end));
}

rest_would_stand : (first : ℕ × ℕ) (rest : List (ℕ × ℕ)) (address place : ℕ)
    → WouldStandAt (first ∷ rest) address (suc place) → WouldStandAt rest address place
rest_would_stand first rest address place here = record {
  within = omega (arith, here.within);
  below = λ before low. here.below (suc before) (omega (arith, low));
  above = λ behind high end. here.above (suc behind) (omega (arith, high)) (omega (arith, end));
}

first_apart : (first : ℕ × ℕ) (rest : List (ℕ × ℕ)) (address place : ℕ)
    → StandsAt (first ∷ rest) address (suc place) → first.0 < address
first_apart first rest address place here = here.below 0 (omega arith)

-- ---- what stands there

pub slot_found : (entries : List (ℕ × ℕ)) (address place : ℕ) → StandsAt entries address place
    → slot_for entries address ≡ Some (slot_at entries place)
slot_found [] address place here = absurd (omega (arith, here.within))
slot_found (first ∷ rest) address zero here = put_there first rest address here.here
slot_found (first ∷ rest) address (suc place) here =
    let low = first_apart first rest address place here in
    put_elsewhere first rest address (λ e. omega (arith, low, e))
    ∙ slot_found rest address place (rest_stands first rest address place here)

none_listed : (entries : List (ℕ × ℕ)) (address : ℕ)
    → ((place : ℕ) → place < length entries → address_at entries place ≢ address)
    → slot_for entries address ≡ None
none_listed [] _ _ = refl
none_listed (first ∷ rest) address apart =
    put_elsewhere first rest address (apart 0 (omega arith))
    ∙ none_listed rest address (λ place within. apart (suc place) (omega (arith, within)))

pub none_found : (entries : List (ℕ × ℕ)) (address place : ℕ) → WouldStandAt entries address place
    → slot_for entries address ≡ None
none_found entries address place gap = search (rules, none_listed)

-- ---- the part above an address

held_at : (entries : List (ℕ × ℕ)) (above address : ℕ)
    → ((place : ℕ) → place < length entries → above < address_at entries place)
    → is_some (slot_for entries address) ≡ true → above < address
held_at [] above address high held = absurd (cc held)
held_at (first ∷ rest) above address high held = elim (cases_eq first.0 address) [
  | inl same ↦ omega (arith, high 0 (omega arith), same)
  | inr apart ↦ held_at rest above address
      (λ place within. high (suc place) (omega (arith, within))) (search rules)
]

pub part_above : (entries : List (ℕ × ℕ)) (above start : ℕ) → AreInOrder entries
    → ((place : ℕ) → place < start → place < length entries → address_at entries place ≤ above)
    → ((place : ℕ) → start ≤ place → place < length entries → above < address_at entries place)
    → AreAbove above entries (drop start entries)
part_above entries above zero ordered low high = search (rules, held_at)
part_above [] above (suc start) ordered low high = search rules
part_above (first ∷ rest) above (suc start) ordered low high =
    let part =
    part_above rest above start (sorted_tail nat_cmp first.0 (keys_of rest) ordered)
    (λ place h within. low (suc place) (omega (arith, h)) (omega (arith, within)))
    (λ place h within. high (suc place) (omega (arith, h)) (omega (arith, within))) in
    let under = low 0 (omega arith) (omega arith) in
    search rules

-- the entries from a place on, as a slice has them
from_place : (entries : List (ℕ × ℕ)) (above start : ℕ)
    → AreAbove above entries (drop start entries)
    → AreAbove above entries (take (length entries - start) (drop start entries))
from_place entries above start part = grind (arith, common_steps)

pub above_found : (entries : List (ℕ × ℕ)) (address place : ℕ) → AreInOrder entries
    → StandsAt entries address place
    → AreAbove address entries (take (length entries - (place + 1)) (drop (place + 1) entries))
above_found entries address place ordered here =
    from_place entries address (place + 1) (part_above entries address (place + 1) ordered
    (search rules)
    (search rules))

pub above_gap : (entries : List (ℕ × ℕ)) (address place : ℕ) → AreInOrder entries
    → WouldStandAt entries address place
    → AreAbove address entries (take (length entries - place) (drop place entries))
above_gap entries address place ordered gap =
    from_place entries address place
    (part_above entries address place ordered (λ at low within. omega (arith, gap.below at low))
    gap.above)

-- ---- an entry is set, put in or taken out

later_alike : (first : ℕ × ℕ) (old new : List (ℕ × ℕ)) (named : ℕ) (change : Map → Map)
    → ((map : Map) → change map first.0 ≡ map first.0)
    → ((before after : Map) → before named ≡ after named → change before named ≡ change after named)
    → slot_for new named ≡ change (slot_for old) named
    → slot_for (first ∷ new) named ≡ change (slot_for (first ∷ old)) named
later_alike first old new named change keeps alike later = search rules

put_keeps : (address slot named : ℕ) (map : Map) → address ≢ named
    → map_after (Put address slot) map named ≡ map named
put_keeps address slot named map apart = grind (arith, common_steps, apart)

put_alike : (address slot named : ℕ) (before after : Map) → before named ≡ after named
    → map_after (Put address slot) before named ≡ map_after (Put address slot) after named
put_alike address slot named before after e = search rules

forget_alike : (address named : ℕ) (before after : Map) → before named ≡ after named
    → map_after (Forget address) before named ≡ map_after (Forget address) after named
forget_alike address named before after e = search rules

module _ (address slot : ℕ) where
  pub slots_set : (entries : List (ℕ × ℕ)) (place : ℕ) → StandsAt entries address place
      → (named : ℕ)
      → slot_for (set entries place (address, slot)) named
      ≡ map_after (Put address slot) (slot_for entries) named
  slots_set [] place here named = absurd (omega (arith, here.within))
  slots_set (first ∷ rest) zero here named = search rules
  slots_set (first ∷ rest) (suc place) here named =
      let low = first_apart first rest address place here in
      search (
        rules,
        later_alike,
        set,
        put_keeps,
        put_alike,
        rest_stands,
        (slots_set rest place (rest_stands first rest address place here) named),
      )

  pub keys_set : (entries : List (ℕ × ℕ)) (place : ℕ) → StandsAt entries address place
      → keys_of (set entries place (address, slot)) ≡ keys_of entries
  keys_set [] place here = absurd (omega (arith, here.within))
  keys_set (first ∷ rest) zero here = search rules
  keys_set (first ∷ rest) (suc place) here =
      ap (λ (keys : List ℕ). first.0 ∷ keys)
      (keys_set rest place (rest_stands first rest address place here))

  pub ordered_set : (entries : List (ℕ × ℕ)) (place : ℕ) → AreInOrder entries
      → StandsAt entries address place → AreInOrder (set entries place (address, slot))
  ordered_set entries place ordered here = search (rules, keys_set)

  pub slots_put : (entries : List (ℕ × ℕ)) (place : ℕ) → WouldStandAt entries address place
      → (named : ℕ)
      → slot_for (insert entries place (address, slot)) named
      ≡ map_after (Put address slot) (slot_for entries) named
  slots_put entries zero _ named = as_put (address, slot) entries named
  slots_put [] (suc place) gap named = absurd (omega (arith, gap.within))
  slots_put (first ∷ rest) (suc place) gap named =
      let low = gap.below 0 (omega arith) in
      search (
        rules,
        later_alike,
        put_keeps,
        put_alike,
        rest_would_stand,
        (slots_put rest place (rest_would_stand first rest address place gap) named),
      )

  all_put : (P : ℕ → Type 0) (entries : List (ℕ × ℕ)) (place : ℕ) → P address
      → AllByRecursion P (keys_of entries)
      → AllByRecursion P (keys_of (insert entries place (address, slot)))
  all_put P _ zero here all = (here, all)
  all_put P [] (suc _) here _ = (here, tt)
  all_put P (_ ∷ rest) (suc place) here all = (all.0, all_put P rest place here all.1)

  all_above : (entries : List (ℕ × ℕ))
      → ((place : ℕ) → place < length entries → address < address_at entries place)
      → AllByRecursion (λ (key : ℕ). nat_cmp address key ≡ Less) (keys_of entries)
  all_above [] _ = tt
  all_above (first ∷ rest) high = (
    sym (nat_cmp_is address first.0 Less (high 0 (omega arith))),
    all_above rest (λ place within. high (suc place) (omega (arith, within))),
  )

  pub ordered_put : (entries : List (ℕ × ℕ)) (place : ℕ) → AreInOrder entries
      → WouldStandAt entries address place → AreInOrder (insert entries place (address, slot))
  unfolding IsStrictlySortedBy
  ordered_put entries zero ordered gap = search (rules, all_above)
  ordered_put [] (suc place) ordered gap = absurd (omega (arith, gap.within))
  ordered_put (first ∷ rest) (suc place) ordered gap = (
    all_put (λ (key : ℕ). nat_cmp first.0 key ≡ Less) rest place
        (sym (nat_cmp_is first.0 address Less (gap.below 0 (omega arith)))) ordered.0,
    ordered_put rest place ordered.1 (rest_would_stand first rest address place gap),
  )

-- one is taken out
pub slots_left : (entries : List (ℕ × ℕ)) (address place : ℕ) → AreInOrder entries
    → StandsAt entries address place → (named : ℕ)
    → slot_for (remove entries place) named ≡ map_after (Forget address) (slot_for entries) named
slots_left [] address place ordered here named = absurd (omega (arith, here.within))
slots_left (first ∷ rest) address zero ordered here named = elim (cases_eq first.0 named) [
  | inl same ↦
      none_unless (slot_for rest named) (search (rules, absent_to))
      ∙ grind (arith, common_steps, same, here.here)
  | inr apart ↦
      search rules
]
slots_left (first ∷ rest) address (suc place) ordered here named =
    let low = first_apart first rest address place here in
    later_alike first rest (remove rest place) named (map_after (Forget address)) (search rules)
    (forget_alike address named)
    (slots_left rest address place (search (rules, sorted_tail))
    (rest_stands first rest address place here) named)

all_left : (P : ℕ → Type 0) (entries : List (ℕ × ℕ)) (place : ℕ)
    → AllByRecursion P (keys_of entries) → AllByRecursion P (keys_of (remove entries place))
all_left P [] zero _ = tt
all_left P [] (suc _) _ = tt
all_left P (_ ∷ _) zero all = all.1
all_left P (_ ∷ rest) (suc place) all = (all.0, all_left P rest place all.1)

pub ordered_left : (entries : List (ℕ × ℕ)) (place : ℕ) → AreInOrder entries
    → place < length entries → AreInOrder (remove entries place)
unfolding IsStrictlySortedBy
ordered_left [] place ordered within = absurd (omega (arith, within))
ordered_left (_ ∷ _) zero ordered _ = ordered.1
ordered_left (first ∷ rest) (suc place) ordered within = (
  all_left
      (λ (key : ℕ). nat_cmp first.0 key ≡ Less) rest place ordered.0,
  ordered_left rest place ordered.1 (omega (arith, within)),
)

-- some stay
module _ (stays : ℕ × ℕ → Bool) where
  all_kept : (P : ℕ → Type 0) (entries : List (ℕ × ℕ)) → AllByRecursion P (keys_of entries)
      → AllByRecursion P (keys_of (filter stays entries))
  all_kept P [] all = all
  all_kept P (first ∷ rest) all = search (rules, (all_kept P rest all.1))

  pub ordered_kept : (entries : List (ℕ × ℕ)) → AreInOrder entries
      → AreInOrder (filter stays entries)
  unfolding IsStrictlySortedBy
  ordered_kept [] ordered = ordered
  ordered_kept (first ∷ rest) ordered = by (stays first) (ordered_kept rest ordered.1)
    where
      by : (b : Bool) → AreInOrder (filter stays rest)
          → AreInOrder (cond b (first ∷ filter stays rest) (filter stays rest))
      by true later = search (rules, all_kept)
      by false later = later

-- ---- none, some, and which

pub none_ordered : (entries : List (ℕ × ℕ)) → entries ≡ [] → AreInOrder entries
unfolding IsStrictlySortedBy
none_ordered entries none = rw none tt

pub found_or_not : (entries : List (ℕ × ℕ)) (address : ℕ) (r : Result ℕ ℕ)
    → IfOk r (StandsAt entries address) → IfErr r (WouldStandAt entries address)
    → is_ok r ≡ is_some (slot_for entries address)
found_or_not entries address (Ok place) found _ =
    ap is_some (sym (slot_found entries address place found))
found_or_not entries address (Err place) _ absent =
    ap is_some (sym (none_found entries address place absent))

pub absent_left : (entries : List (ℕ × ℕ)) (address place : ℕ) → WouldStandAt entries address place
    → (named : ℕ) → slot_for entries named ≡ map_after (Forget address) (slot_for entries) named
absent_left entries address place gap named = elim (cases_eq address named) [
  | inl same ↦ ap (slot_for entries) (sym same) ∙ none_found entries address place gap
      ∙ grind (arith, common_steps, same)
  | inr apart ↦ search rules
]
