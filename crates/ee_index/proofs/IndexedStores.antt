-- What a store with an index reads of it.
use Rattle.std.proofs.Common.{◌≡◌, ℕ, ◌<◌, ◌≤◌, Bool, cond, true, false, Option, Some, None, is_some, List, [], ◌∷◌, length, get_or, refl, sym, ap, ◌∙◌, arith, suc, zero, rules}
use Rattle.std.proofs.lemmas.Bool.{cases_eq}
use Rattle.std.proofs.lemmas.Bool.Decides.{nat_tests}
use Rattle.std.proofs.lemmas.Grind.{common_steps}
use Rattle.std.proofs.lemmas.Map.Keys.{sorted_head, sorted_tail}
use Rattle.std.specs.List.{AllByRecursion}
use Rattle.std.specs.List.Sorted.{IsStrictlySortedBy}
use Rattle.std.specs.Map.{keys_of}
use Rattle.std.specs.Ordering.{nat_cmp}
use Rattle.std.specs.declared.cmp.Ordering.TheVariants.{Less}
use Rattle.ee_flash.specs.Device.{Device}
use Rattle.ee_flash.specs.Size.{slot_count}
use Rattle.ee_flash.specs.declared.word.Word.{Word}
use Rattle.ee_flash.specs.declared.word.Word.TheVariants.{Erased, Held, Torn}
use Rattle.ee_codec.specs.Words.{IsAddress}
use Rattle.ee_pages.specs.Meaning.{Map, Put, map_after, live_in, live_to, meaning, says}
use Rattle.ee_pages.specs.Sets.{set_of, slots_of}
use Rattle.ee_pages.specs.declared.find.Layout.{Layout}
use Rattle.ee_pages.proofs.Public.{live_to-suc, live_to-zero, change_counts, length-slots}
use Rattle.ee_core.specs.State.{state_of}
use Rattle.ee_core.proofs.Public.{live_in-nothing}
use Rattle.ee_index.specs.Index.{HasIndex, said_at, says_value, slot_for}
use Rattle.ee_index.proofs.Indexing.{stands}

-- ---- as many entries as live addresses

pub alike : (first second : Map)
    → ((address : ℕ) → is_some (first address) ≡ is_some (second address)) → (n : ℕ)
    → live_to first n ≡ live_to second n
alike first second _ zero = live_to-zero first ∙ sym (live_to-zero second)
alike first second same (suc n) = search (rules, live_to-suc, (alike first second same n))

pub absent_above : (named : ℕ) (entries : List (ℕ × ℕ))
    → AllByRecursion (λ key. nat_cmp named key ≡ Less) (keys_of entries)
    → slot_for entries named ≡ None
absent_above _ [] _ = refl
absent_above named (first ∷ rest) above = rw above.0 (absent_above named rest above.1)

pub as_put : (first : ℕ × ℕ) (rest : List (ℕ × ℕ)) (address : ℕ)
    → slot_for (first ∷ rest) address ≡ map_after (Put first.0 first.1) (slot_for rest) address
as_put first rest address = search (rules, cases_eq, common_steps, nat_tests)

put_has : (named slot : ℕ) (index : Map) → is_some (map_after (Put named slot) index named) ≡ true
put_has named slot index = grind (arith, common_steps)

put_keeps : (named slot address : ℕ) (index : Map) → is_some (index address) ≡ true
    → is_some (map_after (Put named slot) index address) ≡ true
put_keeps named slot address index held = search (rules, cases_eq, common_steps)

pub count_of : (entries : List (ℕ × ℕ)) → IsStrictlySortedBy nat_cmp (keys_of entries)
    → ((address : ℕ) → is_some (slot_for entries address) ≡ true → IsAddress address)
    → length entries ≡ live_in (slot_for entries)
count_of [] _ _ = live_in-nothing (slot_for []) (λ address. refl)
count_of (first ∷ rest) sorted proper =
    let new : slot_for rest first.0 ≡ None = search (rules, absent_above, sorted_head) in
    let more =
    count_of rest (sorted_tail nat_cmp first.0 (keys_of rest) sorted)
    (λ address held. proper address
    (ap is_some (as_put first rest address)
    ∙ put_keeps first.0 first.1 address (slot_for rest) held)) in
    let here =
    proper first.0
    (ap is_some (as_put first rest first.0) ∙ put_has first.0 first.1 (slot_for rest)) in
    let counts = change_counts (Put first.0 first.1) (slot_for rest) here in
    search rules

-- and no more addresses than entries, whatever their order
pub few_of : (entries : List (ℕ × ℕ))
    → ((address : ℕ) → is_some (slot_for entries address) ≡ true → IsAddress address)
    → live_in (slot_for entries) ≤ length entries
few_of [] _ = omega (arith, live_in-nothing (slot_for []) (λ address. refl))
few_of (first ∷ rest) proper =
    let more =
    few_of rest
    (λ address held. proper address
    (ap is_some (as_put first rest address)
    ∙ put_keeps first.0 first.1 address (slot_for rest) held)) in
    let here =
    proper first.0
    (ap is_some (as_put first rest first.0) ∙ put_has first.0 first.1 (slot_for rest)) in
    let counts = change_counts (Put first.0 first.1) (slot_for rest) here in
    let same =
    alike (slot_for (first ∷ rest)) (map_after (Put first.0 first.1) (slot_for rest))
    (λ address. ap is_some (as_put first rest address)) 65534 in
    omega (arith, more, counts, same, at_most_one (is_some (slot_for rest first.0)))
  where
    at_most_one : (held : Bool) → cond held 0 1 ≤ 1
    at_most_one true = omega arith
    at_most_one false = omega arith

-- a word that says something of an address says it of a proper one
pub says_proper : (word : Word) (address : ℕ) (said : Option ℕ) → says word address ≡ Some said
    → IsAddress address
says_proper Erased address said e = absurd (cc e)
says_proper Torn address said e = absurd (cc e)
says_proper (Held number) address said e = grind (arith, nat_tests, common_steps, e)

-- ---- what the index says is what the map says

pub alike_held : (slots : List Word) (slot held : Option ℕ) (address : ℕ)
    → said_at slots slot address ≡ says_value held → is_some slot ≡ is_some held
alike_held _ None None _ _ = refl
alike_held slots None (Some value) address e = absurd (cc e)
alike_held slots (Some slot) None address e = absurd (cc e)
alike_held _ (Some _) (Some _) _ _ = refl

pub some_is : (slot : Option ℕ) → is_some slot ≡ true → (number : ℕ) × (slot ≡ Some number)
some_is None e = absurd (cc e)
some_is (Some number) _ = (number, refl)

module _ (device : Device) (layout : Layout) (entries : List (ℕ × ℕ))
    (kept : HasIndex device layout entries) where
  map_is : (address : ℕ)
      → (state_of device).map address ≡ meaning (slots_of (set_of layout.side device)) address
  map_is address = search rules

  pub same_live : (address : ℕ)
      → is_some (slot_for entries address) ≡ is_some ((state_of device).map address)
  same_live address = search (rules, alike_held, map_is)

  keys_proper : (address : ℕ) → is_some (slot_for entries address) ≡ true → IsAddress address
  keys_proper address held = search (rules, says_proper, some_is, stands)

  pub entries_live : IsStrictlySortedBy nat_cmp (keys_of entries)
      → length entries ≡ live_in (state_of device).map
  entries_live sorted = search (rules, count_of, keys_proper, alike, same_live)

  pub slot_in_range : (address number : ℕ) → slot_for entries address ≡ Some number
      → number < slot_count device.size
  slot_in_range address number e = grind (arith, common_steps, length-slots, stands)

  pub value_held : (address number value : ℕ) → slot_for entries address ≡ Some number
      → ((named said : ℕ)
      → says (get_or (slots_of (set_of layout.side device)) number Erased) named
      ≡ Some (Some said)
      → value ≡ said)
      → Some value ≡ (state_of device).map address
  value_held address number value e is =
      let here =
      stands (slots_of (set_of layout.side device)) (slot_for entries) kept.indexes address
      number e in
      search rules

  pub no_value : (address : ℕ) → is_some (slot_for entries address) ≡ false
      → (state_of device).map address ≡ None
  no_value address e = search rules
