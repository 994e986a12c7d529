-- Lists of two values or more: when one is refused, and how many addresses have a value with it.
use Rattle.ee_core.proofs.Words.{rules, ◌≡◌, ℕ, ◌+◌, ◌<◌, ◌≤◌, true, false, Bool, cond, Some, is_some, List, [], ◌∷◌, length, get_or, take, refl, sym, ap, arith, suc, zero, length-append, ◌==◌, slice_get, ne_eqb, slice_get_read}
use Rattle.ee_core.proofs.Sets.{IsAddress, Device, IsOn, Map, Put, changed_by, live_in, live_to, change_counts, live_to-zero, live_to-suc, neither}
use Rattle.ee_core.proofs.Calls.{HaveNoGeneration, HaveNoPlace, NeedsTransfer, Proceeds, greatest_generation, elements_of, map_without, put_words, AreApart, names, puts_of, State, capacity, state_of}
use Rattle.ee_core.specs.declared.change.Put as listed
use Rattle.ee_core.proofs.CopiedMaps.{apart, changed_by-other}
use Rattle.ee_core.proofs.Fillings.{length-put_words, map_with_more}
use Rattle.ee_core.proofs.ShownStates.{moved_words_are_live_lem}

-- ---- what several values ask for

module _ (slots : ℕ) (state : State) where
  abbrev with_all : List listed.Put → ℕ
  with_all puts = live_in (changed_by (puts_of puts) state.map)

  pub no_place : (puts : List listed.Put) → 1 < length puts → slots < with_all puts
      → HaveNoPlace slots state (puts_of puts)
  no_place [] several more = absurd (omega arith)
  no_place (put ∷ []) several more = absurd (omega arith)
  no_place (first ∷ second ∷ puts) several more = more

  pub some_place : (puts : List listed.Put) → 1 < length puts → with_all puts ≤ slots
      → ¬ HaveNoPlace slots state (puts_of puts)
  some_place [] _ _ none = absurd (omega arith)
  some_place (put ∷ []) several fits none = absurd (omega arith)
  some_place (first ∷ second ∷ puts) several fits none = omega arith

  pub no_generation : (puts : List listed.Put) → 1 < length puts
      → state.generation ≡ greatest_generation → HaveNoGeneration slots state (puts_of puts)
  no_generation [] several last = absurd (omega arith)
  no_generation (put ∷ []) several last = absurd (omega arith)
  no_generation (first ∷ second ∷ puts) several last = last

  pub some_generation : (puts : List listed.Put) → 1 < length puts
      → ¬ (state.generation ≡ greatest_generation) → ¬ HaveNoGeneration slots state (puts_of puts)
  some_generation [] _ _ none = absurd (omega arith)
  some_generation (put ∷ []) several left none = absurd (omega arith)
  some_generation (first ∷ second ∷ puts) several left none = left none

  pub needs_transfer : (puts : List listed.Put) → 1 < length puts
      → NeedsTransfer slots state (puts_of puts)
  needs_transfer [] several = absurd (omega arith)
  needs_transfer (put ∷ []) several = absurd (omega arith)
  needs_transfer (first ∷ second ∷ puts) several = tt

pub several_proceed : (device : Device) (puts : List listed.Put) → IsOn device → 1 < length puts
    → live_in (changed_by (puts_of puts) (state_of device).map) ≤ capacity device
    → ¬ ((state_of device).generation ≡ greatest_generation) → Proceeds device (puts_of puts)
several_proceed _ puts on several fits left = search (some_place, some_generation)

-- ---- how many addresses have a value with them

-- no more than there are addresses
pub live_few : (map : Map) (n : ℕ) → live_to map n ≤ n
live_few map zero = omega (arith, live_to-zero map)
live_few map (suc n) = omega (arith, live_to-suc map n, live_few map n, few (is_some (map (suc n))))
  where
    few : (held : Bool) → cond held 1 0 ≤ 1
    few true = omega arith
    few false = omega arith

-- each value needs a place of its own
pub puts_within : (puts : List listed.Put) (map : Map) → AreApart (puts_of puts)
    → length puts ≤ live_in (changed_by (puts_of puts) map)
puts_within puts map each =
    omega (
      arith,
      moved_words_are_live_lem (puts_of puts) map each,
      length-append (put_words (puts_of puts)) (elements_of (map_without (puts_of puts) map)),
      length-put_words puts,
    )

not_named : (puts : List listed.Put) (place named : ℕ) (put : listed.Put)
    → names (puts_of puts) named ≡ false → slice_get puts place ≡ Some put
    → (put.address == named) ≡ false
not_named [] _ _ _ _ is = absurd (cc is)
not_named (first ∷ _) zero named put none is =
    let same : first ≡ put = cc is in
    search (rules, neither)
not_named (first ∷ puts) (suc place) named put none is =
    not_named puts place named put (neither _ _ none).1 is

-- the address of an entry is proper, and no earlier entry has it
pub new_before : (puts : List listed.Put) (place : ℕ) (put : listed.Put) → AreApart (puts_of puts)
    → slice_get puts place ≡ Some put
    → IsAddress put.address × (names (puts_of (take place puts)) put.address ≡ false)
new_before [] _ _ _ is = absurd (cc is)
new_before (first ∷ _) zero put each is =
    let same : first ≡ put = cc is in
    search rules
new_before (first ∷ puts) (suc place) put each is =
    let later = new_before puts place put each.2 is in
    let away = not_named puts place first.address put each.1 is in
    let here = ne_eqb first.address put.address (λ e. apart _ _ away e) in
    (later.0, rw here later.1)

module _ (map : Map) (puts : List listed.Put) (each : AreApart (puts_of puts)) (place : ℕ)
    (put : listed.Put) (within : place < length puts) (is : put ≡ get_or puts place put) where
  abbrev so_far : Map
  so_far = changed_by (puts_of (take place puts)) map

  -- one value more
  pub one_counted : live_in (changed_by (puts_of (take (place + 1) puts)) map)
      ≡ live_in so_far + cond (is_some (map put.address)) 0 1
  one_counted =
      let there = new_before puts place put each (slice_get_read _ _ _ _ refl within is) in
      let counts = change_counts (Put put.address put.value) so_far there.0 in
      let as_before = changed_by-other (puts_of (take place puts)) map put.address there.1 in
      search (rules, map_with_more)

-- a list of one value
pub one_listed : (puts : List listed.Put) (put : listed.Put) → length puts ≡ 1
    → put ≡ get_or puts 0 put → puts ≡ put ∷ []
one_listed [] _ long is = absurd (omega arith)
one_listed (first ∷ []) put long is = ap (λ one. one ∷ []) (sym is)
one_listed (first ∷ second ∷ more) put long is = absurd (omega arith)
