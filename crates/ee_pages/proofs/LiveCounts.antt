-- How many addresses have a value.
use Rattle.ee_pages.specs.Sets.{fill_of}
use Rattle.ee_codec.specs.Words.{IsAddress}
use Rattle.std.proofs.Common.{◌≡◌, ◌≢◌, inl, inr, ℕ, ◌+◌, ◌<◌, ◌≤◌, Bool, true, false, cond, Some, None, is_some, List, [], ◌∷◌, refl, sym, ap, ◌∙◌, arith, suc, zero}
use Rattle.std.proofs.lemmas.Bool.{cases_eq}
use Rattle.std.proofs.lemmas.Grind.{common_steps}
use Rattle.ee_flash.specs.declared.word.Word.{Word}
use Rattle.ee_flash.specs.declared.word.Word.TheVariants.{Erased, Held, Torn}
use Rattle.ee_codec.specs.Reading.{slot_of}
use Rattle.ee_codec.specs.declared.slot.Slot.{Slot}
use Rattle.ee_codec.specs.declared.slot.Slot.TheVariants.{Free, Spoiled, Element, Forgotten, Foreign}
use Rattle.ee_pages.specs.Meaning.{Forget, Map, Put, map_after, latest_in, live_in, live_to, meaning, slot_says, value_said, Change}
use Rattle.ee_pages.specs.Pending.{IsCountAfter, address_of}
use Rattle.ee_pages.proofs.Counts.{gap_to, live_to-suc, live_to-zero}
use Rattle.ee_pages.proofs.LastSaid.{later-none}

one_or_none : (b : Bool) → cond b 1 0 ≤ 1
one_or_none true = omega arith
one_or_none false = omega arith

-- two maps that differ at one address at most
module _ (old new : Map) (named : ℕ)
    (else_same : (address : ℕ) → address ≢ named → new address ≡ old address) where
  below : (n : ℕ) → n < named → live_to new n ≡ live_to old n
  below zero h = live_to-zero new ∙ sym (live_to-zero old)
  below (suc n) h =
      let here : new (suc n) ≡ old (suc n) = else_same (suc n) (omega arith) in
      let rest = below n (omega arith) in
      live_to-suc new n ∙ rw (here, rest) (sym (live_to-suc old n))

  from : (n : ℕ) → 0 < named → named ≤ n
      → live_to new n + cond (is_some (old named)) 1 0
      ≡ live_to old n + cond (is_some (new named)) 1 0
  from zero some h = absurd (omega arith)
  from (suc n) some h = elim (cases_eq named (suc n)) [
    | inl same ↦
        let rest = below n (omega arith) in
        let e = live_to-suc new n in
        let f = live_to-suc old n in
        rw same (omega arith)
    | inr other ↦
        let here : new (suc n) ≡ old (suc n) = else_same (suc n) (λ e. other (sym e)) in
        let rest = from n some (omega arith) in
        let e = live_to-suc new n in
        let f : live_to old (suc n) ≡ live_to old n + cond (is_some (new (suc n))) 1 0 =
        live_to-suc old n ∙ rw here refl in
        omega arith
  ]

  one_at_most : (n : ℕ) → live_to new n ≤ live_to old n + 1
  one_at_most zero = let e = live_to-zero new in omega arith
  one_at_most (suc n) =
      let e = live_to-suc new n in
      let f = live_to-suc old n in
      elim (cases_eq (suc n) named) [
        | inl same ↦ let rest =
            below n (omega arith) in omega (arith, one_or_none (is_some (new (suc n))))
        | inr other ↦ let here = else_same (suc n) other in
            let rest = one_at_most n in omega (arith, rw here at e)
      ]

  -- an address more, or less, or as many
  pub live_in-differs : 0 < named → named < 65535
      → live_in new + cond (is_some (old named)) 1 0 ≡ live_in old + cond (is_some (new named)) 1 0
  live_in-differs some below_end = from 65534 some (omega arith)

put_elsewhere : (named value address : ℕ) (map : Map) → address ≢ named
    → map_after (Put named value) map address ≡ map address
put_elsewhere named value address map other = grind (arith, common_steps)

forget_elsewhere : (named address : ℕ) (map : Map) → address ≢ named
    → map_after (Forget named) map address ≡ map address
forget_elsewhere named address map other = grind (arith, common_steps)

pub put_there : (named value : ℕ) (map : Map) → map_after (Put named value) map named ≡ Some value
put_there named value map = grind (arith, common_steps)

forget_there : (named : ℕ) (map : Map) → map_after (Forget named) map named ≡ None
forget_there named map = grind (arith, common_steps)

put_count : (b : Bool) (old new : ℕ) → new + cond b 1 0 ≡ old + 1 → new ≡ old + cond b 0 1
put_count true old new e = omega arith
put_count false old new e = omega arith

pub change_counts : (change : Change) (map : Map) → IsAddress (address_of change)
    → IsCountAfter change map
change_counts (Put address value) map proper =
    let new = map_after (Put address value) map in
    let fact =
    live_in-differs map new address (λ other apart. put_elsewhere address value other map apart)
    proper.0 proper.1 in
    put_count (is_some (map address)) (live_in map) (live_in new)
    (rw (put_there address value map) at fact)
change_counts (Forget address) map proper =
    let new = map_after (Forget address) map in
    let fact =
    live_in-differs map new address (λ other apart. forget_elsewhere address other map apart)
    proper.0 proper.1 in
    let gone = forget_there address map in
    omega (arith, rw gone at fact)

-- the address of which a slot says something
abbrev named_by : Slot → ℕ
named_by (Element address value) = address
named_by (Forgotten address value) = address
named_by Free = 0
named_by Spoiled = 0
named_by Foreign = 0

silent_elsewhere : (slot : Slot) (address : ℕ) → address ≢ named_by slot
    → slot_says slot address ≡ None
silent_elsewhere (Element named value) address other = grind (arith, common_steps)
silent_elsewhere (Forgotten named value) address other = grind (arith, common_steps)
silent_elsewhere Free address other = refl
silent_elsewhere Spoiled address other = refl
silent_elsewhere Foreign address other = refl

-- a slot in front changes the map at one address at most
in_front : (slot : Word) (slots : List Word) (address : ℕ) → address ≢ named_by (slot_of slot)
    → meaning (slot ∷ slots) address ≡ meaning slots address
in_front slot slots address other =
    rw (silent_elsewhere (slot_of slot) address other)
    (ap value_said (later-none (latest_in slots address)))

erased_in_front : (slots : List Word) (address : ℕ)
    → meaning (Erased ∷ slots) address ≡ meaning slots address
erased_in_front slots address = ap value_said (later-none (latest_in slots address))

one_front : (slot : Word) (slots : List Word)
    → live_in (meaning (slot ∷ slots)) ≤ live_in (meaning slots) + 1
one_front slot slots =
    one_at_most (meaning slots) (meaning (slot ∷ slots)) (named_by (slot_of slot))
    (in_front slot slots) 65534

pub live_within_fill : (slots : List Word) → live_in (meaning slots) ≤ fill_of slots
live_within_fill [] =
    let none = gap_to (meaning []) 0 65534 (omega arith) (λ address low high. refl) in
    omega (arith, none, live_to-zero (meaning []))
live_within_fill (Erased ∷ slots) =
    let same =
    below (meaning slots) (meaning (Erased ∷ slots)) 65535
    (λ address other. erased_in_front slots address) 65534 (omega arith) in
    let rest = live_within_fill slots in
    omega (arith, same, rest)
live_within_fill (Held number ∷ slots) = let rest = live_within_fill slots in
    let one = one_front (Held number) slots in omega (arith, one, rest)
live_within_fill (Torn ∷ slots) = let rest = live_within_fill slots in
    let one = one_front Torn slots in omega (arith, one, rest)
