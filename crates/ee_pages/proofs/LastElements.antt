-- With no forgetting among the slots, the last element of an address says its value.
use Rattle.std.proofs.Common.{◌≡◌, ◌≢◌, inl, inr, ℕ, Option, Some, None, List, [], ◌∷◌, refl, ap, ◌∙◌, arith, suc, zero}
use Rattle.std.proofs.lemmas.Bool.{cases_eq, eq-eqb, ne_eqb}
use Rattle.ee_codec.specs.Reading.{slot_of}
use Rattle.ee_codec.specs.declared.slot.Slot.{Slot}
use Rattle.ee_codec.specs.declared.slot.Slot.TheVariants.{Free, Spoiled, Element, Forgotten, Foreign}
use Rattle.ee_flash.specs.declared.word.Word.{Word}
use Rattle.ee_pages.specs.Elements.{HasNoElement, HasNoForgetting, IsLastElement}
use Rattle.ee_pages.specs.Meaning.{later_of, latest_in, meaning, says, slot_says, value_said}

-- a slot that is neither an element of the address nor a forgetting says nothing of it
silent : (slot : Slot) (address : ℕ) → ((value : ℕ) → slot ≢ Element address value)
    → ((named value : ℕ) → slot ≢ Forgotten named value) → slot_says slot address ≡ None
silent Free address no_element no_forgetting = refl
silent Spoiled address no_element no_forgetting = refl
silent Foreign address no_element no_forgetting = refl
silent (Forgotten named value) address no_element no_forgetting =
    absurd (no_forgetting named value refl)
silent (Element named value) address no_element no_forgetting = elim (cases_eq named address) [
  | inl same ↦ absurd (no_element value (ap (λ n. Element n value) same))
  | inr apart ↦ rw (ne_eqb named address apart) refl
]

later-none : (said : Option (Option ℕ)) → said ≡ None → later_of None said ≡ None
later-none said e = rw e refl

pub none_said : (slots : List Word) (address : ℕ) → HasNoForgetting slots
    → HasNoElement slots address → latest_in slots address ≡ None
none_said [] address no_forgetting no_element = refl
none_said (slot ∷ slots) address no_forgetting no_element =
    let here : says slot address ≡ None =
    silent (slot_of slot) address (λ value. no_element 0 value)
    (λ named value. no_forgetting 0 named value) in
    let rest : latest_in slots address ≡ None =
    none_said slots address (λ number named value. no_forgetting (suc number) named value)
    (λ number value. no_element (suc number) value) in
    ap (λ said. later_of said (latest_in slots address)) here
    ∙ later-none (latest_in slots address) rest

element_says : (address value : ℕ) → slot_says (Element address value) address ≡ Some (Some value)
element_says address value = rw (eq-eqb address address refl) refl

pub last_said : (slots : List Word) (number address value : ℕ) → HasNoForgetting slots
    → IsLastElement slots number address value → latest_in slots address ≡ Some (Some value)
last_said [] number address value no_forgetting last = absurd (cc last.there)
last_said (slot ∷ slots) zero address value no_forgetting last =
    let rest : latest_in slots address ≡ None =
    none_said slots address (λ number named value. no_forgetting (suc number) named value)
    (λ number other. last.none_behind (suc number) other (omega arith)) in
    ap (later_of (says slot address)) rest ∙ ap (λ said. slot_says said address) last.there
    ∙ element_says address value
last_said (slot ∷ slots) (suc number) address value no_forgetting last =
    let rest : latest_in slots address ≡ Some (Some value) =
    last_said slots number address value (λ k named said. no_forgetting (suc k) named said)
    (record {
      there = last.there;
      none_behind = λ later other h. last.none_behind (suc later) other (omega arith);
    }) in
    ap (later_of (says slot address)) rest

pub last_element_counts_lem : (slots : List Word) (address : ℕ) → HasNoForgetting slots
    → ((number value : ℕ) → IsLastElement slots number address value
    → meaning slots address ≡ Some value)
    × (HasNoElement slots address → meaning slots address ≡ None)
last_element_counts_lem slots address no_forgetting = (
  λ number value last. ap value_said (last_said slots number address value no_forgetting last),
  λ none. ap value_said (none_said slots address no_forgetting none),
)
