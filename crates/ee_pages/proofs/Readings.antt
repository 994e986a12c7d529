-- What a reading shows of the word of a slot.
use Rattle.std.proofs.Common.{◌≡◌, ◌⊎◌, inl, inr, ℕ, ◌/◌, ◌%◌, ◌^◌, Option, None, Some, refl, sym, subst, ap, ◌∙◌, arith}
use Rattle.std.proofs.lemmas.Grind.{common_steps}
use Rattle.std.proofs.lemmas.Bool.{cases_lt}
use Rattle.std.specs.Prelude.{◌≢◌}
use Rattle.ee_codec.specs.Reading.{slot_of}
use Rattle.ee_codec.specs.Words.{IsAddress}
use Rattle.ee_codec.specs.declared.slot.Slot.{Slot}
use Rattle.ee_codec.specs.declared.slot.Slot.TheVariants.{Free, Spoiled, Element, Forgotten, Foreign}
use Rattle.ee_flash.specs.Numbers.{IsSlotNumber}
use Rattle.ee_flash.specs.Runs.{IsShownBy, number_of}
use Rattle.ee_flash.specs.declared.word.Word.{Word}
use Rattle.ee_flash.specs.declared.word.Word.TheVariants.{Erased, Held, Torn}
use Rattle.ee_pages.specs.Meaning.{says, slot_says}
use Rattle.ee_pages.specs.Nearest.{Named, slot_names}
use Rattle.ee_pages.proofs.BatchLists.{names_by}

-- ---- words by their numbers

pub says_by_number : (word : Word) (address : ℕ)
    → says (Held (number_of word)) address ≡ says word address
says_by_number Erased address = refl
says_by_number Torn address = refl
says_by_number (Held number) address = refl

-- a number says nothing of an address that it doesn't end in
pub says_other : (number address : ℕ) → number % 2 ^ 16 ≢ address
    → says (Held number) address ≡ None
says_other number address other = grind (arith, common_steps)

-- what a word says of the address that its reading ends in
pub said_of : (word : Word) (reading address : ℕ) (said : Option (Option ℕ)) → IsAddress address
    → reading % 2 ^ 16 ≡ address
    → (IsAddress (reading % 2 ^ 16) → said ≡ says word (reading % 2 ^ 16))
    → says word address ≡ said
said_of word reading address said proper ends is =
    sym (is (subst IsAddress (sym ends) proper) ∙ ap (says word) ends)

-- the value that a number says, whatever the address
pub value_by_number : (number address value : ℕ) → says (Held number) address ≡ Some (Some value)
    → number / 2 ^ 32 ≡ value
value_by_number number address value said = grind (arith, common_steps)

pub names_by_number : (word : Word)
    → slot_names (slot_of (Held (number_of word))) ≡ slot_names (slot_of word)
names_by_number Erased = refl
names_by_number Torn = refl
names_by_number (Held number) = refl

-- ---- a number that is no slot's

pub slot_or_not : (number : ℕ) → (IsSlotNumber number → ⊥) ⊎ IsSlotNumber number
slot_or_not number = elim (cases_lt (number % 2 ^ 32) (2 ^ 17)) [
  | inl low ↦ elim (cases_lt 0 (number % 2 ^ 16)) [
    | inl some ↦ inr (low, some)
    | inr none ↦ inl (λ slot. let some = slot.1 in omega (arith, some, none))
  ]
  | inr high ↦ inl (λ slot. let low = slot.0 in omega (arith, low, high))
]

named_number : (number : ℕ) (name : Named) → slot_names (slot_of (Held number)) ≡ Some name
    → IsSlotNumber number
named_number number name is =
    let names = names_by number name is in
    let kind = names.kind in
    let some = names.proper.0 in
    (omega (arith, kind), some)

unnamed_by : (number : ℕ) (named : Option Named) → slot_names (slot_of (Held number)) ≡ named
    → (IsSlotNumber number → ⊥) → slot_names (slot_of (Held number)) ≡ None
unnamed_by number None is none = is
unnamed_by number (Some name) is none = absurd (none (named_number number name is))

pub names_nothing : (word : Word) → (IsSlotNumber (number_of word) → ⊥)
    → slot_names (slot_of word) ≡ None
names_nothing Erased none = refl
names_nothing Torn none = refl
names_nothing (Held number) none = unnamed_by number (slot_names (slot_of (Held number))) refl none

unnamed_silent : (slot : Slot) (address : ℕ) → slot_names slot ≡ None → slot_says slot address ≡ None
unnamed_silent Free address none = refl
unnamed_silent Spoiled address none = refl
unnamed_silent Foreign address none = refl
unnamed_silent (Element named value) address none = absurd (cc none)
unnamed_silent (Forgotten named value) address none = absurd (cc none)

-- ---- a word by its reading

says_by_other : (word : Word) (address : ℕ) → number_of word % 2 ^ 16 ≢ address
    → says word address ≡ None
says_by_other Erased address other = refl
says_by_other Torn address other = refl
says_by_other (Held number) address other = says_other number address other

-- it says nothing of an address that its reading doesn't end in
pub silent_by : (word : Word) (reading address : ℕ) → IsShownBy word reading
    → reading % 2 ^ 16 ≢ address → says word address ≡ None
silent_by word reading address shown other = elim (slot_or_not (number_of word)) [
  | inl none ↦ unnamed_silent (slot_of word) address (names_nothing word none)
  | inr slot ↦ says_by_other word address (λ same. other (shown.address slot ∙ same))
]
