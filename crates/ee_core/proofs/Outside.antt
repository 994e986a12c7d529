-- No slot says anything of a number that is no address.
use Rattle.ee_core.proofs.Words.{rules, ◌≡◌, ℕ, ◌≤◌, Bool, false, cond, None, List, [], ◌∷◌, refl, ap, arith, ◌&&◌, nat_lt, cases_eq, cases_lt}
use Rattle.ee_core.proofs.Sets.{IsAddress, Word, latest_in, meaning, says, slot_says, value_said}
use Rattle.std.proofs.lemmas.Bool.Decides.{nat_tests}
use Rattle.ee_codec.specs.declared.slot.Slot.{Slot}
use Rattle.ee_codec.specs.declared.slot.Slot.TheVariants.{Element, Forgotten, Foreign}

-- the test of a proper address
abbrev is_proper : ℕ → Bool
is_proper address = nat_lt 0 address && nat_lt address 65535

not_proper : (address : ℕ) → ¬ IsAddress address → is_proper address ≡ false
not_proper _ outside = search (rules, cases_lt, nat_tests)

element_other : (named value address : ℕ) → (named ≡ address → ⊥)
    → slot_says (Element named value) address ≡ None
element_other named value address other = search rules

forgotten_other : (named value address : ℕ) → (named ≡ address → ⊥)
    → slot_says (Forgotten named value) address ≡ None
forgotten_other named _ address other = search rules

one_of : (first second : Bool) (element forgotten : Slot) (address : ℕ)
    → slot_says element address ≡ None → slot_says forgotten address ≡ None
    → slot_says (cond first element (cond second forgotten Foreign)) address ≡ None
one_of _ _ _ _ _ h1 h2 = search rules

parts_outside : (named value : ℕ) (first second : Bool) (address : ℕ) → is_proper address ≡ false
    → slot_says
    (cond (is_proper named && first) (Element named value)
    (cond (is_proper named && second) (Forgotten named value) Foreign)) address
    ≡ None
parts_outside _ _ _ _ address outside =
    search (rules, cases_eq, element_other, forgotten_other, one_of)

says_outside : (word : Word) (address : ℕ) → is_proper address ≡ false → says word address ≡ None
says_outside _ _ h1 = search (rules, parts_outside)

latest_outside : (slots : List Word) (address : ℕ) → is_proper address ≡ false
    → latest_in slots address ≡ None
latest_outside [] _ _ = refl
latest_outside (slot ∷ slots) address outside =
    rw (says_outside slot address outside, latest_outside slots address outside) refl

pub meaning_outside : (slots : List Word) (address : ℕ) → ¬ IsAddress address
    → meaning slots address ≡ None
meaning_outside slots address outside =
    ap value_said (latest_outside slots address (not_proper address outside))

pub meaning-zero : (slots : List Word) → meaning slots 0 ≡ None
meaning-zero slots = meaning_outside slots 0 (λ proper. omega arith)

pub meaning-above : (slots : List Word) (address : ℕ) → 65535 ≤ address
    → meaning slots address ≡ None
meaning-above slots address above = meaning_outside slots address (λ proper. omega arith)
