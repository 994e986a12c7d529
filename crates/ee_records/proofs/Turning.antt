-- Which words change: one word more, that stands or that turns.
use Rattle.std.proofs.Common.{◌≡◌, ◌≢◌, ◌∙◌, ◌<◌, ◌≤◌, ◌+◌, ◌*◌, ◌/◌, ◌%◌, ◌^◌, ℕ, Some, List, inl, inr, sym, ap, subst, arith}
use Rattle.std.specs.Int.{w32}
use Rattle.std.specs.Prelude.{bit_or}
use Rattle.std.proofs.lemmas.Bool.{cases_eq}
use Rattle.std.proofs.lemmas.Nat.{one_shl, or_of_16, pow_below}
use Rattle.std.proofs.lemmas.Nat.Bits.{bit_at_ones, bit_at_or, bit_at_set_other, bit_at_set_same}
use Rattle.ee_pages.specs.Meaning.{Map}
use Rattle.ee_records.proofs.Held.{some_same}
use Rattle.ee_records.specs.Calls.{AreChanged, AreChangedIn, IsInPlace}
use Rattle.ee_records.specs.Record.{place, record_word, word_turn}
use Rattle.ee_records.specs.Steps.{AreUnchanged}

-- what sets the turn of a word
abbrev pub turn_bit : ℕ → ℕ
turn_bit word = 1 * 2 ^ (word % 16) % 2 ^ 32

turned_at : (turned word : ℕ) → word_turn (bit_or turned (turn_bit word)) word ≡ 1
turned_at turned word = bit_at_set_same w32 turned (word % 16) (omega arith)

unset : (turned words word : ℕ) → words % 16 ≢ word % 16
    → word_turn (bit_or turned (turn_bit words)) word ≡ 1 → word_turn turned word ≡ 1
unset turned words word ne e =
    sym (bit_at_set_other w32 turned (words % 16) (omega arith) (word % 16) (λ same. ne (sym same))) ∙ e

still_unturned : (turned mask word : ℕ) → word_turn (bit_or turned mask) word ≡ 0 → word_turn turned word ≡ 0
still_unturned turned mask word e = omega (arith, bit_at_or turned mask (word % 16), e)

pub turned_fits : (turned word : ℕ) → turned < 2 ^ 16 → bit_or turned (turn_bit word) < 2 ^ 16
turned_fits turned word h =
    or_of_16 turned (turn_bit word) h
    (omega (arith, one_shl (word % 16) 32 (omega arith), pow_below (word % 16) 16 (omega arith)))

one_not_zero : (t : ℕ) → t ≡ 1 → t ≡ 0 → ⊥
one_not_zero t h1 h2 = absurd (omega arith)

-- each of the sixteen turns is set
all_turn : (word : ℕ) → word_turn 65535 word ≡ 1
all_turn word = bit_at_ones 16 (word % 16) (omega arith)

pub changed_within : (map : Map) (base turns turned few words : ℕ) (bytes : List ℕ) → few ≤ words
    → AreChanged few map base bytes turns turned → AreChanged words map base bytes turns turned
changed_within map base turns turned few words bytes le changed = λ word e.
    let other = changed word e in (other.0, omega (arith, other.1, le), other.2, other.3)

module _ (map : Map) (base turns : ℕ) (bytes : List ℕ) (words : ℕ) where
  -- one word more that is in place
  pub more_unchanged : (turned : ℕ) → AreUnchanged words map base bytes turns turned
      → IsInPlace map base bytes turns words → AreUnchanged (words + 1) map base bytes turns turned
  more_unchanged turned before here = λ word low e.
      elim (cases_eq word words) [
        | inl same ↦ rw same here
        | inr ne ↦ before word (omega (arith, low, ne)) e
      ]

  -- one word more that turns
  pub more_turned : (turned : ℕ) → AreUnchanged words map base bytes turns turned
      → AreUnchanged (words + 1) map base bytes turns (bit_or turned (turn_bit words))
  more_turned turned before = λ word low e.
      elim (cases_eq word words) [
        | inl same ↦ absurd (one_not_zero _ (turned_at turned words) (rw same at e))
        | inr ne ↦ before word (omega (arith, low, ne)) (still_unturned turned (turn_bit words) word e)
      ]

  pub more_changed : (turned : ℕ) → AreChanged words map base bytes turns turned
      → ¬ IsInPlace map base bytes turns words
      → AreChanged (words + 1) map base bytes turns (bit_or turned (turn_bit words))
  more_changed turned before here = λ word e.
      elim (cases_eq (words % 16) (word % 16)) [
        | inl same ↦ (words, omega arith, same, here)
        | inr ne ↦
            let other = before word (unset turned words word ne e) in
            (other.0, omega (arith, other.1), other.2, other.3)
      ]

pub none_unchanged : (map : Map) (base turns words : ℕ) (bytes : List ℕ)
    → AreUnchanged words map base bytes turns 65535
none_unchanged map base turns words bytes = λ word low e. absurd (one_not_zero (word_turn 65535 word) (all_turn word) e)

pub changed_in : (map : Map) (base head words turned : ℕ) (bytes : List ℕ) → map base ≡ Some head
    → AreChanged words map base bytes (head / 65536) turned
    → AreChangedIn words map base bytes turned
changed_in map base head words turned bytes is changed = λ other e.
    subst (λ h. AreChanged words map base bytes (h / 65536) turned) (some_same head other (sym is ∙ e)) changed

pub not_in_place_here : (map : Map) (base turns : ℕ) (bytes : List ℕ) (word turn address value : ℕ)
    → turn ≡ word_turn turns word → address ≡ place base word turn → value ≡ record_word bytes word
    → map address ≢ Some value → ¬ IsInPlace map base bytes turns word
not_in_place_here map base turns bytes word turn address value e1 e2 e3 other there =
    other (ap map (e2 ∙ ap (place base word) e1) ∙ (there ∙ ap (λ v. Some v) (sym e3)))

pub in_place_here : (map : Map) (base turns : ℕ) (bytes : List ℕ) (word turn address value : ℕ)
    → turn ≡ word_turn turns word → address ≡ place base word turn → value ≡ record_word bytes word
    → map address ≡ Some value → IsInPlace map base bytes turns word
in_place_here map base turns bytes word turn address value e1 e2 e3 h =
    ap map (sym (e2 ∙ ap (place base word) e1)) ∙ h ∙ ap (λ v. Some v) e3
