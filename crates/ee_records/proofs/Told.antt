-- A record of which one word is any other value is told.
use Rattle.std.proofs.Common.{◌≡◌, ◌≢◌, ◌∙◌, ◌<◌, ◌+◌, ◌*◌, ◌-◌, ◌/◌, ◌%◌, ℕ, Option, Some, None, List, inl, inr, sym, ap, subst, arith, length, slice_index}
use Rattle.std.proofs.lemmas.Bool.{cases_eq, cases_lt}
use Rattle.std.proofs.lemmas.List.{ext_get_or, get_or_past}
use Rattle.ee_pages.specs.Meaning.{Map}
use Rattle.ee_records.proofs.CheckWords.{same_check}
use Rattle.ee_records.proofs.Held.{some_same}
use Rattle.ee_records.proofs.Places.{turn_lt}
use Rattle.ee_records.proofs.RecordLaws.{one_byte, same_heads}
use Rattle.ee_records.proofs.WordBytes.{AreBytes, below_four, byte_in, split}
use Rattle.ee_records.specs.Check.{bytes_word, check_of, words_for}
use Rattle.ee_records.specs.Record.{HasByte, HoldsBytes, byte_of, head_of, place, place_by, word_turn}

byte_lt : (v : Option ℕ) (k b : ℕ) → HasByte v k b → b < 256
byte_lt None k b h = absurd h
byte_lt (Some v) k b h = omega (arith, h)

-- bytes that are held are bytes
held_bytes : (map : Map) (base room : ℕ) (bytes : List ℕ) → HoldsBytes map base room bytes
    → AreBytes bytes
held_bytes map base room bytes held = λ at.
    elim (cases_lt at (length bytes)) [
      | inl inside ↦
          byte_lt (map (place_by base held.turns (at / 4 + 1))) (at % 4) (slice_index bytes at)
          (held.each at inside)
      | inr past ↦ omega (arith, get_or_past bytes at 0 past)
    ]

four : (one other : List ℕ) (word : ℕ)
    → ((k : ℕ) → k < 4 → slice_index one (4 * word + k) ≡ slice_index other (4 * word + k))
    → bytes_word one word ≡ bytes_word other word
four one other word same =
    let at : 4 * word + 0 ≡ 4 * word = omega arith in
    let first = rw at at (same 0 (omega arith)) in
    omega (arith, first, same 1 (omega arith), same 2 (omega arith), same 3 (omega arith))

in_word : (word k : ℕ) → k < 4 → ((4 * word + k) / 4 ≡ word) × ((4 * word + k) % 4 ≡ k)
in_word word k low = (omega arith, omega arith)

-- the word of bytes to which an address belongs, if it isn't the base, nor of the check
word_at : (base word t address : ℕ) → t < 2 → place base (word + 1) t ≡ address
    → (address - base - 1) / 2 - 1 ≡ word
word_at base word t address h e = omega (arith, h, e)

never_check : (base word t u : ℕ) → t < 2 → u < 2 → place base (word + 1) t ≡ place base 0 u → ⊥
never_check base word t u h1 h2 e = absurd (omega arith)

module _ (old new : Map) (base room address : ℕ) (one other : List ℕ) (fits : room < 16384)
    (ne : address ≢ base) (rest : (at : ℕ) → at ≢ address → new at ≡ old at)
    (was : HoldsBytes old base room one) (held : HoldsBytes new base room other)
  where
    heads : (was.turns ≡ held.turns) × (length one ≡ length other)
    heads =
        same_heads was.turns (length one) held.turns (length other) (omega (arith, was.few, fits))
        (omega (arith, held.few, fits))
        (some_same (head_of was.turns (length one)) (head_of held.turns (length other))
        (sym was.head ∙ (sym (rest base (λ e. ne (sym e))) ∙ held.head)))

    -- where the value is as it was the byte is
    same_byte : (at : ℕ) → at < length one → place_by base was.turns (at / 4 + 1) ≢ address
        → slice_index one at ≡ slice_index other at
    same_byte at low away =
        let inside : at < length other = omega (arith, low, heads.1) in
        one_byte (old (place_by base was.turns (at / 4 + 1))) (at % 4) (slice_index one at)
        (slice_index other at) (was.each at low)
        (rw (← rest (place_by base was.turns (at / 4 + 1)) away, heads.0) (held.each at inside))

    same_anywhere : (at : ℕ) → place_by base was.turns (at / 4 + 1) ≢ address
        → slice_index one at ≡ slice_index other at
    same_anywhere at away =
        elim (cases_lt at (length one)) [
          | inl low ↦ same_byte at low away
          | inr past ↦
              get_or_past one at 0 past ∙ sym (get_or_past other at 0 (omega (arith, past, heads.1)))
        ]

    away : (word : ℕ) → word ≢ (address - base - 1) / 2 - 1
        → place_by base was.turns (word + 1) ≢ address
    away word apart e =
        apart (sym (word_at base word (word_turn was.turns (word + 1)) address (turn_lt was.turns (word + 1)) e))

    same_words : (word : ℕ) → word ≢ (address - base - 1) / 2 - 1
        → bytes_word one word ≡ bytes_word other word
    same_words word apart = four one other word (λ k low.
        let at = in_word word k low in
        same_anywhere (4 * word + k)
        (subst (λ w. place_by base was.turns (w + 1) ≢ address) (sym at.0) (away word apart)))

    -- with the check as it was, the word is
    same_word : place_by base was.turns 0 ≢ address
        → (address - base - 1) / 2 - 1 < words_for (length one)
        → bytes_word one ((address - base - 1) / 2 - 1) ≡ bytes_word other ((address - base - 1) / 2 - 1)
    same_word kept low =
        same_check one other ((address - base - 1) / 2 - 1) (held_bytes old base room one was)
        (held_bytes new base room other held) (omega (arith, was.few, fits)) heads.1 same_words low
        (some_same (check_of one) (check_of other)
        (sym was.check
        ∙ (sym (rest (place_by base was.turns 0) kept)
        ∙ (ap (λ t. new (place_by base t 0)) heads.0 ∙ held.check))))

    -- so each byte is
    byte_there : place_by base was.turns 0 ≢ address → (at : ℕ) → at < length one
        → slice_index one at ≡ slice_index other at
    byte_there kept at low =
        elim (cases_eq (at / 4) ((address - base - 1) / 2 - 1)) [
          | inl here ↦
              let word : bytes_word one (at / 4) ≡ bytes_word other (at / 4) =
              rw here (same_word kept (omega (arith, here, low))) in
              ap (slice_index one) (sym (split at))
              ∙ (sym (byte_in one (held_bytes old base room one was) (at / 4) (at % 4) (below_four at))
              ∙ (ap (λ v. byte_of v (at % 4)) word
              ∙ (byte_in other (held_bytes new base room other held) (at / 4) (at % 4) (below_four at)
              ∙ ap (slice_index other) (split at))))
          | inr apart ↦ same_byte at low (away (at / 4) apart)
        ]

    pub one_word_is_told_lem : other ≡ one
    one_word_is_told_lem =
        elim (cases_eq (place_by base was.turns 0) address) [
          | inl check ↦
              sym (ext_get_or 0 one other heads.1 (λ at low.
              same_byte at low (λ e.
              never_check base (at / 4) (word_turn was.turns (at / 4 + 1)) (word_turn was.turns 0)
              (turn_lt was.turns (at / 4 + 1)) (turn_lt was.turns 0) (e ∙ sym check))))
          | inr kept ↦ sym (ext_get_or 0 one other heads.1 (byte_there kept))
        ]
