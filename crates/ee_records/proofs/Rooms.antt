-- What the space that is lent holds of a record that is read into it.
use Rattle.std.proofs.Common.{◌≡◌, ◌≢◌, ◌∙◌, ◌<◌, ◌≤◌, ◌+◌, ◌*◌, ◌/◌, ◌%◌, ℕ, Some, None, List, inl, inr, suc, zero, sym, ap, arith, length, slice_index, take}
use Rattle.std.proofs.lemmas.Bool.{cases_lt}
use Rattle.std.proofs.lemmas.List.{ext_get_or, get_or-take, length-take-le}
use Rattle.ee_pages.specs.Meaning.{Map}
use Rattle.ee_records.proofs.Held.{heads_of}
use Rattle.ee_records.proofs.RecordLaws.{one_byte}
use Rattle.ee_records.specs.Check.{check_of, words_for}
use Rattle.ee_records.specs.Record.{HasByte, HoldsBytes, IsHurt, byte_of, place, place_by, word_turn, words_with}

-- of so many bytes, those of a room are the record's
abbrev pub AreRead : ℕ → Map → ℕ → ℕ → ℕ → List ℕ → Type 0
AreRead bytes map base turns count room = (at : ℕ) → at < bytes → at < count
    → HasByte (map (place_by base turns (at / 4 + 1))) (at % 4) (slice_index room at)

in_word : (word at : ℕ) → 4 * word ≤ at → at < 4 * (word + 1) → (at / 4 ≡ word) × (at % 4 < 4) × (4 * word + at % 4 ≡ at)
in_word word at h1 h2 = (omega arith, omega arith, omega arith)

byte_in : (map : Map) (base turns word at address turn value byte : ℕ) → at / 4 ≡ word
    → turn ≡ word_turn turns (word + 1) → address ≡ place base (word + 1) turn → map address ≡ Some value
    → byte ≡ byte_of value (at % 4)
    → HasByte (map (place_by base turns (at / 4 + 1))) (at % 4) byte
byte_in map base turns word at address turn value byte e1 e2 e3 h b =
    let there : map (place_by base turns (at / 4 + 1)) ≡ Some value =
    ap (λ w. map (place_by base turns (w + 1))) e1
    ∙ (ap map (sym (e3 ∙ ap (place base (word + 1)) e2)) ∙ h) in
    rw there (sym b)

-- one word more
pub read_more : (map : Map) (base turns count word address turn value : ℕ) (old new : List ℕ)
    → turn ≡ word_turn turns (word + 1) → address ≡ place base (word + 1) turn → map address ≡ Some value
    → ((k : ℕ) → k < 4 → 4 * word + k < count → slice_index new (4 * word + k) ≡ byte_of value k)
    → ((at : ℕ) → at < 4 * word → slice_index new at ≡ slice_index old at)
    → AreRead (4 * word) map base turns count old
    → AreRead (4 * (word + 1)) map base turns count new
read_more map base turns count word address turn value old new e2 e3 h here before read = λ at low short.
    elim (cases_lt at (4 * word)) [
      | inl earlier ↦ rw (before at earlier) (read at earlier short)
      | inr later ↦
          let p = in_word word at later low in
          byte_in map base turns word at address turn value (slice_index new at) p.0 e2 e3 h
          (ap (slice_index new) (sym p.2)
          ∙ here (at % 4) p.1 (omega (arith, p.2, short)))
    ]

-- ---- a record that is hurt

at_word : (word : ℕ) → 4 * word / 4 + 1 ≡ suc word
at_word word = omega arith

-- each word of bytes that are held has a value
has_words : (map : Map) (base room : ℕ) (bytes : List ℕ) → (held : HoldsBytes map base room bytes)
    → (word : ℕ) → word < words_with (length bytes) → map (place_by base held.turns word) ≢ None
has_words map base room bytes held zero low none = cc (none, held.check)
has_words map base room bytes held (suc word) low none =
    let there : map (place_by base held.turns (4 * word / 4 + 1)) ≡ None =
    ap (λ w. map (place_by base held.turns w)) (at_word word) ∙ none in
    rw there at (held.each (4 * word) (omega (arith, low)))

-- a word has no value
pub missing_word : (map : Map) (base room head word address turn : ℕ)
    → room < 16384 → map base ≡ Some head → word < words_with (head % 65536)
    → turn ≡ word_turn (head / 65536) word → address ≡ place base word turn
    → map address ≡ None → IsHurt map base room
missing_word map base room head word address turn fits is low e2 e3 none = record {
  head = head;
  there = is;
  no_bytes = λ bytes held.
      let heads = heads_of map base room head bytes fits is held in
      has_words map base room bytes held word (omega (arith, low, heads.1))
      (ap (λ t. map (place_by base t word)) (sym heads.0)
      ∙ (ap map (sym (e3 ∙ ap (place base word) e2)) ∙ none));
}

-- the bytes that are there have another check
pub other_check : (map : Map) (base room head words address turn check : ℕ) (space : List ℕ)
    → room < 16384 → map base ≡ Some head → head % 65536 ≤ length space
    → words_for (head % 65536) ≤ words
    → AreRead (4 * words) map base (head / 65536) (head % 65536) space
    → turn ≡ word_turn (head / 65536) 0 → address ≡ place base 0 turn
    → check ≡ check_of (take (head % 65536) space) → map address ≢ Some check
    → IsHurt map base room
other_check map base room head words address turn check space fits is within all read e1 e2 e3 other = record {
  head = head;
  there = is;
  no_bytes = λ bytes held.
      let count : ℕ = head % 65536 in
      let heads = heads_of map base room head bytes fits is held in
      let same : length (take count space) ≡ length bytes =
      length-take-le count space within ∙ heads.1 in
      let equal : take count space ≡ bytes =
      ext_get_or 0 (take count space) bytes same (λ at low.
      let short : at < count = omega (arith, low, same, heads.1) in
      let inside : at < length bytes = omega (arith, low, same) in
      get_or-take count space at 0 short
      ∙ one_byte (map (place_by base (head / 65536) (at / 4 + 1))) (at % 4)
      (slice_index space at) (slice_index bytes at) (read at (omega (arith, short, all)) short)
      (rw heads.0 (held.each at inside))) in
      other (ap map (e2 ∙ ap (place base 0) e1)
      ∙ (ap (λ t. map (place_by base t 0)) heads.0
      ∙ (held.check ∙ ap (λ c. Some c) (ap check_of (sym equal) ∙ sym e3))));
}
