-- What keeps a record, and what makes it.
use Rattle.std.proofs.Common.{◌≡◌, ◌≢◌, ◌∙◌, ◌<◌, ◌≤◌, ◌+◌, ◌*◌, ◌-◌, ◌/◌, ◌%◌, ℕ, Option, Some, List, inl, inr, sym, subst, arith, length}
use Rattle.std.specs.Prelude.{bit_xor}
use Rattle.ee_pages.specs.Meaning.{Map}
use Rattle.ee_records.proofs.WordBytes.{AreBytes, has_byte}
use Rattle.ee_records.proofs.Places.{below_two, counts_here, not_base, of_record, turn_lt, turns_or_not, word_within, words_within}
use Rattle.ee_records.specs.Record.{HoldsBytes, IsOf, IsSameRecord, head_of, place, place_by, record_word, word_turn, words_with}
use Rattle.ee_records.specs.Steps.{AreUnchanged, HaveWords, KeepsCounted}

-- a record stays where its head and the words that count stay
pub holds_along : (old new : Map) (base room : ℕ) (bytes : List ℕ) → (held : HoldsBytes old base room bytes)
    → new base ≡ old base
    → ((word : ℕ) → word < words_with (length bytes)
    → new (place base word (word_turn held.turns word)) ≡ old (place base word (word_turn held.turns word)))
    → HoldsBytes new base room bytes
holds_along old new base room bytes held head words = record {
  turns = held.turns;
  head = head ∙ held.head;
  few = held.few;
  check = words 0 (omega arith) ∙ held.check;
  each = λ at low. rw (words (at / 4 + 1) (word_within at (length bytes) low)) (held.each at low);
}

pub some_same : (x y : ℕ) → ◌≡◌ {A = Option ℕ} (Some x) (Some y) → x ≡ y
some_same x y e = cc

-- what a head says of the bytes that are held
pub heads_of : (map : Map) (base room head : ℕ) (bytes : List ℕ) → room < 16384 → map base ≡ Some head
    → (held : HoldsBytes map base room bytes)
    → (head / 65536 ≡ held.turns) × (head % 65536 ≡ length bytes)
heads_of map base room head bytes fits is held =
    let heads : head ≡ head_of held.turns (length bytes) =
    some_same head (head_of held.turns (length bytes)) (sym is ∙ held.head) in
    (omega (arith, heads, held.few, fits), omega (arith, heads, held.few, fits))

-- the words that count by the head of a map, if it has one, stay
abbrev pub KeepsWords : ℕ → Map → Map → Type 0
KeepsWords base old new = (head word : ℕ) → old base ≡ Some head → word < words_with (head % 65536)
    → new (place_by base (head / 65536) word) ≡ old (place_by base (head / 65536) word)

module _ (base room : ℕ) (fits : room < 16384) where
  still_holds : (old new : Map) (bytes : List ℕ) → new base ≡ old base → KeepsWords base old new
      → HoldsBytes old base room bytes → HoldsBytes new base room bytes
  still_holds old new bytes e keeps held =
      let h : ℕ = head_of held.turns (length bytes) in
      let heads = heads_of old base room h bytes fits held.head held in
      holds_along old new base room bytes held e (λ word low.
      subst (λ t. new (place_by base t word) ≡ old (place_by base t word)) heads.0
      (keeps h word held.head (omega (arith, low, heads.1))))

  pub same_record : (old new : Map) → new base ≡ old base → KeepsWords base old new
      → IsSameRecord base room old new
  same_record old new e keeps = record {
    head = e;
    bytes = λ bytes. (
      still_holds old new bytes e keeps,
      still_holds new old bytes (sym e)
          (λ head word is low. sym (keeps head word (sym e ∙ is) low)),
    );
  }

-- a map with each word of the bytes where it counts has the record
pub holds_words : (map : Map) (base room turns : ℕ) (bytes : List ℕ) → AreBytes bytes
    → length bytes ≤ 4 * room → map base ≡ Some (head_of turns (length bytes))
    → ((word : ℕ) → word < words_with (length bytes)
    → map (place base word (word_turn turns word)) ≡ Some (record_word bytes word))
    → HoldsBytes map base room bytes
holds_words map base room turns bytes fit few head words = record {
  turns = turns;
  head = head;
  few = few;
  check = words 0 (omega arith);
  each = λ at low. rw (words (at / 4 + 1) (word_within at (length bytes) low)) (has_byte bytes fit at);
}

-- where the words that turn stand at their other addresses, the head completes the record
module _ (old mid new : Map) (base room turns turned : ℕ) (bytes : List ℕ)
    (few : length bytes ≤ 4 * room)
    (unchanged : AreUnchanged (words_with (length bytes)) old base bytes turns turned)
    (keeps : KeepsCounted base room turns old mid)
    (have : HaveWords (words_with (length bytes)) mid base bytes turns turned)
    (others : (address : ℕ) → IsOf base room address → address ≢ base → new address ≡ mid address)
  where
    same_word : (word t : ℕ) → word < words_with (length bytes) → t < 2
        → new (place base word t) ≡ mid (place base word t)
    same_word word t low below =
        others (place base word t)
        (of_record base room word t (omega (arith, low, words_within (length bytes) room few)) below)
        (λ e. not_base base word t (sym e))

    pub turned_words : (word : ℕ) → word < words_with (length bytes)
        → new (place base word (word_turn (bit_xor turns turned) word)) ≡ Some (record_word bytes word)
    turned_words word low =
        elim (turns_or_not turns turned word) [
          | inl w ↦ rw w.1
              (same_word word (word_turn turns word) low (turn_lt turns word)
              ∙ keeps (place base word (word_turn turns word)) (counts_here base room turns word)
              ∙ unchanged word low w.0)
          | inr w ↦ rw w.1
              (same_word word (1 - word_turn turns word) low (below_two (word_turn turns word))
              ∙ have word low w.0)
        ]
