-- Where the words of a record stand: the two addresses of each word, and of different words, are
-- apart.
use Rattle.std.proofs.Common.{◌≡◌, ◌<◌, ◌≤◌, ◌⊎◌, ◌+◌, ◌-◌, ◌*◌, ◌/◌, ◌%◌, ℕ, zero, suc, inl, inr, refl, ap, arith}
use Rattle.std.specs.Prelude.{bit_xor}
use Rattle.std.proofs.lemmas.Nat.Bits.{bit_at-lt, bit_at_xor}
use Rattle.ee_records.specs.Record.{IsOf, place, word_turn, words_with}
use Rattle.ee_records.specs.Steps.{IsOther}

pub turn_lt : (turns word : ℕ) → word_turn turns word < 2
turn_lt turns word = bit_at-lt turns (word % 16)

-- two places that are one have one word and one turn
pub same_place : (base word other t u : ℕ) → t < 2 → u < 2 → place base word t ≡ place base other u
    → (word ≡ other) × (t ≡ u)
same_place base word other t u h1 h2 e = (omega arith, omega arith)

never_other : (t u : ℕ) → t < 2 → t ≡ u → t ≡ 1 - u → ⊥
never_other t u h1 e h2 = absurd (omega arith)

pub below_two : (t : ℕ) → 1 - t < 2
below_two t = omega arith

-- where a word counts it doesn't not count
pub counts_here : (base room turns word : ℕ) → IsOther base room turns (place base word (word_turn turns word)) → ⊥
counts_here base room turns word other =
    let same =
    same_place base word other.word (word_turn turns word) (1 - word_turn turns other.word)
    (turn_lt turns word) (below_two (word_turn turns other.word)) other.is in
    let turn : word_turn turns word ≡ word_turn turns other.word = ap (word_turn turns) same.0 in
    never_other (word_turn turns word) (word_turn turns other.word) (turn_lt turns word) turn same.1

pub not_base : (base word t : ℕ) → base ≡ place base word t → ⊥
not_base base word t e = absurd (omega arith)

pub head_counts : (base room turns : ℕ) → IsOther base room turns base → ⊥
head_counts base room turns other = not_base base other.word (1 - word_turn turns other.word) other.is

-- both addresses of a word are the record's
pub of_record : (base room word t : ℕ) → word < room + 1 → t < 2 → IsOf base room (place base word t)
of_record base room word t h1 h2 = record { from = omega arith; to = omega arith }

pub base_of : (base room : ℕ) → IsOf base room base
base_of base room = record { from = omega arith; to = omega arith }

pub other_of_record : (base room turns address : ℕ) → IsOther base room turns address
    → IsOf base room address
other_of_record base room turns address other =
    rw other.is
    (of_record base room other.word (1 - word_turn turns other.word) other.within
    (below_two (word_turn turns other.word)))

pub word_within : (at count : ℕ) → at < count → at / 4 + 1 < words_with count
word_within at count h = omega arith

pub words_within : (count room : ℕ) → count ≤ 4 * room → words_with count ≤ room + 1
words_within count room h = omega arith

-- ---- turning

turned_by : (t d x : ℕ) → t < 2 → d < 2 → x ≡ (t + d) % 2
    → ((d ≡ 0) × (x ≡ t)) ⊎ ((d ≡ 1) × (x ≡ 1 - t))
turned_by t zero x h1 h2 e = inl (refl, omega arith)
turned_by t (suc zero) x h1 h2 e = inr (refl, omega arith)
turned_by t (suc (suc d)) x h1 h2 e = absurd (omega arith)

-- a word turns or it doesn't
pub turns_or_not : (turns turned word : ℕ)
    → ((word_turn turned word ≡ 0) × (word_turn (bit_xor turns turned) word ≡ word_turn turns word))
    ⊎ ((word_turn turned word ≡ 1) × (word_turn (bit_xor turns turned) word ≡ 1 - word_turn turns word))
turns_or_not turns turned word =
    turned_by (word_turn turns word) (word_turn turned word) (word_turn (bit_xor turns turned) word)
    (turn_lt turns word) (turn_lt turned word) (bit_at_xor turns turned (word % 16))
