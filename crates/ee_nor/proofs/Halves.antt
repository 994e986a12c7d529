-- Two numbers are a word or a torn one, told by their halves.
use Rattle.std.proofs.Common.{◌≡◌, ◌≢◌, ◌≤◌, inl, inr, ℕ, ◌+◌, ◌/◌, ◌%◌, nat_eq, bit_and, refl, arith}
use Rattle.std.specs.Bool.{MatchBool}
use Rattle.std.specs.Int.Bits.{and_self}
use Rattle.std.proofs.lemmas.Bool.{cases_eq, eq-eqb, ne_eqb}
use Rattle.std.proofs.lemmas.Nat.{and_le_l, and_le_r}
use Rattle.ee_flash.specs.Device.{all_ones}
use Rattle.ee_flash.specs.declared.word.Word.TheVariants.{Erased, Held, Torn}
use Rattle.ee_nor.specs.Nor.{IsNorNumber}
use Rattle.ee_nor.specs.Pairs.{complement, pair_word}
use Rattle.ee_nor.specs.Formed.{word_cases}

-- a test of two numbers says what holds where they are one, and what where they are not
match_eq : (a b : ℕ) (P Q : Type 0) → (a ≡ b → P) → (a ≢ b → Q) → MatchBool (nat_eq a b) P Q
match_eq a b P Q equal apart = elim (cases_eq a b) [
  | inl same ↦ rw (eq-eqb a b same) (equal same)
  | inr other ↦ rw (ne_eqb a b other) (apart other)
]

-- two halves have all bits in common where both have all
both_ones : (a b : ℕ) → a ≤ 4294967295 → b ≤ 4294967295 → bit_and a b ≡ 4294967295
    → (a ≡ 4294967295) × (b ≡ 4294967295)
both_ones a b fits other_fits all =
    (omega (arith, all, and_le_l a b), omega (arith, all, and_le_r a b))

ones_in_both : (a b : ℕ) → a ≡ 4294967295 → b ≡ 4294967295 → bit_and a b ≡ 4294967295
ones_in_both a b first second = rw (first, second) (and_self 4294967295)

-- what a word is that isn't torn
pub whole_erased : (number check : ℕ) → pair_word number check ≢ Torn → number ≡ all_ones
    → pair_word number check ≡ Erased
whole_erased number check whole same = elim (word_cases number check) [
  | inl erased ↦ erased.2
  | inr (inl held) ↦ absurd (held.0 same)
  | inr (inr torn) ↦ absurd (whole torn)
]

pub whole_held : (number check : ℕ) → pair_word number check ≢ Torn → number ≢ all_ones
    → pair_word number check ≡ Held number
whole_held number check whole other = elim (word_cases number check) [
  | inl erased ↦ absurd (other erased.0)
  | inr (inl held) ↦ held.2
  | inr (inr torn) ↦ absurd (whole torn)
]

-- the halves of a number and of its check
module _ (number check low high check_low check_high : ℕ)
    (fits : IsNorNumber number) (check_fits : IsNorNumber check)
    (is_low : low ≡ number % 4294967296) (is_high : high ≡ number / 4294967296)
    (is_check_low : check_low ≡ check % 4294967296)
    (is_check_high : check_high ≡ check / 4294967296) where
  ones_erased : number ≡ all_ones → bit_and low high ≡ 4294967295
  ones_erased same = ones_in_both low high (omega arith) (omega arith)

  abbrev sums : ℕ
  sums = bit_and ((low + check_low) % 4294967296) ((high + check_high) % 4294967296)

  sums_complement : sums ≡ 4294967295 → check ≡ complement number
  sums_complement all =
      let both = both_ones ((low + check_low) % 4294967296) ((high + check_high) % 4294967296)
      (omega arith) (omega arith) all in
      let first = both.0 in
      let second = both.1 in
      omega (arith, first, second)

  complement_sums : check ≡ complement number → sums ≡ 4294967295
  complement_sums is =
      ones_in_both ((low + check_low) % 4294967296) ((high + check_high) % 4294967296)
      (omega arith) (omega arith)

  -- else the sum of both is
  pub sums_told : bit_and low high ≢ 4294967295
      → MatchBool (nat_eq sums 4294967295)
      (pair_word number check ≢ Torn) (pair_word number check ≡ Torn)
  sums_told some =
      let other : number ≢ all_ones = λ same. some (ones_erased same) in
      match_eq sums 4294967295 _ _
      (λ all. let apart = ne_eqb number all_ones other in
      let same = eq-eqb check (complement number) (sums_complement all) in
      let is : pair_word number check ≡ Held number = rw (apart, same) refl in λ torn. cc)
      (λ none. elim (word_cases number check) [
        | inl erased ↦ absurd (other erased.0)
        | inr (inl held) ↦ absurd (none (complement_sums held.1))
        | inr (inr torn) ↦ torn
      ])
