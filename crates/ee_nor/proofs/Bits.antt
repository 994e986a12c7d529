-- Numbers that have every bit of another.
use Rattle.std.proofs.Common.{◌≡◌, inl, inr, ℕ, suc, ◌+◌, ◌-◌, ◌^◌, ◌<◌, ◌≤◌, List, [], ◌∷◌, length, refl, ◌∙◌, arith}
use Rattle.std.specs.Prelude.{slice_index}
use Rattle.std.specs.List.{All}
use Rattle.std.proofs.lemmas.Nat.{and_block, and_comm, and_le_l, and_mask}
use Rattle.ee_flash.specs.Device.{all_ones}
use Rattle.ee_flash.specs.declared.word.Word.TheVariants.{Held}
use Rattle.ee_nor.specs.Nor.{HasBits, IsNorNumber}
use Rattle.ee_nor.specs.Pairs.{complement, pair_word}
use Rattle.ee_nor.specs.Formed.{word_cases}
use Rattle.ee_nor.specs.Laws.{IsPart, MayPartBe, number_of_parts}

-- what has every bit of a number is no less
pub no_less : (number other : ℕ) → HasBits number other → other ≤ number
no_less number other has = omega (arith, has, and_le_l number other)

pub torn_is_told : (value number check held : ℕ) → value < all_ones → HasBits number value
    → HasBits check (complement value) → pair_word number check ≡ Held held → held ≡ value
torn_is_told value number check held below has has_check is = elim (word_cases number check) [
  | inl erased ↦ let none = erased.2 in cc
  | inr (inl pair) ↦
      let same : number ≡ held = let word = pair.2 in cc in
      let other = pair.1 in
      omega (arith, no_less number value has, no_less check (complement value) has_check)
  | inr (inr torn) ↦ cc
]

pub high_stays : (number check left left_check : ℕ) → all_ones ≤ number + check
    → HasBits left number → HasBits left_check check → all_ones ≤ left + left_check
high_stays number check left left_check high has has_check =
    omega (arith, no_less left number has, no_less left_check check has_check)

pub makes_no_number : (number check left left_check held : ℕ) → IsNorNumber left
    → all_ones ≤ number + check → HasBits left number → HasBits left_check check
    → pair_word left left_check ≡ Held held → pair_word number check ≡ Held held
makes_no_number number check left left_check held fits high has has_check is =
    elim (word_cases left left_check) [
      | inl erased ↦ let none = erased.2 in cc
      | inr (inl pair) ↦
          let other = pair.1 in
          let least = no_less left number has in
          let least_check = no_less left_check check has_check in
          let same : number ≡ left = omega arith in
          let same_check : check ≡ left_check = omega arith in
          rw (same, same_check) is
      | inr (inr torn) ↦ cc
    ]

-- all bits of a part have every bit of any
all_bits : (bits part : ℕ) → part < 2 ^ bits → HasBits (2 ^ bits - 1) part
all_bits bits part fits = and_comm (2 ^ bits - 1) part ∙ and_mask part bits ∙ search (arith, fits)

has_part : (bits asked left : ℕ) → asked < 2 ^ bits → MayPartBe bits asked left → HasBits left asked
has_part bits asked left fits (inl has) = has
has_part bits asked left fits (inr is) = rw is (all_bits bits asked fits)

pub parts_are_a_program : (bits : ℕ) (asked left : List ℕ) → length left ≡ length asked
    → All (IsPart bits) asked → All (IsPart bits) left
    → ((part : ℕ) → MayPartBe bits (slice_index asked part) (slice_index left part))
    → HasBits (number_of_parts bits left) (number_of_parts bits asked)
parts_are_a_program bits [] [] e fits left_fits each = refl
parts_are_a_program bits [] (l ∷ left) e fits left_fits each = cc
parts_are_a_program bits (a ∷ asked) [] e fits left_fits each = cc
parts_are_a_program bits (a ∷ asked) (l ∷ left) e fits left_fits each =
    let part : a < 2 ^ bits = fits 0 0 (omega arith) in
    let left_part : l < 2 ^ bits = left_fits 0 0 (omega arith) in
    let rest =
    parts_are_a_program bits asked left (omega (arith, e))
    (λ k none h. fits (suc k) none (omega arith))
    (λ k none h. left_fits (suc k) none (omega arith)) (λ k. each (suc k)) in
    and_block bits (number_of_parts bits left) (number_of_parts bits asked) l a left_part part
    ∙ rw (rest, has_part bits a l part (each 0)) refl
