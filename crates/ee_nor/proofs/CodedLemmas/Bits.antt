-- Ones of numbers, bit by bit.
use Rattle.std.proofs.Common.{◌≡◌, ℕ, zero, suc, ◌+◌, ◌*◌, ◌/◌, ◌%◌, ◌^◌, ◌<◌, ◌≤◌, refl, sym, ap, ◌∙◌, arith, inl, inr}
use Rattle.std.specs.Prelude.{count_ones, bit_and, bit_xor}
use Rattle.std.proofs.lemmas.Nat.{zero_from_ones, and_block, and_comm, and_le_r, and_mod, and_shr, div-add-mod', ones_cat, pow_pos, xor_block, xor_comm, xor_mod, xor_shr}
use Rattle.std.proofs.lemmas.Bool.{cases_eq}
use Rattle.std.specs.Int.Count.{ones-ones}
use Rattle.std.specs.Int.Bits.{xor_assoc, xor_zero_r}
use Rattle.ee_nor.specs.Coded.Code.{ones_lost, xor_left, xor_right}

one_bit : (bit : ℕ) → bit < 2 → count_ones bit ≡ bit
one_bit zero h = ones-ones 0
one_bit (suc zero) h = ones-ones 1
one_bit (suc (suc bit)) h = absurd (omega arith)

-- the ones of a number are those of its half and its last bit
pub half_ones : (n : ℕ) → count_ones n ≡ count_ones (n / 2) + n % 2
half_ones n =
    ap count_ones (sym (div-add-mod' n 2)) ∙ ones_cat 1 (n / 2) (n % 2) (omega arith)
    ∙ ap (λ (k : ℕ). count_ones (n / 2) + k) (one_bit (n % 2) (omega arith))

-- two bits: what both have, and what one has
pub and_bits : (a b : ℕ) → a < 2 → b < 2
    → (bit_and a b ≤ a) × (bit_and a b ≤ b) × (a + b ≤ bit_and a b + 1)
and_bits zero zero h h2 = (omega arith, omega arith, omega arith)
and_bits zero (suc zero) h h2 = (omega arith, omega arith, omega arith)
and_bits (suc zero) zero h h2 = (omega arith, omega arith, omega arith)
and_bits (suc zero) (suc zero) h h2 = (omega arith, omega arith, omega arith)
and_bits zero (suc (suc b)) h h2 = absurd (omega arith)
and_bits (suc zero) (suc (suc b)) h h2 = absurd (omega arith)
and_bits (suc (suc a)) b h h2 = absurd (omega arith)

pub xor_bits : (a b : ℕ) → a < 2 → b < 2 → bit_xor a b + 2 * bit_and a b ≡ a + b
xor_bits zero zero h h2 = refl
xor_bits zero (suc zero) h h2 = refl
xor_bits (suc zero) zero h h2 = refl
xor_bits (suc zero) (suc zero) h h2 = refl
xor_bits zero (suc (suc b)) h h2 = absurd (omega arith)
xor_bits (suc zero) (suc (suc b)) h h2 = absurd (omega arith)
xor_bits (suc (suc a)) b h h2 = absurd (omega arith)

-- the ones that two numbers share
pub half_both : (a b : ℕ) → count_ones (bit_and a b)
    ≡ count_ones (bit_and (a / 2) (b / 2)) + bit_and (a % 2) (b % 2)
half_both a b =
    half_ones (bit_and a b)
    ∙ ap (λ (k : ℕ). count_ones k + bit_and a b % 2) (and_shr a b 1)
    ∙ ap (λ (k : ℕ). count_ones (bit_and (a / 2) (b / 2)) + k) (and_mod a b 1)

half_xor : (a b : ℕ) → count_ones (bit_xor a b)
    ≡ count_ones (bit_xor (a / 2) (b / 2)) + bit_xor (a % 2) (b % 2)
half_xor a b =
    half_ones (bit_xor a b)
    ∙ ap (λ (k : ℕ). count_ones k + bit_xor a b % 2) (xor_shr a b 1)
    ∙ ap (λ (k : ℕ). count_ones (bit_xor (a / 2) (b / 2)) + k) (xor_mod a b 1)

pub both_le : (bits a b : ℕ) → a < 2 ^ bits → count_ones (bit_and a b) ≤ count_ones a
both_le zero a b h = let none : a ≡ 0 = omega arith in rw none (omega (arith, ones-ones 0))
both_le (suc bits) a b h =
    let rest = both_le bits (a / 2) (b / 2) (omega arith) in
    let last = and_bits (a % 2) (b % 2) (omega arith) (omega arith) in
    omega (arith, half_both a b, half_ones a, rest, last)

pub xor_ones : (bits a b : ℕ) → a < 2 ^ bits → b < 2 ^ bits
    → count_ones (bit_xor a b) + 2 * count_ones (bit_and a b) ≡ count_ones a + count_ones b
xor_ones zero a b h h2 =
    let none : a ≡ 0 = omega arith in let none_too : b ≡ 0 = omega arith in rw (none, none_too)
    (omega (arith, ones-ones 0))
xor_ones (suc bits) a b h h2 =
    let rest = xor_ones bits (a / 2) (b / 2) (omega arith) (omega arith) in
    let last = xor_bits (a % 2) (b % 2) (omega arith) (omega arith) in
    omega (arith, half_both a b, half_xor a b, half_ones a, half_ones b, rest, last)

-- what two numbers lack of each other is what they differ in
pub xor_lost : (bits a b : ℕ) → a < 2 ^ bits → b < 2 ^ bits
    → count_ones (bit_xor a b) ≡ ones_lost a b + ones_lost b a
xor_lost bits a b h h2 =
    let turned = ap count_ones (and_comm a b) in
    omega (arith, xor_ones bits a b h h2, both_le bits a b h, both_le bits b a h2, turned)

-- one that has all of the ones of one and one that lacks some
pub gains : (bits a b : ℕ) → a < 2 ^ bits → b < 2 ^ bits
    → count_ones a + ones_lost b a ≡ count_ones b + ones_lost a b
gains bits a b h h2 =
    let turned = ap count_ones (and_comm a b) in
    omega (arith, both_le bits a b h, both_le bits b a h2, turned)

-- what is ones_lost of two parts
pub lost_block : (k bits a b r s : ℕ) → a < 2 ^ bits → r < 2 ^ k → s < 2 ^ k
    → ones_lost (a * 2 ^ k + r) (b * 2 ^ k + s) ≡ ones_lost a b + ones_lost r s
lost_block k bits a b r s h h2 h3 =
    let all = ones_cat k a r h2 in
    let both = ap count_ones (and_block k a b r s h2 h3)
    ∙ ones_cat k (bit_and a b) (bit_and r s) (omega (arith, and_le_r r s, h3)) in
    omega (arith, all, both, both_le bits a b h, both_le k r s h2)

lost_half : (bits a b : ℕ) → a < 2 ^ bits
    → ones_lost a b + bit_and (a % 2) (b % 2) ≡ ones_lost (a / 2) (b / 2) + a % 2
lost_half bits a b h =
    omega (
      arith,
      half_both a b,
      half_ones a,
      both_le bits (a / 2) (b / 2) (omega arith),
      and_bits
          (a % 2) (b % 2) (omega arith) (omega arith),
    )

-- by way of a third
pub lost_by : (bits a b c : ℕ) → a < 2 ^ bits → b < 2 ^ bits
    → ones_lost a c ≤ ones_lost a b + ones_lost b c
lost_by zero a b c h h2 = let none : a ≡ 0 = omega arith in rw none (omega (arith, ones-ones 0))
lost_by (suc bits) a b c h h2 =
    let rest = lost_by bits (a / 2) (b / 2) (c / 2) (omega arith) (omega arith) in
    omega (
      arith,
      rest,
      lost_half (suc bits) a b h,
      lost_half (suc bits) b c h2,
      lost_half (suc bits) a c h,
      and_bits (a % 2) (b % 2) (omega arith) (omega arith),
      and_bits (b % 2) (c % 2) (omega arith) (omega arith),
      and_bits (a % 2) (c % 2) (omega arith) (omega arith),
    )

-- ---- numbers of one bit and of two

-- a number with one bit
pub one_place : (bits n : ℕ) → n < 2 ^ bits → count_ones n ≡ 1
    → (at : ℕ) × (at < bits) × (n ≡ 2 ^ at)
one_place zero n h one =
    let none : n ≡ 0 = omega arith in absurd (omega (arith, ap count_ones none, ones-ones 0))
one_place (suc bits) n h one = elim (cases_eq (n % 2) 1) [
  | inl last ↦
      let none : n / 2 ≡ 0 = zero_from_ones (n / 2) (omega (arith, half_ones n)) in
      (0, omega arith, omega arith)
  | inr other ↦
      let rest = one_place bits (n / 2) (omega arith) (omega (arith, half_ones n)) in
      (suc (rest.0), omega (arith, rest.1), omega (arith, rest.2))
]

-- a number with two
pub two_places : (bits n : ℕ) → n < 2 ^ bits → count_ones n ≡ 2
    → (at later : ℕ) × (at < later) × (later < bits) × (n ≡ bit_xor (2 ^ later) (2 ^ at))
two_places zero n h two =
    let none : n ≡ 0 = omega arith in absurd (omega (arith, ap count_ones none, ones-ones 0))
two_places (suc bits) n h two = elim (cases_eq (n % 2) 1) [
  | inl last ↦
      let rest = one_place bits (n / 2) (omega arith) (omega (arith, half_ones n)) in
      let split : bit_xor (2 ^ (rest.0) * 2 + 0) (0 * 2 + 1) ≡ bit_xor (2 ^
      (rest.0)) 0 * 2 + bit_xor 0 1 =
      xor_block 1 (2 ^ (rest.0)) 0 0 1 (omega arith) (omega arith) in
      let first : 2 ^ suc (rest.0) ≡ 2 ^ (rest.0) * 2 + 0 = omega arith in
      let joined : bit_xor (2 ^ suc (rest.0)) 1 ≡ bit_xor (2 ^ (rest.0) * 2 + 0) (0 * 2 + 1) =
      λ i. bit_xor (first i) 1 in (
        0,
        suc (rest.0),
        omega arith,
        omega (arith, rest.1),
        omega (arith, joined, split, xor_zero_r (2 ^ (rest.0)), rest.2, last),
      )
  | inr other ↦
      let rest = two_places bits (n / 2) (omega arith) (omega (arith, half_ones n)) in
      let split : bit_xor (2 ^ (rest.1) * 2 + 0) (2 ^ (rest.0) * 2 + 0)
      ≡ bit_xor (2 ^ (rest.1)) (2 ^ (rest.0)) * 2 + bit_xor 0 0 =
      xor_block 1 (2 ^ (rest.1)) (2 ^ (rest.0)) 0 0 (omega arith) (omega arith) in
      let first : 2 ^ suc (rest.0) ≡ 2 ^ (rest.0) * 2 + 0 = omega arith in
      let second : 2 ^ suc (rest.1) ≡ 2 ^ (rest.1) * 2 + 0 = omega arith in
      let joined : bit_xor (2 ^ suc (rest.1)) (2 ^ suc (rest.0))
      ≡ bit_xor (2 ^ (rest.1) * 2 + 0) (2 ^ (rest.0) * 2 + 0) =
      λ i. bit_xor (second i) (first i) in (
        suc (rest.0),
        suc (rest.1),
        omega (arith, rest.2),
        omega (arith, rest.3),
        omega (arith, joined, split, rest.4),
      )
]

-- ---- what goes through a difference

pub crossed : (a b c d : ℕ) → bit_xor (bit_xor a b) (bit_xor c d) ≡ bit_xor (bit_xor a c)
    (bit_xor b d)
crossed a b c d =
    xor_assoc a b (bit_xor c d)
    ∙ ap (λ (k : ℕ). bit_xor a k) (sym (xor_assoc b c d) ∙ ap (λ (k : ℕ). bit_xor k d)
    (xor_comm b c) ∙ xor_assoc c b d)
    ∙ sym (xor_assoc a c (bit_xor b d))

pub shifted_xor : (by a b : ℕ) → bit_xor a b * 2 ^ by % 2 ^ 32
    ≡ bit_xor (a * 2 ^ by % 2 ^ 32) (b * 2 ^ by % 2 ^ 32)
shifted_xor by a b =
    let split = xor_block by a b 0 0 (pow_pos by) (pow_pos by) in
    let first : a * 2 ^ by + 0 ≡ a * 2 ^ by = omega arith in
    let second : b * 2 ^ by + 0 ≡ b * 2 ^ by = omega arith in
    let joined : bit_xor (a * 2 ^ by + 0) (b * 2 ^ by + 0) ≡ bit_xor (a * 2 ^ by) (b * 2 ^ by) =
    λ i. bit_xor (first i) (second i) in
    let is : bit_xor a b * 2 ^ by ≡ bit_xor (a * 2 ^ by) (b * 2 ^ by) = omega
    (arith, joined, split) in
    ap (λ (k : ℕ). k % 2 ^ 32) is ∙ xor_mod (a * 2 ^ by) (b * 2 ^ by) 32

pub left_xor : (by a b : ℕ) → xor_left by (bit_xor a b) ≡ bit_xor (xor_left by a) (xor_left by b)
left_xor by a b =
    ap (λ (k : ℕ). bit_xor (bit_xor a b) k) (shifted_xor by a b)
    ∙ crossed a b (a * 2 ^ by % 2 ^ 32) (b * 2 ^ by % 2 ^ 32)

pub right_xor : (by a b : ℕ) → xor_right by (bit_xor a b) ≡ bit_xor (xor_right by a)
    (xor_right by b)
right_xor by a b =
    ap (λ (k : ℕ). bit_xor (bit_xor a b) k) (xor_shr a b by)
    ∙ crossed a b (a / 2 ^ by) (b / 2 ^ by)

-- numbers that differ in no bit are one
pub xor_same : (bits a b : ℕ) → a < 2 ^ bits → b < 2 ^ bits → bit_xor a b ≡ 0 → a ≡ b
xor_same zero a b h h2 none = omega arith
xor_same (suc bits) a b h h2 none =
    let high = xor_same bits (a / 2) (b / 2) (omega arith) (omega arith)
    (sym (xor_shr a b 1) ∙ ap (λ (k : ℕ). k / 2) none) in
    let low : bit_xor (a % 2) (b % 2) ≡ 0 = sym (xor_mod a b 1) ∙ ap (λ (k : ℕ). k % 2) none in
    omega (
      arith,
      high,
      low,
      xor_bits (a % 2) (b % 2) (omega arith) (omega arith),
      and_bits (a % 2) (b % 2) (omega arith) (omega arith),
    )
