-- What the masks and the weight_rows are for, by going through them.
use Rattle.std.proofs.Common.{min, ◌≡◌, ◌≢◌, ℕ, zero, suc, ◌+◌, ◌*◌, ◌-◌, ◌/◌, ◌%◌, ◌^◌, ◌<◌, ◌≤◌, ◌&&◌, Bool, true, not, eqb, ltb, refl, sym, ap, ◌∙◌, arith, inl, inr}
use Rattle.std.specs.Prelude.{count_ones, bit_xor}
use Rattle.std.proofs.lemmas.Bool.{and_parts, cases_eq, eq-eqb, ltb-true}
use Rattle.std.proofs.lemmas.Nat.{xor_mod, xor_shr, zero_from_ones}
use Rattle.ee_nor.specs.Coded.Code.{mixed_bits, ones_lost, parity_bits, weight_row, xor_left, xor_right}
use Rattle.ee_nor.proofs.CodedLemmas.Bits.{crossed, left_xor, one_place, right_xor, shifted_xor, two_places, xor_same}

-- ---- the parity_bits of a number

pub places_fit : (number : ℕ) → parity_bits number < 2 ^ 7
unfolding parity_bits
places_fit number = omega arith

mixed_xor : (a b c d : ℕ)
    → bit_xor (bit_xor (bit_xor a b) (bit_xor c d * 2 ^ 12 % 2 ^ 32)) (bit_xor a b * 2 % 2 ^ 32)
    ≡ bit_xor (bit_xor (bit_xor a (c * 2 ^ 12 % 2 ^ 32)) (a * 2 % 2 ^ 32))
    (bit_xor (bit_xor b (d * 2 ^ 12 % 2 ^ 32)) (b * 2 % 2 ^ 32))
mixed_xor a b c d =
    let low = shifted_xor 12 c d in
    let again = shifted_xor 1 a b in
    (λ i. bit_xor (bit_xor (bit_xor a b) (low i)) (again i))
    ∙ ap (λ (k : ℕ). bit_xor k (bit_xor (a * 2 % 2 ^ 32) (b * 2 % 2 ^ 32)))
    (crossed a b (c * 2 ^ 12 % 2 ^ 32) (d * 2 ^ 12 % 2 ^ 32))
    ∙ crossed (bit_xor a (c * 2 ^ 12 % 2 ^ 32)) (bit_xor b (d * 2 ^ 12 % 2 ^ 32)) (a * 2 % 2 ^ 32)
    (b * 2 % 2 ^ 32)

folded_xor : (a b c d : ℕ)
    → mixed_bits (bit_xor a b) (bit_xor c d) ≡ bit_xor (mixed_bits a c) (mixed_bits b d)
unfolding mixed_bits
folded_xor a b c d =
    let x = bit_xor (bit_xor a (c * 2 ^ 12 % 2 ^ 32)) (a * 2 % 2 ^ 32) in
    let y = bit_xor (bit_xor b (d * 2 ^ 12 % 2 ^ 32)) (b * 2 % 2 ^ 32) in
    ap (λ (k : ℕ). xor_left 12 (xor_right 7 (xor_right 9 (xor_left 11 k)))) (mixed_xor a b c d)
    ∙ ap (λ (k : ℕ). xor_left 12 (xor_right 7 (xor_right 9 k))) (left_xor 11 x y)
    ∙ ap (λ (k : ℕ). xor_left 12 (xor_right 7 k)) (right_xor 9 (xor_left 11 x) (xor_left 11 y))
    ∙ ap (λ (k : ℕ). xor_left 12 k) (right_xor 7 (xor_right 9 (xor_left 11 x)) (xor_right 9
    (xor_left 11 y)))
    ∙ left_xor 12 (xor_right 7 (xor_right 9 (xor_left 11 x))) (xor_right 7 (xor_right 9
    (xor_left 11 y)))

pub places_xor : (a b : ℕ) → bit_xor (parity_bits a) (parity_bits b) ≡ parity_bits (bit_xor a b)
unfolding parity_bits
places_xor a b =
    let is : mixed_bits (bit_xor a b / 2 ^ 17) (bit_xor a b % 2 ^ 17)
    ≡ bit_xor (mixed_bits (a / 2 ^ 17) (a % 2 ^ 17)) (mixed_bits (b / 2 ^ 17) (b % 2 ^ 17)) =
    (λ i. mixed_bits (xor_shr a b 17 i) (xor_mod a b 17 i)) ∙ folded_xor (a / 2 ^ 17) (b / 2 ^ 17)
    (a % 2 ^ 17) (b % 2 ^ 17) in
    sym (
    ap (λ (k : ℕ). k / 2 ^ 21 % 2 ^ 7) is
    ∙ ap (λ (k : ℕ). k % 2 ^ 7) (xor_shr (mixed_bits (a / 2 ^ 17) (a % 2 ^ 17)) (mixed_bits
    (b / 2 ^ 17) (b % 2 ^ 17)) 21)
    ∙ xor_mod (mixed_bits (a / 2 ^ 17) (a % 2 ^ 17) / 2 ^ 21) (mixed_bits (b / 2 ^ 17)
    (b % 2 ^ 17) / 2 ^ 21) 7
    )

-- ---- each of 49 parity_bits has bits of its own, and two ones or more

-- no place before has these bits
none_before : ℕ → ℕ → Bool
none_before bits zero = true
none_before bits (suc n) = not (eqb bits (parity_bits (2 ^ n))) && none_before bits n

places_hold : ℕ → Bool
places_hold zero = true
places_hold (suc n) =
    (ltb 1 (count_ones (parity_bits (2 ^ n))) && none_before (parity_bits
    (2 ^ n)) n) && places_hold n

all_places : places_hold 49 ≡ true
unfolding places_hold none_before parity_bits mixed_bits lib.Count.ones
all_places = refl

place_holds : (n at : ℕ) → places_hold n ≡ true → at < n
    → (1 < count_ones (parity_bits (2 ^ at))) × (none_before (parity_bits (2 ^ at)) at ≡ true)
unfolding places_hold
place_holds zero at hold h = absurd (omega arith)
place_holds (suc n) at hold h =
    let parts = and_parts _ _ hold in
    elim (cases_eq at n) [
      | inl same ↦
          let here = and_parts _ _ (parts.0) in
          rw same (ltb-true _ _ (here.0), here.1)
      | inr other ↦ place_holds n at (parts.1) (omega arith)
    ]

not_before : (bits n at : ℕ) → none_before bits n ≡ true → at < n → bits ≢ parity_bits (2 ^ at)
unfolding none_before
not_before bits zero at hold h = absurd (omega arith)
not_before bits (suc n) at hold h =
    let parts = and_parts (not (eqb bits (parity_bits (2 ^ n)))) (none_before bits n) hold in
    elim (cases_eq at n) [
      | inl same ↦ rw same (λ is. let yes = eq-eqb bits (parity_bits
          (2 ^ n)) is in let no = parts.0 in cc)
      | inr other ↦ not_before bits n at (parts.1) (omega arith)
    ]

-- a number that isn't 0 and its parity_bits have three ones or more
pub far : (number : ℕ) → number < 2 ^ 49 → number ≢ 0
    → 3 ≤ count_ones number + count_ones (parity_bits number)
far number fits some = elim (cases_eq (count_ones number) 0) [
  | inl none ↦ absurd (some (zero_from_ones number none))
  | inr not_none ↦ elim (cases_eq (count_ones number) 1) [
    | inl one ↦
        let there = one_place 49 number fits one in
        omega (
          arith,
          ap (λ (k : ℕ). count_ones (parity_bits k)) (there.2),
          (place_holds 49 (there.0) all_places (there.1)).0,
          one,
        )
    | inr not_one ↦ elim (cases_eq (count_ones number) 2) [
      | inl two ↦ elim (cases_eq (count_ones (parity_bits number)) 0) [
        | inl none ↦
            let there = two_places 49 number fits two in
            let both : bit_xor (parity_bits (2 ^ (there.1))) (parity_bits (2 ^ (there.0))) ≡ 0 =
            places_xor (2 ^ (there.1)) (2 ^ (there.0)) ∙ sym (ap parity_bits (there.4))
            ∙ zero_from_ones (parity_bits number) none in
            let same = xor_same 7 (parity_bits (2 ^ (there.1))) (parity_bits (2 ^ (there.0)))
            (places_fit (2 ^ (there.1))) (places_fit (2 ^ (there.0))) both in
            absurd (
            not_before (parity_bits (2 ^ (there.1))) (there.1) (there.0)
            (place_holds 49 (there.1) all_places (there.3)).1 (there.2) same
            )
        | inr some_place ↦ omega (arith, two, some_place)
      ]
      | inr not_two ↦ omega arith
    ]
  ]
]

-- ---- the weight_rows

-- the later weight_row lacks a one of the first, and two unless it is the next
pair_holds : ℕ → ℕ → Bool
pair_holds at more = ltb 0 (ones_lost (weight_row at) (weight_row (at + 1 + more))) && ltb
    (min more 1) (ones_lost (weight_row at) (weight_row (at + 1 + more)))

pairs_hold : ℕ → ℕ → Bool
pairs_hold at zero = true
pairs_hold at (suc n) = pair_holds at n && pairs_hold at n

row_holds : ℕ → Bool
row_holds at =
    (ltb (weight_row at) 128 && ltb (2 * at + count_ones (weight_row at)) 63) && pairs_hold at
    (28 - at)

rows_hold : ℕ → Bool
rows_hold zero = true
rows_hold (suc n) = row_holds n && rows_hold n

all_rows : rows_hold 29 ≡ true
unfolding rows_hold row_holds pairs_hold pair_holds weight_row lib.Count.ones
all_rows = refl

row_hold : (n at : ℕ) → rows_hold n ≡ true → at < n → row_holds at ≡ true
unfolding rows_hold
row_hold zero at hold h = absurd (omega arith)
row_hold (suc n) at hold h =
    let parts = and_parts _ _ hold in
    elim (cases_eq at n) [
      | inl same ↦ rw same (parts.0)
      | inr other ↦ row_hold n at (parts.1) (omega arith)
    ]

pair_hold : (at n more : ℕ) → pairs_hold at n ≡ true → more < n → pair_holds at more ≡ true
unfolding pairs_hold
pair_hold at zero more hold h = absurd (omega arith)
pair_hold at (suc n) more hold h =
    let parts = and_parts _ _ hold in
    elim (cases_eq more n) [
      | inl same ↦ rw same (parts.0)
      | inr other ↦ pair_hold at n more (parts.1) (omega arith)
    ]

pub row_fits : (at : ℕ) → at < 29 → (weight_row at < 2 ^ 7) × (2 * at + count_ones
    (weight_row at) < 63)
unfolding row_holds
row_fits at h =
    let parts = and_parts _ _ ((and_parts _ _ (row_hold 29 at all_rows h)).0) in
    (ltb-true _ _ (parts.0), ltb-true _ _ (parts.1))

pair_lost : (at more : ℕ) → pair_holds at more ≡ true
    → (0 < ones_lost (weight_row at) (weight_row (at + 1 + more))) × (min more 1 < ones_lost
    (weight_row at) (weight_row (at + 1 + more)))
unfolding pair_holds
pair_lost at more hold =
    let parts = and_parts _ _ hold in (ltb-true _ _ (parts.0), ltb-true _ _ (parts.1))

pub row_lost : (at later : ℕ) → at < later → later < 29
    → (1 ≤ ones_lost (weight_row at) (weight_row later)) × (at + 1 < later → 2 ≤ ones_lost
    (weight_row at) (weight_row later))
unfolding row_holds
row_lost at later h h2 =
    let pairs : pairs_hold at (28 - at) ≡ true =
    (and_parts (ltb (weight_row at) 128 && ltb (2 * at + count_ones (weight_row at)) 63)
    (pairs_hold at (28 - at))
    (row_hold 29 at all_rows (omega arith))).1 in
    let more = later - at - 1 in
    let here = pair_lost at more (pair_hold at (28 - at) more pairs (omega arith)) in
    let is : at + 1 + more ≡ later = omega arith in
    let there = rw is at here in
    (omega (arith, there.0), λ past. omega (arith, there.1, past))

small_rows : ℕ → Bool
small_rows zero = true
small_rows (suc n) = ltb (weight_row n) 128 && small_rows n

rows_small : small_rows 29 ≡ true
unfolding small_rows weight_row
rows_small = refl

small_row : (n at : ℕ) → small_rows n ≡ true → at < n → weight_row at < 128
unfolding small_rows
small_row zero at hold h = absurd (omega arith)
small_row (suc n) at hold h =
    let parts = and_parts (ltb (weight_row n) 128) (small_rows n) hold in
    elim (cases_eq at n) [
      | inl same ↦ rw same (ltb-true (weight_row n) 128 (parts.0))
      | inr other ↦ small_row n at (parts.1) (omega arith)
    ]

pub row_small : (at : ℕ) → at < 29 → weight_row at < 128
row_small at h = small_row 29 at rows_small h
