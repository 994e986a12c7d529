-- The code spells what the definitions do.
use Rattle.std.proofs.Common.{◌≡◌, ℕ, ◌+◌, ◌*◌, ◌/◌, ◌%◌, ◌^◌, ◌<◌, ◌≤◌, ap, sym, ◌∙◌, arith}
use Rattle.std.specs.Prelude.{count_ones}
use Rattle.std.proofs.lemmas.Nat.{ones-le, ones_cat}
use Rattle.ee_nor.specs.Coded.Code.{codeword, half_weight, mixed_bits, parity_bits, weight_row}

pub few_ones : (value bits low : ℕ) → value < 2 ^ 32 → bits < 2 ^ 7 → low < 2 ^ 17
    → count_ones (value * 2 ^ 32 + (bits * 2 ^ 17 + low)) ≤ 56
few_ones value bits low fits bits_fit low_fits =
    omega (
      arith,
      ones_cat 32 value (bits * 2 ^ 17 + low) (omega arith),
      ones-le 32 value fits,
      ones-le 24 (bits * 2 ^ 17 + low) (omega arith),
    )

module _ (value low : ℕ) (fits : value < 2 ^ 32) (low_fits : low < 2 ^ 17) where
  abbrev number : ℕ
  number = value * 2 ^ 17 + low

  places_are : parity_bits number ≡ mixed_bits value low / 2 ^ 21 % 2 ^ 7
  unfolding parity_bits
  places_are =
      let high : number / 2 ^ 17 ≡ value = omega arith in
      let rest : number % 2 ^ 17 ≡ low = omega arith in
      λ i. mixed_bits (high i) (rest i) / 2 ^ 21 % 2 ^ 7

  pub spelled : (bits : ℕ) → bits ≡ mixed_bits value low / 2 ^ 21 % 2 ^ 7
      → value * 2 ^ 32
      + (weight_row ((count_ones (value * 2 ^ 32 + (bits * 2 ^ 17 + low)) + 1) / 2) * 2 ^ 25
      + count_ones (value * 2 ^ 32 + (bits * 2 ^ 17 + low)) % 2 * 2 ^ 24 + (bits * 2 ^ 17 + low))
      ≡ codeword number
  unfolding codeword
  spelled bits is =
      let same : bits ≡ parity_bits number = is ∙ sym places_are in
      let bits_fit : bits < 2 ^ 7 = omega arith in
      let rest : ℕ = bits * 2 ^ 17 + low in
      let ones : count_ones (value * 2 ^ 32 + rest)
      ≡ count_ones number + count_ones (parity_bits number) =
      omega (
        arith,
        ones_cat 32 value rest (omega arith),
        ones_cat 17 bits low low_fits,
        ones_cat 17 value low low_fits,
        ap count_ones same,
      ) in
      let half : (count_ones (value * 2 ^ 32 + rest) + 1) / 2 ≡ half_weight number =
      omega (arith, ones) in
      let rows = ap weight_row half in
      omega (arith, rows, ones, same)
