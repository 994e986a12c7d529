-- The table of the code, by going through it.
use Rattle.std.proofs.Common.{inl, inr, ◌≡◌, ℕ, zero, suc, ◌+◌, ◌*◌, ◌/◌, ◌%◌, ◌<◌, Bool, true, List, [], ◌∷◌, ◌&&◌, refl, arith}
use Rattle.std.specs.Prelude.{◌==◌, slice_index}
use Rattle.std.proofs.lemmas.Bool.{and_parts, cases_eq, eqb-true}
use Rattle.ee_nor.specs.Coded.Code.{weight_row}

abbrev weights : List ℕ
weights =
    0xfe ∷ 0xf7 ∷ 0xf6 ∷ 0xb7 ∷ 0xb6 ∷ 0x9f ∷ 0x9e ∷ 0xdb ∷ 0xda ∷ 0xeb ∷ 0xea ∷ 0x6f
    ∷ 0x6e ∷ 0x7d ∷ 0x7c ∷ 0x3d ∷ 0x3c ∷ 0xb9 ∷ 0xb8 ∷ 0xf1 ∷ 0xf0 ∷ 0x73 ∷ 0x72 ∷ 0x57
    ∷ 0x56 ∷ 0xc7 ∷ 0xc6 ∷ 0xcd ∷ 0xcc ∷ 0x8d ∷ 0x8c ∷ 0x95 ∷ 0x94 ∷ 0x93 ∷ 0x92 ∷ 0x1b
    ∷ 0x1a ∷ 0x59 ∷ 0x58 ∷ 0x69 ∷ 0x68 ∷ 0x65 ∷ 0x64 ∷ 0x27 ∷ 0x26 ∷ 0x07 ∷ 0x06 ∷ 0x43
    ∷ 0x42 ∷ 0xc1 ∷ 0xc0 ∷ 0xa1 ∷ 0xa0 ∷ 0x31 ∷ 0x30 ∷ 0x11 ∷ 0x10 ∷ []

abbrev weight_holds : ℕ → Bool
weight_holds ones = slice_index weights ones == weight_row ((ones + 1) / 2) * 2 + ones % 2

weights_hold : ℕ → Bool
weights_hold zero = true
weights_hold (suc n) = weight_holds n && weights_hold n

all_weights : weights_hold 57 ≡ true
unfolding weights_hold weight_row
all_weights = refl

weight_is : (n ones : ℕ) → weights_hold n ≡ true → ones < n
    → slice_index weights ones ≡ weight_row ((ones + 1) / 2) * 2 + ones % 2
unfolding weights_hold
weight_is zero ones hold h = absurd (omega arith)
weight_is (suc n) ones hold h =
    let parts = and_parts _ _ hold in
    elim (cases_eq ones n) [
      | inl same ↦ rw same (eqb-true _ _ (parts.0))
      | inr other ↦ weight_is n ones (parts.1) (omega arith)
    ]

pub weight_at : (ones : ℕ) → ones < 57
    → slice_index weights ones ≡ weight_row ((ones + 1) / 2) * 2 + ones % 2
weight_at ones = weight_is 57 ones all_weights
