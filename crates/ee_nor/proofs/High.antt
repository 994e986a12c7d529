-- Words whose two numbers sum to no less than all ones.
use Rattle.std.proofs.Common.{◌≡◌, inl, inr, ℕ, ◌+◌, ◌*◌, ◌<◌, ◌≤◌, List, [], length, set, replicate, refl, arith}
use Rattle.std.proofs.lemmas.Bool.{cases_eq, cases_lt}
use Rattle.std.proofs.lemmas.List.{get_or_past, get_or-replicate, get_or-set_other, get_or-set_same, length-replicate, set_past}
use Rattle.ee_flash.specs.Device.{all_ones}
use Rattle.ee_nor.specs.Nor.{KeepsBits, NorDevice, number_in}
use Rattle.ee_nor.specs.Pairs.{IsHigh, NoLowPair, complement}
use Rattle.ee_nor.proofs.Bits.{high_stays}
use Rattle.ee_nor.proofs.Words.{other_pairs}

-- one page's numbers changed
pub no_low_with : (nor new : NorDevice) (page : ℕ) (numbers : List ℕ) → NoLowPair nor
    → IsHigh numbers → new.image ≡ set nor.image page numbers → NoLowPair new
no_low_with nor new page numbers high changed is other =
    rw is (elim (cases_eq other page) [
      | inl same ↦ elim (cases_lt page (length nor.image)) [
        | inl within ↦ rw (same, get_or-set_same nor.image page numbers [] within) changed
        | inr past ↦ rw (set_past nor.image page numbers past) (high other)
      ]
      | inr apart ↦ rw (get_or-set_other nor.image page other numbers [] apart) (high other)
    ])

-- the first number of a word, whose second is all ones
pub high_first : (numbers : List ℕ) (word number : ℕ) → IsHigh numbers
    → number_in numbers (2 * word + 1) ≡ all_ones → IsHigh (set numbers (2 * word) number)
high_first numbers word number high erased other = elim (cases_eq other word) [
  | inl same ↦
      let stays =
      get_or-set_other numbers (2 * word) (2 * word + 1) number all_ones
      (λ same. omega arith) in
      rw same (omega (arith, stays, erased))
  | inr apart ↦
      let pair = other_pairs numbers word (2 * word) number (inl refl) other apart in
      omega (arith, pair.0, pair.1, high other)
]

-- the second, whose first is a value
pub high_second : (numbers : List ℕ) (word value number : ℕ) → IsHigh numbers
    → 2 * word + 1 < length numbers → number_in numbers (2 * word) ≡ value → value ≤ all_ones
    → complement value ≤ number → IsHigh (set numbers (2 * word + 1) number)
high_second numbers word value number high within is fits least other = elim (cases_eq other word) [
  | inl same ↦
      let stays =
      get_or-set_other numbers (2 * word + 1) (2 * word) number all_ones
      (λ same. omega arith) in
      let there = get_or-set_same numbers (2 * word + 1) number all_ones within in
      rw same (omega (arith, stays, there, is))
  | inr apart ↦
      let pair = other_pairs numbers word (2 * word + 1) number (inr refl) other apart in
      omega (arith, pair.0, pair.1, high other)
]

pub high_kept : (old new : List ℕ) → KeepsBits old new → IsHigh old → IsHigh new
high_kept old new keeps high word =
    high_stays _ _ _ _ (high word) (keeps.each (2 * word)) (keeps.each (2 * word + 1))

-- all ones, so many of them and past their end
pub blank_number : (count at : ℕ) → number_in (replicate count all_ones) at ≡ all_ones
blank_number count at = elim (cases_lt at count) [
  | inl below ↦ get_or-replicate count at all_ones all_ones below
  | inr past ↦ get_or_past (replicate count all_ones) at all_ones
      (omega (arith, length-replicate count all_ones))
]

pub high_blank : (count : ℕ) → IsHigh (replicate count all_ones)
high_blank count word = omega (arith, blank_number count (2 * word))
