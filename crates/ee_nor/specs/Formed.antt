-- Why the words of a flash of numbers are formed.
use Rattle.std.specs.Prelude.{◌≡◌, ◌≢◌, ◌⊎◌, ◌<◌, ℕ, ◌*◌, List, [], length, slice_index_or}
use Rattle.std.specs.List.{All}
use Rattle.std.proofs.Common.{arith, inl, inr, refl, ◌∙◌}
use Rattle.std.proofs.lemmas.Bool.{cases_eq, cases_lt, eq-eqb, ne_eqb}
use Rattle.std.proofs.lemmas.List.{get_or-map, get_or_past, length-map}
use Rattle.std.proofs.lemmas.List.FromFn.{length-map-range_with_len, get_or-map-range_with_len}
use Rattle.ee_flash.specs.Device.{IsBelowAllOnes, IsFormed, all_ones}
use Rattle.ee_flash.specs.declared.word.Word.{Word}
use Rattle.ee_flash.specs.declared.word.Word.TheVariants.{Erased, Held, Torn}
use Rattle.ee_nor.specs.Nor.{IsNorFormed, IsNorNumber, NorDevice, number_in}
use Rattle.ee_nor.specs.Pairs.{complement, paired_device, pair_in, pair_word, pair_words}

-- what a word is
pub word_cases : (number check : ℕ)
    → ((number ≡ all_ones) × (check ≡ all_ones) × (pair_word number check ≡ Erased))
    ⊎ (((number ≢ all_ones) × (check ≡ complement number)
    × (pair_word number check ≡ Held number))
    ⊎ (pair_word number check ≡ Torn))
word_cases number check = elim (cases_eq number all_ones) [
  | inl same ↦ elim (cases_eq check all_ones) [
    | inl both ↦ inl (same, both, rw (eq-eqb number all_ones same, eq-eqb check all_ones both) refl)
    | inr other ↦ inr (inr (rw (eq-eqb number all_ones same, ne_eqb check all_ones other) refl))
  ]
  | inr other ↦ elim (cases_eq check (complement number)) [
    | inl is ↦ inr
        (inl (
          other,
          is,
          rw (ne_eqb number all_ones other, eq-eqb check (complement number) is) refl,
        ))
    | inr not ↦ inr
        (inr (rw (ne_eqb number all_ones other, ne_eqb check (complement number) not) refl))
  ]
]

pub length-pair_words : (count : ℕ) (numbers : List ℕ) → length (pair_words count numbers) ≡ count
unfolding pair_words
length-pair_words count numbers = length-map-range_with_len (pair_in numbers) 0 count

pub get_or-pair_words : (count : ℕ) (numbers : List ℕ) (at : ℕ) (none : Word) → at < count
    → slice_index_or (pair_words count numbers) at none ≡ pair_in numbers at
unfolding pair_words
get_or-pair_words count numbers at none h =
    get_or-map-range_with_len (pair_in numbers) 0 count at at none h (omega arith)

-- each number of a page fits, also past its end
pub number_fits : (numbers : List ℕ) (at : ℕ) → All IsNorNumber numbers
    → IsNorNumber (number_in numbers at)
number_fits numbers at each = elim (cases_lt at (length numbers)) [
  | inl within ↦ each at all_ones within
  | inr past ↦ omega (arith, get_or_past numbers at all_ones past)
]

pub below_all_ones : (number check : ℕ) → IsNorNumber number
    → IsBelowAllOnes (pair_word number check)
below_all_ones number check fits value is = elim (word_cases number check) [
  | inl erased ↦ let none = erased.2 in cc
  | inr (inl held) ↦ let same : number ≡ value = let word = held.2 in cc in
      let other = held.0 in omega arith
  | inr (inr torn) ↦ cc
]

words_below : (count : ℕ) (numbers : List ℕ) → All IsNorNumber numbers
    → All IsBelowAllOnes (pair_words count numbers)
words_below count numbers each at none h =
    let below : at < count = omega (arith, length-pair_words count numbers) in
    rw (get_or-pair_words count numbers at none below)
    (below_all_ones _ _ (number_fits numbers (2 * at) each))

pub pairs_are_formed : (nor : NorDevice) → IsNorFormed nor → IsFormed (paired_device nor)
pairs_are_formed nor formed =
    let words = pair_words nor.size.words in
    let count = length-map nor.image words in
    record {
      within_limits = formed.within_limits;
      image_length = count ∙ formed.image_length;
      page_lengths =
          λ page none h. rw (get_or-map words nor.image page [] none (omega (arith, count)))
          (length-pair_words nor.size.words _);
      below_all_ones =
          λ page none h. rw (get_or-map words nor.image page [] none (omega (arith, count)))
          (words_below nor.size.words _ (formed.numbers_fit page [] (omega (arith, count))));
      wear_length = formed.wear_length;
      wear_fits = formed.wear_fits;
      cuts_fit = formed.cuts_fit;
      cuts_left_fit = formed.cuts_left_fit;
    }
