-- What a change of a page's numbers does to its words.
use Rattle.std.proofs.Common.{rules, ◌≡◌, ◌≢◌, ◌⊎◌, inl, inr, ℕ, ◌+◌, ◌*◌, ◌<◌, ◌≤◌, List, length, set, replicate, refl, sym, ap, ◌∙◌, arith}
use Rattle.std.proofs.lemmas.Bool.{cases_eq, cases_lt}
use Rattle.std.proofs.lemmas.List.{ext_get_or, get_or-map, get_or_past, get_or-replicate, get_or-set_other, get_or-set_same, length-replicate, length-set, map-set}
use Rattle.ee_flash.specs.Device.{all_ones}
use Rattle.ee_flash.specs.Step.{IsPartlyErased, with_page_erased, with_word}
use Rattle.ee_flash.specs.declared.word.Word.TheVariants.{Erased, Held, Torn}
use Rattle.ee_nor.specs.Nor.{HasBits, IsNorNumber, KeepsBits, MakesNoPair, NorDevice, number_in, numbers_at, with_numbers, with_numbers_erased}
use Rattle.ee_nor.specs.Pairs.{paired_device, pair_in, sum_in, pair_word, pair_words}
use Rattle.ee_nor.specs.Formed.{get_or-pair_words, length-pair_words, word_cases}
use Rattle.ee_nor.proofs.Bits.{makes_no_number, no_less}

-- where one word's numbers change, that word does
pub pair_words-changed : (count : ℕ) (old new : List ℕ) (word : ℕ)
    → ((other : ℕ) → other ≢ word → pair_in new other ≡ pair_in old other)
    → pair_words count new ≡ set (pair_words count old) word (pair_in new word)
pair_words-changed count old new word others =
    let words = pair_words count old in
    let long = length-set words word (pair_in new word) ∙ length-pair_words count old in
    ext_get_or Erased _ _ (length-pair_words count new ∙ sym long) (λ k h.
    let below : k < count = omega (arith, length-pair_words count new) in
    get_or-pair_words count new k Erased below ∙ elim (cases_eq k word) [
      | inl same ↦ rw (
        same,
        get_or-set_same words word (pair_in new word) Erased
            (omega (arith, length-pair_words count old)),
      ) refl
      | inr other ↦ others k other
          ∙ sym
          (get_or-set_other words word k (pair_in new word) Erased other
          ∙ get_or-pair_words count old k Erased below)
    ])

-- the numbers of other words stay where one number changes
pub other_pairs : (numbers : List ℕ) (word place number : ℕ)
    → (place ≡ 2 * word) ⊎ (place ≡ 2 * word + 1) → (other : ℕ) → other ≢ word
    → (number_in (set numbers place number) (2 * other) ≡ number_in numbers (2 * other))
    × (number_in (set numbers place number) (2 * other + 1) ≡ number_in numbers (2 * other + 1))
other_pairs numbers word place number is other apart = search (rules, get_or-set_other)

-- the pages of words of changed numbers
pub paired_device-with : (nor : NorDevice) (page word : ℕ) (numbers : List ℕ)
    → page < length nor.image
    → ((other : ℕ) → other ≢ word → pair_in numbers other ≡ pair_in (numbers_at nor page) other)
    → paired_device (with_numbers page numbers nor)
    ≡ with_word page word (pair_in numbers word) (paired_device nor)
paired_device-with nor page word numbers within others =
    search (rules, get_or-map, pair_words-changed, map-set)

pair_words-erased : (count : ℕ)
    → pair_words count (replicate (2 * count) all_ones) ≡ replicate count Erased
pair_words-erased count =
    let numbers = replicate (2 * count) all_ones in
    ext_get_or Erased _ _ (length-pair_words count numbers ∙ sym (length-replicate count Erased)) (λ
    k h.
    let below : k < count = omega (arith, length-pair_words count numbers) in
    rw (
      get_or-pair_words count numbers k Erased below,
      get_or-replicate (2 * count) (2 * k) all_ones all_ones (omega arith),
      get_or-replicate (2 * count) (2 * k + 1) all_ones all_ones (omega arith),
      get_or-replicate count k Erased Erased below,
    ) refl)

pub paired_device-erased : (nor : NorDevice) (page : ℕ)
    → paired_device (with_numbers_erased page nor) ≡ with_page_erased page (paired_device nor)
paired_device-erased nor page = search (rules, map-set, pair_words-erased)

-- ---- cuts

-- a word whose first number was cut on its way to a value
pub first_cut : (value number : ℕ) → value < all_ones → HasBits number value
    → (pair_word number all_ones ≡ Erased)
    ⊎ ((pair_word number all_ones ≡ Held value) ⊎ (pair_word number all_ones ≡ Torn))
first_cut value number below has = elim (word_cases number all_ones) [
  | inl erased ↦ inl erased.2
  | inr (inl held) ↦
      let is = held.1 in
      let same : number ≡ value = omega (arith, no_less number value has) in
      inr (inl (held.2 ∙ ap Held same))
  | inr (inr torn) ↦ inr (inr torn)
]

-- a word whose second number was
pub second_cut : (value check : ℕ) → value < all_ones
    → (pair_word value check ≡ Held value) ⊎ (pair_word value check ≡ Torn)
second_cut value check below = elim (word_cases value check) [
  | inl erased ↦ let same = erased.0 in absurd (omega arith)
  | inr (inl held) ↦ inl held.2
  | inr (inr torn) ↦ inr torn
]

-- a word whose page was cut in its erase
pub erase_cut : (number check left left_check : ℕ) → IsNorNumber left → all_ones ≤ number + check
    → HasBits left number → HasBits left_check check
    → (pair_word left left_check ≡ pair_word number check)
    ⊎ ((pair_word left left_check ≡ Erased) ⊎ (pair_word left left_check ≡ Torn))
erase_cut number check left left_check fits high has has_check = elim (word_cases left left_check) [
  | inl erased ↦ inr (inl erased.2)
  | inr (inl held) ↦ inl
      (held.2
      ∙ sym (makes_no_number number check left left_check left fits high has has_check held.2))
  | inr (inr torn) ↦ inr (inr torn)
]

pub partly_erased : (count : ℕ) (old new : List ℕ) → KeepsBits old new
    → ((at : ℕ) → IsNorNumber (number_in new at)) → ((word : ℕ) → all_ones ≤ sum_in old word)
    → IsPartlyErased (pair_words count old) (pair_words count new)
partly_erased count old new keeps fits high = record {
  as_long = length-pair_words count new ∙ sym (length-pair_words count old);
  each = λ at. elim (cases_lt at count) [
    | inl below ↦ rw
        (get_or-pair_words count new at Erased below, get_or-pair_words count old at Erased below)
        (erase_cut _ _ _ _ (fits (2 * at)) (high at) (keeps.each (2 * at))
        (keeps.each (2 * at + 1)))
    | inr past ↦ inr
        (inl
        (get_or_past (pair_words count new) at Erased
        (omega (arith, length-pair_words count new))))
  ];
}

-- a word whose page was cleared first, and cut in its erase
unmade_word : (number check left left_check : ℕ) → IsNorNumber left
    → (left ≢ all_ones → left + left_check ≡ all_ones → (left ≡ number) × (left_check ≡ check))
    → (pair_word left left_check ≡ pair_word number check)
    ⊎ ((pair_word left left_check ≡ Erased) ⊎ (pair_word left left_check ≡ Torn))
unmade_word number check left left_check fits none = elim (word_cases left left_check) [
  | inl erased ↦ inr (inl erased.2)
  | inr (inl held) ↦
      let is = held.1 in
      let same = none held.0 (omega arith) in
      inl (rw (same.0, same.1) refl)
  | inr (inr torn) ↦ inr (inr torn)
]

pub partly_unmade : (count : ℕ) (old new : List ℕ) → MakesNoPair old new
    → ((at : ℕ) → IsNorNumber (number_in new at))
    → IsPartlyErased (pair_words count old) (pair_words count new)
partly_unmade count old new none fits = record {
  as_long = length-pair_words count new ∙ sym (length-pair_words count old);
  each = λ at. elim (cases_lt at count) [
    | inl below ↦ rw
        (get_or-pair_words count new at Erased below, get_or-pair_words count old at Erased below)
        (unmade_word _ _ _ _ (fits (2 * at)) (none.each at))
    | inr past ↦ inr
        (inl
        (get_or_past (pair_words count new) at Erased
        (omega (arith, length-pair_words count new))))
  ];
}
