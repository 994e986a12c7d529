-- Of two codeword words each has two ones or more that the other lacks.
use Rattle.std.proofs.Common.{◌≡◌, ◌≢◌, ℕ, zero, suc, ◌+◌, ◌*◌, ◌-◌, ◌/◌, ◌%◌, ◌^◌, ◌<◌, ◌≤◌, refl, sym, ap, ◌∙◌, arith, inl, inr}
use Rattle.std.specs.Prelude.{count_ones, bit_and, bit_xor, Some, None}
use Rattle.std.proofs.lemmas.Bool.{cases_eq, cases_lt, cases_order, eq-eqb, ne_eqb}
use Rattle.std.proofs.lemmas.Nat.{and_comm, and_mask, ones-le, ones_cat, xor_lt}
use Rattle.std.specs.Int.Count.{ones-ones}
use Rattle.ee_nor.specs.Coded.Laws.{IsFarFromOthers}
use Rattle.ee_nor.specs.Coded.Code.{HasOnes, IsPayload, MayReadAs, payload_in, check_bits, codeword, decoded, overall_parity, half_weight, ones_lost, parity_bits, weight_row}
use Rattle.ee_nor.proofs.CodedLemmas.Bits.{gains, lost_block, lost_by, xor_lost, xor_same}
use Rattle.ee_nor.proofs.CodedLemmas.Tables.{far, places_fit, places_xor, row_fits, row_lost}

-- what is ones_lost of words: of the numbers, and of what stands in the fifteen bits
lost_word : (number other check check_too : ℕ) → IsPayload number → IsPayload other → check < 2 ^ 15
    → check_too < 2 ^ 15
    → ones_lost ((number / 2 ^ 17 * 2 ^ 15 + check) * 2 ^ 17 + number % 2 ^ 17)
    ((other / 2 ^ 17 * 2 ^ 15 + check_too) * 2 ^ 17 + other % 2 ^ 17)
    ≡ ones_lost number other + ones_lost check check_too
lost_word number other check check_too bare bare_too h h2 =
    let high = number / 2 ^ 17 in
    let high_too = other / 2 ^ 17 in
    let low = number % 2 ^ 17 in
    let low_too = other % 2 ^ 17 in
    let fits : high < 2 ^ 32 = omega arith in
    let low_fits : low < 2 ^ 17 = omega arith in
    let low_fits_too : low_too < 2 ^ 17 = omega arith in
    let all = lost_block 17 47 (high * 2 ^ 15 + check) (high_too * 2 ^ 15 + check_too) low low_too
    (omega arith) low_fits low_fits_too in
    let above = lost_block 15 32 high high_too check check_too fits h h2 in
    let bare_all = lost_block 17 32 high high_too low low_too fits low_fits low_fits_too in
    let is : number ≡ high * 2 ^ 17 + low = omega arith in
    let is_too : other ≡ high_too * 2 ^ 17 + low_too = omega arith in
    let plain : ones_lost number other ≡ ones_lost (high * 2 ^ 17 + low)
    (high_too * 2 ^ 17 + low_too) =
    λ i. ones_lost (is i) (is_too i) in
    omega (arith, all, above, plain ∙ bare_all)

ones_word : (number check : ℕ) → check < 2 ^ 15
    → count_ones ((number / 2 ^ 17 * 2 ^ 15 + check) * 2 ^ 17 + number % 2 ^ 17)
    ≡ count_ones number + count_ones check
ones_word number check h =
    let high = number / 2 ^ 17 in
    let low = number % 2 ^ 17 in
    let fits : low < 2 ^ 17 = omega arith in
    let is : number ≡ high * 2 ^ 17 + low = omega arith in
    omega (
      arith,
      ones_cat 17 (high * 2 ^ 15 + check) low fits,
      ones_cat 15 high check h,
      ap count_ones is,
      ones_cat 17 high low fits,
    )

-- ---- the check

-- a weight_row, an overall_parity and parity_bits
lost_check : (a b c d e f : ℕ) → a < 2 ^ 7 → b < 2 ^ 7 → c < 2 → d < 2 → e < 2 ^ 7 → f < 2 ^ 7
    → ones_lost (a * 2 ^ 8 + c * 2 ^ 7 + e) (b * 2 ^ 8 + d * 2 ^ 7 + f) ≡ ones_lost a b + ones_lost
    c d + ones_lost e f
lost_check a b c d e f h h2 h3 h4 h5 h6 =
    let low = lost_block 7 8 (a * 2 + c) (b * 2 + d) e f (omega arith) h5 h6 in
    let high : ones_lost (a * 2 + c) (b * 2 + d) ≡ ones_lost a b + ones_lost c d = lost_block 1 7 a
    b c d h h3 h4 in
    let is : a * 2 ^ 8 + c * 2 ^ 7 + e ≡ (a * 2 + c) * 2 ^ 7 + e = omega arith in
    let is_too : b * 2 ^ 8 + d * 2 ^ 7 + f ≡ (b * 2 + d) * 2 ^ 7 + f = omega arith in
    let whole : ones_lost (a * 2 ^ 8 + c * 2 ^ 7 + e) (b * 2 ^ 8 + d * 2 ^ 7 + f)
    ≡ ones_lost ((a * 2 + c) * 2 ^ 7 + e) ((b * 2 + d) * 2 ^ 7 + f) =
    λ i. ones_lost (is i) (is_too i) in
    omega (arith, whole, low, high)

one_bit : (bit : ℕ) → bit < 2 → count_ones bit ≡ bit
one_bit zero h = ones-ones 0
one_bit (suc zero) h = ones-ones 1
one_bit (suc (suc bit)) h = absurd (omega arith)

-- twice the half is the weight, which is even
weighed : (number : ℕ) → IsPayload number
    → (2 * half_weight number ≡ count_ones number + count_ones
    (parity_bits number) + overall_parity number)
    × (half_weight number < 29)
weighed number bare =
    let few = ones-le 49 number bare in
    let few_places = ones-le 7 (parity_bits number) (places_fit number) in
    (omega arith, omega (arith, few, few_places))

-- the numbers, their parity_bits and their eveners differ in four bits or more
four : (number other : ℕ) → IsPayload number → IsPayload other → number ≢ other
    → 3 ≤ ones_lost number other + ones_lost other number
    + (ones_lost (parity_bits number) (parity_bits other) + ones_lost (parity_bits other)
    (parity_bits number))
four number other bare bare_too apart =
    let differ = far (bit_xor number other) (xor_lt 49 number other bare bare_too)
    (λ none. apart (xor_same 49 number other bare bare_too none)) in
    let numbers = xor_lost 49 number other bare bare_too in
    let fit = places_fit number in
    let fit_too = places_fit other in
    let of_places = xor_lost 7 (parity_bits number) (parity_bits other) fit fit_too in
    let same = ap count_ones (places_xor number other) in
    omega (arith, differ, numbers, of_places, same)

-- The sum, of two weights: what is lost and gained of numbers, parities and overall parities, and
-- what is lost of rows.
settle : (half half_too a b c d e f g : ℕ)
    → 2 * half + (b + (d + f)) ≡ 2 * half_too + (a + (c + e)) → 3 ≤ a + b + (c + d)
    → (half < half_too → (1 ≤ g) × (half + 1 < half_too → 2 ≤ g)) → 2 ≤ a + (c + e) + g
settle half half_too a b c d e f g weights apart rows = elim (cases_order half half_too) [
  | inl same ↦ omega arith
  | inr (inl less) ↦ elim (cases_lt (half + 1) half_too) [
    | inl more ↦ let two = (rows less).1 more in omega arith
    | inr next ↦ let one = (rows less).0 in omega arith
  ]
  | inr (inr more) ↦ omega arith
]

pub check_fits : (number : ℕ) → IsPayload number → check_bits number < 2 ^ 15
check_fits number bare =
    omega (arith, (row_fits (half_weight number) (weighed number bare).1).0, places_fit number)

pub coded_fits : (number : ℕ) → IsPayload number → codeword number < 2 ^ 64
unfolding codeword
coded_fits number bare = omega (arith, check_fits number bare)

-- a codeword word has two zeros or more
pub coded_ones : (number : ℕ) → IsPayload number → count_ones (codeword number) ≤ 62
unfolding codeword
coded_ones number bare =
    let even = weighed number bare in
    let fits = row_fits (half_weight number) (even.1) in
    let places_fits = places_fit number in
    let word = ones_word number (check_bits number) (check_fits number bare) in
    let low = ones_cat 7 (weight_row (half_weight number) * 2 + overall_parity number)
    (parity_bits number) places_fits in
    let high = ones_cat 1 (weight_row (half_weight number)) (overall_parity number) (omega arith) in
    let is : check_bits number ≡ (weight_row (half_weight number) * 2 + overall_parity number) * 2
    ^ 7 + parity_bits number =
    omega arith in
    omega (
      arith,
      word,
      ap count_ones is,
      low,
      high,
      one_bit (overall_parity number)
          (omega arith),
      even.0,
      fits.1,
    )

none_is_near_another : (number other : ℕ) → IsPayload number → IsPayload other → number ≢ other
    → 2 ≤ ones_lost (codeword number) (codeword other)
unfolding codeword
none_is_near_another number other bare bare_too apart =
    let even = weighed number bare in
    let even_too = weighed other bare_too in
    let fits = (row_fits (half_weight number) (even.1)).0 in
    let fits_too = (row_fits (half_weight other) (even_too.1)).0 in
    let places_fits = places_fit number in
    let places_fits_too = places_fit other in
    let word = lost_word number other (check_bits number) (check_bits other) bare bare_too
    (omega arith)
    (omega arith) in
    let check = lost_check (weight_row (half_weight number)) (weight_row (half_weight other))
    (overall_parity number)
    (overall_parity other) (parity_bits number) (parity_bits other) fits fits_too (omega arith)
    (omega arith) places_fits places_fits_too in
    let apart_by = four number other bare bare_too apart in
    let numbers = gains 49 number other bare bare_too in
    let of_places = gains 7 (parity_bits number) (parity_bits other) places_fits places_fits_too in
    let of_eveners = gains 1 (overall_parity number) (overall_parity other) (omega arith)
    (omega arith) in
    let one = one_bit (overall_parity number) (omega arith) in
    let one_too = one_bit (overall_parity other) (omega arith) in
    let rows : (half_weight number < half_weight other
    → (1 ≤ ones_lost (weight_row (half_weight number)) (weight_row (half_weight other)))
    × (half_weight number + 1 < half_weight other
    → 2 ≤ ones_lost (weight_row (half_weight number)) (weight_row (half_weight other)))) =
    λ less. row_lost (half_weight number) (half_weight other) less (even_too.1) in
    let sum = settle (half_weight number) (half_weight other)
    (ones_lost number other) (ones_lost other number) (ones_lost (parity_bits number)
    (parity_bits other))
    (ones_lost (parity_bits other) (parity_bits number)) (ones_lost (overall_parity number)
    (overall_parity other))
    (ones_lost (overall_parity other) (overall_parity number)) (ones_lost (weight_row
    (half_weight number)) (weight_row (half_weight other)))
    (omega (arith, numbers, of_places, of_eveners, one, one_too, even.0, even_too.0)) apart_by rows
    in
    omega (arith, word, check, sum)

pub coded_payload : (number : ℕ) → IsPayload number → payload_in (codeword number) ≡ number
unfolding codeword
coded_payload number bare = let fits = check_fits number bare in omega arith

beside_is_bare : (word : ℕ) → word < 2 ^ 64 → IsPayload (payload_in word)
beside_is_bare word fits = omega arith

pub far_from_others : (payload word : ℕ) → IsPayload payload → word ≡ codeword payload
    → IsFarFromOthers payload word
far_from_others payload word bare is other bare_too apart =
    rw is (
      none_is_near_another payload other bare bare_too (λ same. apart (sym same)),
      none_is_near_another other payload bare_too bare apart,
    )

pub decoded_again : (payload : ℕ) → IsPayload payload → decoded (codeword payload) ≡ Some payload
decoded_again payload bare =
    let back = coded_payload payload bare in
    rw (eq-eqb (codeword payload) (codeword (payload_in (codeword payload))) (sym
    (ap codeword back)))
    (ap Some back)

held_is_coded : (word held : ℕ) → word < 2 ^ 64 → decoded word ≡ Some held
    → (word ≡ codeword held) × IsPayload held
held_is_coded word held fits is = elim (cases_eq word (codeword (payload_in word))) [
  | inl same ↦
      let here : decoded word ≡ Some (payload_in word) = rw (eq-eqb word (codeword
      (payload_in word)) same) refl in
      let held_is : payload_in word ≡ held = cc in
      (same ∙ ap codeword held_is, omega (arith, held_is, beside_is_bare word fits))
  | inr other ↦
      let none : decoded word ≡ None = rw (ne_eqb word (codeword
      (payload_in word)) other) refl in cc
]

-- what is ones_lost of a codeword word by one bit that is turned, from one that has all its bits
told : (number left read held : ℕ) → IsPayload number → left < 2 ^ 64 → read < 2 ^ 64
    → ones_lost (codeword number) left ≡ 0 → MayReadAs left read → decoded read ≡ Some held
    → held ≡ number
told number left read held bare fits read_fits none turned is =
    let there = held_is_coded read held read_fits is in
    elim (cases_eq held number) [
      | inl same ↦ same
      | inr apart ↦
          let near = none_is_near_another number held bare (there.1) (λ same. apart (sym same)) in
          let way = lost_by 64 (codeword number) left read (coded_fits number bare) fits in
          let one = xor_lost 64 left read fits read_fits in
          let last = ap (λ (k : ℕ). ones_lost (codeword number) k) (there.0) in
          absurd (omega (arith, near, none, way, one, turned, last))
    ]

none_lost : (word other : ℕ) → HasOnes word other → ones_lost other word ≡ 0
none_lost word other has = omega (arith, ap count_ones (and_comm other word ∙ has))

-- a word that was cut on its way to a payload, read with one bit turned at most
pub torn_payload : (payload left read held : ℕ) → IsPayload payload → left < 2 ^ 64
    → HasOnes left (codeword payload) → MayReadAs left read → read < 2 ^ 64
    → decoded read ≡ Some held → held ≡ payload
torn_payload payload left read held bare fits has turned read_fits is =
    told payload left read held bare fits read_fits (none_lost left (codeword payload) has) turned is

-- one that was cut in an erase behind that
pub erased_payload : (payload before left read held : ℕ) → IsPayload payload → before < 2 ^ 64
    → left < 2 ^ 64 → HasOnes before (codeword payload) → HasOnes left before
    → MayReadAs left read → read < 2 ^ 64 → decoded read ≡ Some held → held ≡ payload
erased_payload payload before left read held bare before_fits fits has still turned read_fits is =
    let way = lost_by 64 (codeword payload) before left (coded_fits payload bare) before_fits in
    told payload left read held bare fits read_fits
    (omega (arith, way, none_lost before (codeword payload) has, none_lost left before still))
    turned is

pub erased_as_none : (read : ℕ) → read < 2 ^ 64 → MayReadAs (2 ^ 64 - 1) read → decoded read ≡ None
erased_as_none read fits turned = elim (cases_eq read (codeword (payload_in read))) [
  | inl same ↦
      let bare = beside_is_bare read fits in
      let both : bit_and (2 ^ 64 - 1) read ≡ read =
      and_comm (2 ^ 64 - 1) read ∙ and_mask read 64 ∙ omega arith in
      absurd (omega (
        arith,
        ap count_ones both,
        ones-ones 64,
        ap count_ones same,
        coded_ones (payload_in read) bare,
        xor_lost 64 (2 ^ 64 - 1) read (omega arith) fits,
        turned,
      ))
  | inr other ↦ rw (ne_eqb read (codeword (payload_in read)) other) refl
]
