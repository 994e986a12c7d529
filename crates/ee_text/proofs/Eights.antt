-- Eight digits in the bytes of one word.
use Rattle.std.proofs.Common.{◌≡◌, ℕ, zero, suc, ◌+◌, ◌-◌, ◌*◌, ◌/◌, ◌%◌, ◌^◌, ◌<◌, ◌≤◌, Bool, ltb, not, List, [], ◌∷◌, length, get_or, take, drop, map, inl, inr, refl, sym, ◌∙◌, ap, ap₂, arith, bit_and, one-add, w64, rules}
use Rattle.std.specs.Char.{digit_value}
use Rattle.std.specs.Int.{from_be_bytes}
use Rattle.std.specs.Int.Digits.{AllBelowBase, number_from_digits}
use Rattle.std.specs.List.{prefix_len}
use Rattle.std.specs.Str.Parse.{AllDigits}
use Rattle.std.proofs.lemmas.Bool.{cases_lt, le-ltb, lt-ltb}
use Rattle.std.proofs.lemmas.Int.Digits.{all_below_base_from_digits, digits_value_is, number_more}
use Rattle.std.proofs.lemmas.List.{length-map, length-take, take_all}
use Rattle.std.proofs.lemmas.Nat.{and_block, and_mask, shr-shr}
use Rattle.ee_text.specs.Number.{IsWorth, StartsWithNoDigit}
use Rattle.ee_text.proofs.Digits.{digit_value_is}

-- of the lowest 2 * k bits the lower k, and of those above them what the mask keeps
lower_half : (k high upper lower mask : ℕ) → upper < 2 ^ k → lower < 2 ^ k
    → upper * 2 ^ k + lower < 2 ^ (k + k) → 2 ^ k - 1 < 2 ^ (k + k)
    → (upper * 2 ^ k + lower) % 2 ^ k ≡ lower
    → bit_and (high * 2 ^ (k + k) + (upper * 2 ^ k + lower)) (mask * 2 ^ (k + k) + (2 ^ k - 1))
    ≡ bit_and high mask * 2 ^ (k + k) + lower
lower_half k high upper lower mask u l fits ones rest =
    and_block (k + k) high mask (upper * 2 ^ k + lower) (2 ^ k - 1) fits ones
    ∙ ap (λ n. bit_and high mask * 2 ^ (k + k) + n) (and_mask (upper * 2 ^ k + lower) k ∙ rest)

-- one byte of two, and one of two pairs
byte_of_two : (high upper lower mask : ℕ) → upper < 256 → lower < 256
    → bit_and (high * 65536 + (upper * 256 + lower)) (mask * 65536 + 255)
    ≡ bit_and high mask * 65536 + lower
byte_of_two high upper lower mask u l =
    lower_half 8 high upper lower mask u l (omega arith) (omega arith) (omega arith)

pair_of_two : (high upper lower mask : ℕ) → upper < 65536 → lower < 65536
    → bit_and (high * 4294967296 + (upper * 65536 + lower)) (mask * 4294967296 + 65535)
    ≡ bit_and high mask * 4294967296 + lower
pair_of_two high upper lower mask u l =
    lower_half 16 high upper lower mask u l (omega arith) (omega arith) (omega arith)

-- the upper byte of each two
upper_bytes : (word a b c d e f g h : ℕ) → AllBelowBase 256 (a ∷ b ∷ c ∷ d ∷ e ∷ f ∷ g ∷ h ∷ [])
    → word ≡ number_from_digits 256 (a ∷ b ∷ c ∷ d ∷ e ∷ f ∷ g ∷ h ∷ [])
    → bit_and (word / 256) 71777214294589695 ≡ number_from_digits 65536 (a ∷ c ∷ e ∷ g ∷ [])
upper_bytes word a b c d e f g h below is =
    let first : bit_and a 255 ≡ a = and_mask a 8 ∙ omega (arith, below) in
    let second = byte_of_two a b c 255 below.1.0 below.1.1.0 in
    let third =
    byte_of_two (a * 65536 + (b * 256 + c)) d e 16711935 below.1.1.1.0 below.1.1.1.1.0 in
    let fourth =
    byte_of_two ((a * 65536 + (b * 256 + c)) * 65536 + (d * 256 + e)) f g 1095233372415
    below.1.1.1.1.1.0 below.1.1.1.1.1.1.0 in
    let above : word / 256
    ≡ ((a * 65536 + (b * 256 + c)) * 65536 + (d * 256 + e)) * 65536 + (f * 256 + g) =
    omega (arith, is, below) in
    ap (λ n. bit_and n 71777214294589695) above ∙ omega (arith, first, second, third, fourth)

-- the upper pair of each two
upper_pairs : (word a b c d : ℕ) → AllBelowBase 65536 (a ∷ b ∷ c ∷ d ∷ [])
    → word ≡ number_from_digits 65536 (a ∷ b ∷ c ∷ d ∷ [])
    → bit_and (word / 65536) 281470681808895 ≡ number_from_digits 4294967296 (a ∷ c ∷ [])
upper_pairs word a b c d below is =
    let first : bit_and a 65535 ≡ a = and_mask a 16 ∙ omega (arith, below) in
    let second = pair_of_two a b c 65535 below.1.0 below.1.1.0 in
    let above : word / 65536 ≡ a * 4294967296 + (b * 65536 + c) = omega (arith, is, below) in
    ap (λ n. bit_and n 281470681808895) above ∙ omega (arith, first, second)

-- what the steps leave of a word, one after the other
worth_by_steps : (word pairs fours a b c d e f g h : ℕ)
    → AllBelowBase 10 (a ∷ b ∷ c ∷ d ∷ e ∷ f ∷ g ∷ h ∷ [])
    → word ≡ number_from_digits 256 (a ∷ b ∷ c ∷ d ∷ e ∷ f ∷ g ∷ h ∷ [])
    → pairs ≡ word - 246 * bit_and (word / 256) 71777214294589695
    → fours ≡ pairs - 65436 * bit_and (pairs / 65536) 281470681808895
    → fours - 4294957296 * (fours / 4294967296)
    ≡ number_from_digits 10 (a ∷ b ∷ c ∷ d ∷ e ∷ f ∷ g ∷ h ∷ [])
worth_by_steps word pairs fours a b c d e f g h below is two four =
    let bytes : AllBelowBase 256 (a ∷ b ∷ c ∷ d ∷ e ∷ f ∷ g ∷ h ∷ []) = search (arith, below) in
    let pairs_are : pairs
    ≡ number_from_digits 65536 ((a * 10 + b) ∷ (c * 10 + d) ∷ (e * 10 + f) ∷ (g * 10 + h) ∷ [])
    =
    omega (arith, two, is, upper_bytes word a b c d e f g h bytes is) in
    let small : AllBelowBase 65536 ((a * 10 + b) ∷ (c * 10 + d) ∷ (e * 10 + f) ∷ (g * 10 + h) ∷ [])
    =
    search (arith, below) in
    let fours_are : fours
    ≡ ((a * 10 + b) * 100 + (c * 10 + d)) * 4294967296 + ((e * 10 + f) * 100 + (g * 10 + h)) =
    omega (
      arith,
      four,
      pairs_are,
      upper_pairs pairs (a * 10 + b) (c * 10 + d) (e * 10 + f) (g * 10 + h) small
          pairs_are,
    ) in
    omega (arith, fours_are, below)

-- what the three steps leave of a word is what the digits are worth
abbrev pub Worth : ℕ → List ℕ → Type 0
Worth word digits =
    (pairs fours : ℕ) → pairs ≡ word - 246 * bit_and (word / 256) 71777214294589695
    → fours ≡ pairs - 65436 * bit_and (pairs / 65536) 281470681808895
    → fours - 4294957296 * (fours / 4294967296) ≡ number_from_digits 10 digits

-- eight digits, and fewer, which zeros in front make eight
worth_of_eight : (word : ℕ) (digits : List ℕ) → length digits ≡ 8 → AllBelowBase 10 digits
    → word ≡ number_from_digits 256 digits → Worth word digits
worth_of_eight word [] long below is pairs fours two four = absurd (omega (arith, long))
worth_of_eight word (a ∷ []) long below is pairs fours two four = absurd (omega (arith, long))
worth_of_eight word (a ∷ b ∷ []) long below is pairs fours two four = absurd (omega (arith, long))
worth_of_eight word (a ∷ b ∷ c ∷ []) long below is pairs fours two four =
    absurd (omega (arith, long))
worth_of_eight word (a ∷ b ∷ c ∷ d ∷ []) long below is pairs fours two four =
    absurd (omega (arith, long))
worth_of_eight word (a ∷ b ∷ c ∷ d ∷ e ∷ []) long below is pairs fours two four =
    absurd (omega (arith, long))
worth_of_eight word (a ∷ b ∷ c ∷ d ∷ e ∷ f ∷ []) long below is pairs fours two four =
    absurd (omega (arith, long))
worth_of_eight word (a ∷ b ∷ c ∷ d ∷ e ∷ f ∷ g ∷ []) long below is pairs fours two four =
    absurd (omega (arith, long))
worth_of_eight word (a ∷ b ∷ c ∷ d ∷ e ∷ f ∷ g ∷ h ∷ []) long below is pairs fours two four =
    worth_by_steps word pairs fours a b c d e f g h below is two four
worth_of_eight word (a ∷ b ∷ c ∷ d ∷ e ∷ f ∷ g ∷ h ∷ i ∷ more) long below is pairs fours two four =
    absurd (omega (arith, long))

worth_behind_zeros : (zeros : ℕ) (word : ℕ) (digits : List ℕ) → zeros + length digits ≡ 8
    → AllBelowBase 10 digits → word ≡ number_from_digits 256 digits → Worth word digits
worth_behind_zeros zero word digits long below is =
    worth_of_eight word digits (omega (arith, long)) below is
worth_behind_zeros (suc zeros) word digits long below is =
    worth_behind_zeros zeros word (0 ∷ digits) (omega (arith, long)) (omega arith, below) is

pub worth_is : (word : ℕ) (digits : List ℕ) → length digits ≤ 8 → AllBelowBase 10 digits
    → word ≡ number_from_digits 256 digits → Worth word digits
worth_is word digits long below is =
    worth_behind_zeros (8 - length digits) word digits (omega (arith, long)) below is

-- ---- the word of eight bytes, and a shift that leaves those at the front

word_is : (bytes : List ℕ) → length bytes ≡ 8
    → from_be_bytes w64 bytes ≡ number_from_digits 256 bytes
word_is bytes long =
    let more = number_more 256 bytes in
    let whole = ap (number_from_digits 256) (take_all 8 bytes (omega (arith, long))) in
    omega (
      arith,
      whole,
      more 0 (omega (arith, long)),
      more 1 (omega (arith, long)),
      more 2 (omega (arith, long)),
      more 3 (omega (arith, long)),
      more 4 (omega (arith, long)),
      more 5 (omega (arith, long)),
      more 6 (omega (arith, long)),
      more 7 (omega (arith, long)),
    )

shifted : (bytes : List ℕ) → ((k : ℕ) → get_or bytes k 0 < 256) → (gone count : ℕ)
    → count + gone ≡ length bytes
    → number_from_digits 256 bytes / 2 ^ (8 * gone) ≡ number_from_digits 256 (take count bytes)
shifted bytes below zero count long =
    omega (arith, ap (number_from_digits 256) (take_all count bytes (omega (arith, long))))
shifted bytes below (suc gone) count long =
    let before = shifted bytes below gone (count + 1) (omega (arith, long)) in
    let power : 8 * suc gone ≡ 8 * gone + 8 = omega arith in
    ap (λ k. number_from_digits 256 bytes / 2 ^ k) power
    ∙ sym (shr-shr (number_from_digits 256 bytes) (8 * gone) 8)
    ∙ ap (λ n. n / 256) before
    ∙ omega (arith, number_more 256 bytes count (omega (arith, long)), below count)

-- ---- the bytes that are digits, from the front

-- what a byte is worth as a digit, and whether it is none
abbrev pub as_digit : ℕ → ℕ
as_digit byte = (byte + 208) % 256

abbrev pub is_digit : ℕ → Bool
is_digit digit = not (ltb 9 digit)

-- so many bytes at the front are digits, worth as much, and no more
pub record IsFront (bytes : List ℕ) (count : ℕ) : Type 0 where
  pub within : count ≤ length bytes
  pub digits : AllDigits 10 (take count bytes)
  pub values : map digit_value (take count bytes) ≡ take count (map as_digit bytes)
  pub all : StartsWithNoDigit (drop count bytes)

front_cons : (byte : ℕ) (bytes : List ℕ) (count : ℕ) → byte < 256 → as_digit byte ≤ 9
    → IsFront bytes count → IsFront (byte ∷ bytes) (suc count)
front_cons byte bytes count fits digit front = search (rules, arith, ap₂, digit_value_is)

front_ends : (byte : ℕ) (bytes : List ℕ) → byte < 256 → 9 < as_digit byte → IsFront (byte ∷ bytes) 0
front_ends byte bytes fits other = search (rules, arith, cases_lt)

pub front_is_digits : (bytes : List ℕ) → ((k : ℕ) → get_or bytes k 0 < 256)
    → IsFront bytes (prefix_len is_digit (map as_digit bytes))
front_is_digits [] below = record { within = omega arith; digits = tt; values = refl; all = tt }
front_is_digits (byte ∷ bytes) below =
    elim (cases_lt 9 (as_digit byte)) [
      | inl other ↦ rw (lt-ltb 9 (as_digit byte) other) (front_ends byte bytes (below 0) other)
      | inr digit ↦ rw (le-ltb 9 (as_digit byte) (omega arith), one-add)
          (front_cons byte bytes _ (below 0) (omega arith)
          (front_is_digits bytes (λ k. below (suc k))))
    ]

as_digits_below : (bytes : List ℕ) (k : ℕ) → get_or (map as_digit bytes) k 0 < 256
as_digits_below [] k = omega arith
as_digits_below (byte ∷ bytes) zero = omega arith
as_digits_below (byte ∷ bytes) (suc k) = as_digits_below bytes k

-- what the shifted word is worth, the digits at the front are
pub front_is_worth : (bytes digits : List ℕ) (word count bits value : ℕ) → length bytes ≡ 8
    → digits ≡ map as_digit bytes → word ≡ from_be_bytes w64 digits → IsFront bytes count
    → bits + 8 * count ≡ 64
    → ((ds : List ℕ) → length ds ≤ 8 → AllBelowBase 10 ds
    → word / 2 ^ bits ≡ number_from_digits 256 ds → value ≡ number_from_digits 10 ds)
    → IsWorth bytes count value
front_is_worth bytes digits word count bits value long same is front gone worth =
    let values = map as_digit bytes in
    let as_long : length values ≡ 8 = length-map bytes as_digit ∙ long in
    let word_gives : word ≡ number_from_digits 256 values =
    is ∙ ap (from_be_bytes w64) same ∙ word_is values as_long in
    let bytes_gone : bits ≡ 8 * (8 - count) = omega (arith, gone) in
    let few : length (map digit_value (take count bytes)) ≤ 8 =
    omega (arith, length-map (take count bytes) digit_value, length-take count bytes, long) in
    let shift : word / 2 ^ bits ≡ number_from_digits 256 (map digit_value (take count bytes)) =
    ap (λ n. n / 2 ^ bits) word_gives ∙ ap (λ k. number_from_digits 256 values / 2 ^ k) bytes_gone
    ∙ shifted values (as_digits_below bytes) (8 - count) count
    (omega (arith, front.within, long, as_long))
    ∙ ap (number_from_digits 256) (sym front.values) in
    record {
      within = front.within;
      digits = front.digits;
      value_is =
          worth (map digit_value (take count bytes)) few
          (all_below_base_from_digits 10 (take count bytes) front.digits) shift
          ∙ sym (digits_value_is 10 (take count bytes));
    }
