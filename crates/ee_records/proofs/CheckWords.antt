-- The check of a record: no two remainders become one, so bytes of one length that differ in one word
-- have different checks.
use Rattle.std.proofs.Common.{◌≡◌, ◌≢◌, ◌∙◌, ◌<◌, ◌≤◌, ◌+◌, ◌*◌, ◌-◌, ◌/◌, ◌%◌, ℕ, zero, suc, List, inl, inr, refl, sym, ap, subst, add-one, arith, length}
use Rattle.std.specs.Int.{bit_at}
use Rattle.std.specs.Prelude.{bit_xor}
use Rattle.std.proofs.lemmas.Bool.{cases_eq}
use Rattle.std.proofs.lemmas.Bool.Decides.{nat_tests}
use Rattle.std.proofs.lemmas.Nat.{xor_comm, xor_of_32}
use Rattle.std.proofs.lemmas.Nat.Bits.{bit_at-lt, bit_at_above, bit_at_xor, same_from_bits}
use Rattle.ee_records.proofs.WordBytes.{AreBytes}
use Rattle.ee_records.specs.Check.{bit_further, bits_further, bytes_word, check_of, polynomial, remainder, word_further, words_for}

-- ---- one bit

same_bit : (a b c : ℕ) → a < 2 → b < 2 → (a + c) % 2 ≡ (b + c) % 2 → a ≡ b
same_bit a b c h1 h2 e = omega arith

-- what is added by bits can be taken away
xor_back : (a b c : ℕ) → bit_xor a c ≡ bit_xor b c → a ≡ b
xor_back a b c e =
    same_from_bits a b (λ i.
    same_bit (bit_at a i) (bit_at b i) (bit_at c i) (bit_at-lt a i) (bit_at-lt b i)
    (sym (bit_at_xor a c i) ∙ (ap (λ v. bit_at v i) e ∙ bit_at_xor b c i)))

pub odd_further : (rest : ℕ) → rest % 2 ≡ 1 → bit_further rest ≡ bit_xor (rest / 2) polynomial
odd_further rest e = grind (arith, nat_tests)

pub even_further : (rest : ℕ) → rest % 2 ≢ 1 → bit_further rest ≡ rest / 2
even_further rest ne = grind (arith, nat_tests)

bit_within : (rest : ℕ) → rest < 4294967296 → bit_further rest < 4294967296
bit_within rest low =
    let half : rest / 2 < 4294967296 = omega (arith, low) in
    elim (cases_eq (rest % 2) 1) [
      | inl odd ↦ subst (λ v. v < 4294967296) (sym (odd_further rest odd))
          (xor_of_32 (rest / 2) polynomial half (omega arith))
      | inr even ↦ subst (λ v. v < 4294967296) (sym (even_further rest even)) half
    ]

-- the highest bit tells whether the polynomial was added
high_bit : (rest : ℕ) → rest < 4294967296 → bit_at (bit_further rest) 31 ≡ rest % 2
high_bit rest low =
    let none : bit_at (rest / 2) 31 ≡ 0 = bit_at_above (rest / 2) 31 31 (omega (arith, low)) (omega arith) in
    elim (cases_eq (rest % 2) 1) [
      | inl odd ↦
          ap (λ v. bit_at v 31) (odd_further rest odd)
          ∙ (bit_at_xor (rest / 2) polynomial 31 ∙ (ap (λ b. (b + 1) % 2) none ∙ sym odd))
      | inr even ↦
          ap (λ v. bit_at v 31) (even_further rest even) ∙ (none ∙ omega (arith, even))
    ]

halves : (one other : ℕ) → one % 2 ≡ other % 2 → one / 2 ≡ other / 2 → one ≡ other
halves one other e f = omega (arith, e, f)

bit_back : (one other : ℕ) → one < 4294967296 → other < 4294967296
    → bit_further one ≡ bit_further other → one ≡ other
bit_back one other h1 h2 e =
    let same : one % 2 ≡ other % 2 =
    sym (high_bit one h1) ∙ (ap (λ v. bit_at v 31) e ∙ high_bit other h2) in
    halves one other same (elim (cases_eq (one % 2) 1) [
      | inl odd ↦
          xor_back (one / 2) (other / 2) polynomial
          (sym (odd_further one odd) ∙ (e ∙ odd_further other (sym same ∙ odd)))
      | inr even ↦
          sym (even_further one even) ∙ (e ∙ even_further other (λ odd. even (same ∙ odd)))
    ])

-- ---- a word

pub bits-zero : (rest : ℕ) → bits_further 0 rest ≡ rest
unfolding bits_further
bits-zero rest = refl

pub bits-next : (bits rest : ℕ) → bits_further (bits + 1) rest ≡ bit_further (bits_further bits rest)
unfolding bits_further
bits-next bits rest = rw add-one refl

bits_within : (bits rest : ℕ) → rest < 4294967296 → bits_further bits rest < 4294967296
unfolding bits_further
bits_within zero rest low = low
bits_within (suc bits) rest low = bit_within (bits_further bits rest) (bits_within bits rest low)

bits_back : (bits one other : ℕ) → one < 4294967296 → other < 4294967296
    → bits_further bits one ≡ bits_further bits other → one ≡ other
unfolding bits_further
bits_back zero one other h1 h2 e = e
bits_back (suc bits) one other h1 h2 e =
    bits_back bits one other h1 h2
    (bit_back (bits_further bits one) (bits_further bits other) (bits_within bits one h1)
    (bits_within bits other h2) e)

word_within : (rest word : ℕ) → rest < 4294967296 → word < 4294967296
    → word_further rest word < 4294967296
word_within rest word h1 h2 = bits_within 32 (bit_xor rest word) (xor_of_32 rest word h1 h2)

word_back : (one other word : ℕ) → one < 4294967296 → other < 4294967296 → word < 4294967296
    → word_further one word ≡ word_further other word → one ≡ other
word_back one other word h1 h2 h3 e =
    xor_back one other word
    (bits_back 32 (bit_xor one word) (bit_xor other word) (xor_of_32 one word h1 h3)
    (xor_of_32 other word h2 h3) e)

word_told : (rest one other : ℕ) → rest < 4294967296 → one < 4294967296 → other < 4294967296
    → word_further rest one ≡ word_further rest other → one ≡ other
word_told rest one other h1 h2 h3 e =
    xor_back one other rest
    (xor_comm one rest
    ∙ (bits_back 32 (bit_xor rest one) (bit_xor rest other) (xor_of_32 rest one h1 h2)
    (xor_of_32 rest other h1 h3) e
    ∙ xor_comm rest other))

-- ---- several words

pub remainder-zero : (bytes : List ℕ) → remainder bytes 0 ≡ word_further 4294967295 (length bytes)
unfolding remainder
remainder-zero bytes = refl

pub remainder-next : (bytes : List ℕ) (words : ℕ)
    → remainder bytes (words + 1) ≡ word_further (remainder bytes words) (bytes_word bytes words)
unfolding remainder
remainder-next bytes words = rw add-one refl

-- each number of a list is a byte, so each of its words has 32 bits
bytes_word-lt : (bytes : List ℕ) → AreBytes bytes → (word : ℕ) → bytes_word bytes word < 4294967296
bytes_word-lt bytes fit word =
    omega (arith, fit (4 * word), fit (4 * word + 1), fit (4 * word + 2), fit (4 * word + 3))

remainder-lt : (bytes : List ℕ) → AreBytes bytes → length bytes < 65536 → (words : ℕ)
    → remainder bytes words < 4294967296
unfolding remainder
remainder-lt bytes fit short zero =
    word_within 4294967295 (length bytes) (omega arith) (omega (arith, short))
remainder-lt bytes fit short (suc words) =
    word_within (remainder bytes words) (bytes_word bytes words)
    (remainder-lt bytes fit short words) (bytes_word-lt bytes fit words)

-- two byte strings of one length, of which one word may differ
module _ (one other : List ℕ) (changed : ℕ) (fit : AreBytes one) (fit_too : AreBytes other)
    (short : length one < 65536) (same : length one ≡ length other)
    (rest : (word : ℕ) → word ≢ changed → bytes_word one word ≡ bytes_word other word)
  where
    short_too : length other < 65536
    short_too = omega (arith, short, same)

    -- up to the word they are one
    same_before : (words : ℕ) → words ≤ changed → remainder one words ≡ remainder other words
    unfolding remainder
    same_before zero low = ap (λ n. word_further 4294967295 n) same
    same_before (suc words) low =
        ap (λ r. word_further r (bytes_word one words)) (same_before words (omega (arith, low)))
        ∙ ap (word_further (remainder other words)) (rest words (λ e. absurd (omega (arith, e, low))))

    -- behind it they are one only if the word is
    same_back : (words : ℕ) → changed < words → remainder one words ≡ remainder other words
        → bytes_word one changed ≡ bytes_word other changed
    unfolding remainder
    same_back zero low e = absurd (omega (arith, low))
    same_back (suc words) low e =
        elim (cases_eq words changed) [
          | inl here ↦
              rw (← here)
              (word_told (remainder other words) (bytes_word one words) (bytes_word other words)
              (remainder-lt other fit_too short_too words) (bytes_word-lt one fit words)
              (bytes_word-lt other fit_too words)
              (ap (λ r. word_further r (bytes_word one words))
              (sym (same_before words (omega (arith, here)))) ∙ e))
          | inr ne ↦
              same_back words (omega (arith, low, ne))
              (word_back (remainder one words) (remainder other words) (bytes_word other words)
              (remainder-lt one fit short words) (remainder-lt other fit_too short_too words)
              (bytes_word-lt other fit_too words)
              (ap (word_further (remainder one words)) (sym (rest words ne)) ∙ e))
        ]

    less_back : (m a b : ℕ) → a < m + 1 → b < m + 1 → m - a ≡ m - b → a ≡ b
    less_back m a b h1 h2 e = omega (arith, h1, h2, e)

    -- so with one check they have one word there
    pub same_check : changed < words_for (length one) → check_of one ≡ check_of other
        → bytes_word one changed ≡ bytes_word other changed
    same_check low e =
        let words : ℕ = words_for (length one) in
        let f : check_of one ≡ 4294967295 - remainder other words =
        e ∙ ap (λ n. 4294967295 - remainder other (words_for n)) (sym same) in
        same_back words low
        (less_back 4294967295 (remainder one words) (remainder other words)
        (remainder-lt one fit short words) (remainder-lt other fit_too short_too words) f)
