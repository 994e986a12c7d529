-- Pairs of numbers, their bytes, and the words that they are.
use Rattle.std.proofs.Common.{rules, ◌≡◌, ◌≢◌, ℕ, ◌+◌, ◌*◌, ◌<◌, ◌≤◌, List, [], ◌∷◌, ◌++◌, map, length, take, drop, refl, sym, ap, ◌∙◌, subst, arith, inl, inr, length-append}
use Rattle.std.specs.Int.{from_le_bytes, to_le_bytes, w64}
use Rattle.std.specs.List.{All, flat_map}
use Rattle.std.proofs.lemmas.Bool.{cases_lt, eq-eqb, ne_eqb}
use Rattle.std.proofs.lemmas.List.{drop_at, get_or_past, take_at}
use Rattle.std.proofs.lemmas.List.Elements.{All-cons, All-head, All-nil, All-tail}
use Rattle.std.proofs.lemmas.Nat.{from_le_bytes-to_le_bytes_8, same_from_place}
use Rattle.ee_flash.specs.Device.{IsBelowAllOnes, all_ones}
use Rattle.ee_flash.specs.Size.{Size}
use Rattle.ee_flash.specs.declared.word.Word.{Word}
use Rattle.ee_flash.specs.declared.word.Word.TheVariants.{Erased, Held, Torn}
use Rattle.ee_nor.specs.Formed.{word_cases}
use Rattle.ee_nor.specs.Pairs.{complement}
use Rattle.ee_shell.specs.Dumps.Dump.{paired_bytes}
use Rattle.ee_shell.specs.Dumps.Pair.{AreBytesOf, AreWordsOfPairs, IsFirstLowPair, IsHighPair, IsPair, Pair, erased_pair, pair_bytes, sum_at, word_of_pair}
use Rattle.ee_shell.specs.Dumps.Reading.{AreWhole}
use Rattle.ee_shell.specs.declared.dumps.fault.DumpFault.TheVariants.{LowPair}
use Rattle.ee_interface.specs.declared.command_line.form.Form.TheVariants.{Pairs}
use Rattle.ee_shell.proofs.DumpsLemmas.Words.{head_whole}

-- ---- the pair of a word

abbrev kept : Word → Pair
kept Erased = erased_pair
kept (Held value) = record { number = value; check = complement value }
kept Torn = erased_pair

kept_word : (word : Word) → IsBelowAllOnes word → word ≢ Torn → word ≡ word_of_pair (kept word)
kept_word Erased below whole = refl
kept_word (Held value) below whole =
    let less : value < all_ones = below value refl in
    rw (
      ne_eqb value all_ones (λ e. omega (arith, e)),
      eq-eqb (complement value) (complement value) refl,
    ) refl
kept_word Torn below whole = absurd (whole refl)

kept_bytes : (word : Word) → word ≢ Torn → paired_bytes word ≡ pair_bytes (kept word)
kept_bytes Erased whole = refl
kept_bytes (Held value) whole = refl
kept_bytes Torn whole = absurd (whole refl)

kept_fits : (word : Word) → IsBelowAllOnes word → IsPair (kept word)
kept_fits Erased below = (omega arith, omega arith)
kept_fits (Held value) below =
    let less : value < all_ones = below value refl in (omega arith, omega arith)
kept_fits Torn below = (omega arith, omega arith)

kept_high : (word : Word) → IsBelowAllOnes word → IsHighPair (kept word)
kept_high Erased below = omega arith
kept_high (Held value) below = let less : value < all_ones = below value refl in omega arith
kept_high Torn below = omega arith

-- words that are whole are those of their bytes
pub pairs_of_words : (words : List Word) → AreWhole words
    → AreWordsOfPairs (flat_map paired_bytes words) words
pairs_of_words [] whole = record {
  pairs = [];
  spelled = record { fit = All-nil IsPair; bytes_are = refl };
  high = All-nil IsHighPair;
  words_are = refl;
}
pairs_of_words (word ∷ words) whole =
    let first = head_whole word words whole in
    let rest = pairs_of_words words first.2 in
    record {
      pairs = kept word ∷ rest.pairs;
      spelled = record {
        fit = All-cons IsPair (kept word) rest.pairs (kept_fits word first.1) rest.spelled.fit;
        bytes_are =
            ap (λ l. paired_bytes word ++ l) rest.spelled.bytes_are
            ∙ ap (λ l. l ++ flat_map pair_bytes rest.pairs) (kept_bytes word first.0);
      };
      high = All-cons IsHighPair (kept word) rest.pairs (kept_high word first.1) rest.high;
      words_are =
          ap (λ (ws : List Word). word ∷ ws) rest.words_are
          ∙ ap (λ (w : Word). w ∷ map word_of_pair rest.pairs) (kept_word word first.1 first.0);
    }

-- ---- the word of a pair

pair_is_word : (pair : Pair) → word_of_pair pair ≢ Torn
    → pair_bytes pair ≡ paired_bytes (word_of_pair pair)
pair_is_word pair whole =
    elim (word_cases pair.number pair.check) [
      | inl erased ↦ ap (λ n. to_le_bytes w64 n ++ to_le_bytes w64 pair.check) erased.0
          ∙ ap (λ n. to_le_bytes w64 all_ones ++ to_le_bytes w64 n) erased.1
          ∙ sym (ap paired_bytes erased.2)
      | inr (inl held) ↦ ap (λ n. to_le_bytes w64 pair.number ++ to_le_bytes w64 n) held.1
          ∙ sym (ap paired_bytes held.2)
      | inr (inr torn) ↦ absurd (whole torn)
    ]

pairs_are_words : (pairs : List Pair) → All (λ word. word ≢ Torn) (map word_of_pair pairs)
    → flat_map pair_bytes pairs ≡ flat_map paired_bytes (map word_of_pair pairs)
pairs_are_words [] whole = refl
pairs_are_words (pair ∷ pairs) whole =
    ap (λ l. l ++ flat_map pair_bytes pairs)
    (pair_is_word pair
    (All-head (λ (w : Word). w ≢ Torn) (word_of_pair pair) (map word_of_pair pairs) whole))
    ∙ ap (λ l. paired_bytes (word_of_pair pair) ++ l)
    (pairs_are_words pairs
    (All-tail (λ (w : Word). w ≢ Torn) (word_of_pair pair) (map word_of_pair pairs) whole))

-- words of which none is torn have the bytes that spell them
pub bytes_of_whole : (dump : List ℕ) (words : List Word) → AreWordsOfPairs dump words
    → All (λ word. word ≢ Torn) words → dump ≡ flat_map paired_bytes words
bytes_of_whole dump words are whole =
    are.spelled.bytes_are
    ∙ pairs_are_words are.pairs (subst (All (λ (w : Word). w ≢ Torn)) are.words_are whole)
    ∙ ap (flat_map paired_bytes) (sym are.words_are)

-- ---- bytes spell one row of pairs

pub number_worth : (number other : ℕ) → number ≤ all_ones → other ≤ all_ones
    → to_le_bytes w64 number ≡ to_le_bytes w64 other → number ≡ other
number_worth number other fits suits e =
    sym (from_le_bytes-to_le_bytes_8 number (omega arith)) ∙ ap (from_le_bytes w64) e
    ∙ from_le_bytes-to_le_bytes_8 other (omega arith)

pair_injective : (pair other : Pair) → IsPair pair → IsPair other
    → pair_bytes pair ≡ pair_bytes other → pair ≡ other
pair_injective pair other fits suits e = search (rules, number_worth)

pub length-pairs : (pairs : List Pair) → length (flat_map pair_bytes pairs) ≡ 16 * length pairs
length-pairs [] = omega arith
length-pairs (pair ∷ pairs) =
    omega (arith, length-append (pair_bytes pair) (flat_map pair_bytes pairs), length-pairs pairs)

pairs_injective : (pairs others : List Pair) → All IsPair pairs → All IsPair others
    → flat_map pair_bytes pairs ≡ flat_map pair_bytes others → pairs ≡ others
pairs_injective [] [] fit suit e = refl
pairs_injective [] (other ∷ others) fit suit e =
    absurd (omega (arith, ap length e, length-pairs (other ∷ others)))
pairs_injective (pair ∷ pairs) [] fit suit e =
    absurd (omega (arith, ap length e, length-pairs (pair ∷ pairs)))
pairs_injective (pair ∷ pairs) (other ∷ others) fit suit e =
    let heads : pair_bytes pair ≡ pair_bytes other =
    sym (take_at (pair_bytes pair) (flat_map pair_bytes pairs) 16 refl) ∙ ap (take 16) e
    ∙ take_at (pair_bytes other) (flat_map pair_bytes others) 16 refl in
    let tails : flat_map pair_bytes pairs ≡ flat_map pair_bytes others =
    sym (drop_at (pair_bytes pair) (flat_map pair_bytes pairs) 16 refl) ∙ ap (drop 16) e
    ∙ drop_at (pair_bytes other) (flat_map pair_bytes others) 16 refl in
    ap (λ (p : Pair). p ∷ pairs)
    (pair_injective pair other (All-head IsPair pair pairs fit) (All-head IsPair other others suit)
    heads)
    ∙ ap (λ (ps : List Pair). other ∷ ps)
    (pairs_injective pairs others (All-tail IsPair pair pairs fit)
    (All-tail IsPair other others suit) tails)

one_row : (dump : List ℕ) (pairs others : List Pair) → AreBytesOf dump pairs
    → AreBytesOf dump others → pairs ≡ others
one_row dump pairs others are suit =
    pairs_injective pairs others are.fit suit.fit (sym are.bytes_are ∙ suit.bytes_are)

-- and so one row of words
pub one_row_of_words : (dump : List ℕ) (words others : List Word) → AreWordsOfPairs dump words
    → AreWordsOfPairs dump others → words ≡ others
one_row_of_words dump words others are suit =
    are.words_are
    ∙ ap (map word_of_pair) (one_row dump are.pairs suit.pairs are.spelled suit.spelled)
    ∙ sym suit.words_are

-- ---- pairs that sum to less

high_at : (pairs : List Pair) (place : ℕ) → All IsHighPair pairs → all_ones ≤ sum_at pairs place
high_at pairs place high = elim (cases_lt place (length pairs)) [
  | inl within ↦ high place erased_pair within
  | inr past ↦ omega (arith, ap (λ (p : Pair). p.number) (get_or_past pairs place erased_pair past))
]

pub no_low_pair : (size : Size) (dump : List ℕ) (words : List Word) (page at : ℕ)
    → AreWordsOfPairs dump words → IsFirstLowPair size dump page at → ⊥
no_low_pair size dump words page at are first = search (rules, one_row, high_at)

not_later : (first second : ℕ) (pairs : List Pair) → sum_at pairs second < all_ones
    → ((k : ℕ) → k < first → all_ones ≤ sum_at pairs k) → first ≤ second
not_later first second pairs low before = elim (cases_lt second first) [
  | inl less ↦ absurd (omega (arith, before second less))
  | inr most ↦ most
]

one_low_pair : (size : Size) (dump : List ℕ) (page at other place : ℕ)
    → IsFirstLowPair size dump page at → IsFirstLowPair size dump other place
    → (other ≡ page) × (place ≡ at)
one_low_pair size dump page at other place first second =
    let same = one_row dump second.pairs first.pairs second.spelled first.spelled in
    let low : sum_at first.pairs (other * size.words + place) < all_ones =
    subst (λ (ps : List Pair). sum_at ps (other * size.words + place) < all_ones) same
    second.low in
    let before : (k : ℕ) → k < other * size.words + place → all_ones ≤ sum_at first.pairs k =
    λ k less.
    subst (λ (ps : List Pair). all_ones ≤ sum_at ps k) same (second.none_before k less) in
    let one : other * size.words + place ≡ page * size.words + at =
    omega (
      arith,
      not_later (page * size.words + at) (other * size.words + place) first.pairs low
          first.none_before,
      not_later (other * size.words + place) (page * size.words + at) first.pairs first.low
          before,
    ) in
    same_from_place other place page at size.words second.place_in_range first.place_in_range one

pub one_low_fault : (size : Size) (dump : List ℕ) (page at other place : ℕ)
    → IsFirstLowPair size dump page at → IsFirstLowPair size dump other place
    → LowPair other place ≡ LowPair page at
one_low_fault size dump page at other place first second =
    let same = one_low_pair size dump page at other place first second in
    ap (λ (p : ℕ). LowPair p place) same.0 ∙ ap (LowPair page) same.1
