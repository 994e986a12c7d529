-- Coded numbers, their bytes, and the words that they are.
use Rattle.std.proofs.Common.{◌≡◌, ◌≢◌, inl, inr, ℕ, zero, suc, ◌+◌, ◌*◌, ◌/◌, ◌%◌, ◌^◌, ◌<◌, ◌≤◌, List, [], ◌∷◌, ◌++◌, map, length, get_or, take, drop, false, true, refl, sym, ap, ◌∙◌, subst, arith, length-append}
use Rattle.std.specs.Int.{from_le_bytes, to_le_bytes, w64}
use Rattle.std.specs.List.{All, flat_map}
use Rattle.std.specs.Simd.{first_chunks}
use Rattle.std.proofs.Math.Bool.{or-true}
use Rattle.std.proofs.lemmas.Bool.{cases_eq, cases_lt, eq-eqb, le-ltb, lt-ltb, ne_eqb, true≢false}
use Rattle.std.proofs.lemmas.List.{drop_at, get_or-map, length-drop, length-map, length-take-le, map_more, take-append-drop, take_all, take_at}
use Rattle.std.proofs.lemmas.List.Elements.{All-cons, All-drop, All-from_get_or, All-head, All-nil, All-push, All-tail, All-take}
use Rattle.ee_flash.specs.Device.{IsBelowAllOnes, all_ones}
use Rattle.ee_flash.specs.Numbers.{IsStoreNumber, header_half}
use Rattle.ee_flash.specs.Size.{IsWithinLimits, Size, page_count}
use Rattle.ee_flash.specs.declared.word.Word.{Word}
use Rattle.ee_flash.specs.declared.word.Word.TheVariants.{Erased, Held, Torn}
use Rattle.ee_nor.specs.Coded.Code.{IsPayload, codeword, payload_in}
use Rattle.ee_nor.specs.Coded.Coded.{coded_number, coded_word, is_slot_number, number_of_payload, payload_of_number}
use Rattle.ee_nor.specs.Coded.Formed.{coded_below, coded_cases}
use Rattle.ee_nor.specs.Nor.{IsNorNumber}
use Rattle.ee_nor.proofs.CodedLemmas.Numbers.{payload_fits, reads_back}
use Rattle.ee_nor.proofs.CodedLemmas.Numbers as store
use Rattle.ee_interface.specs.CommandLine.Form.{dump_length}
use Rattle.ee_interface.specs.declared.command_line.form.Form.TheVariants.{Coded}
use Rattle.ee_shell.specs.Dumps.Code.{AreWordsOfCodes}
use Rattle.ee_shell.specs.Dumps.Dump.{coded_bytes}
use Rattle.ee_shell.specs.Dumps.Places.{is_uncoded}
use Rattle.ee_shell.specs.Dumps.Reading.{AreCells, AreWhole}
use Rattle.ee_shell.proofs.DumpsLemmas.Pairing.{IsByte, eight_again, number_fits}
use Rattle.ee_shell.proofs.DumpsLemmas.Pairs.{number_worth}
use Rattle.ee_shell.proofs.DumpsLemmas.Words.{chunk_at, head_whole, length-first_chunks}

-- ---- numbers of a store

header_of : (number : ℕ) → is_slot_number number ≡ false → is_uncoded (Held number) ≡ false
    → number / 2 ^ 32 ≡ header_half
header_of number bare coded = elim (cases_eq (number / 2 ^ 32) header_half) [
  | inl is ↦ is
  | inr other ↦
      let uncoded : is_uncoded (Held number) ≡ true =
      rw (bare, ne_eqb (number / 2 ^ 32) header_half other) refl in
      absurd (true≢false (sym uncoded ∙ coded))
]

store_of : (number : ℕ) → is_uncoded (Held number) ≡ false → IsStoreNumber number
store_of number coded = elim (cases_lt (number % 2 ^ 32) (2 ^ 17)) [
  | inl low ↦ elim (cases_lt 0 (number % 2 ^ 16)) [
    | inl some ↦ inl (low, some)
    | inr none ↦
        inr
        (header_of number
        (rw (lt-ltb (number % 2 ^ 32) (2 ^ 17) low, le-ltb 0 (number % 2 ^ 16) none) refl) coded)
  ]
  | inr high ↦
      inr (header_of number (rw (le-ltb (number % 2 ^ 32) (2 ^ 17) high) refl) coded)
]

coded_of : (number : ℕ) → IsStoreNumber number → is_uncoded (Held number) ≡ false
coded_of number (inl slot) =
    rw (lt-ltb (number % 2 ^ 32) (2 ^ 17) slot.0, lt-ltb 0 (number % 2 ^ 16) slot.1) refl
coded_of number (inr half) =
    rw (eq-eqb (number / 2 ^ 32) header_half half, or-true (is_slot_number number)) refl

-- ---- the number of a word

abbrev pub has_code : Word → Type 0
has_code word = is_uncoded word ≡ false

abbrev kept : Size → Word → ℕ
kept size Erased = all_ones
kept size (Held number) = coded_number size number
kept size Torn = 0

kept_bytes : (size : Size) (word : Word) → word ≢ Torn
    → coded_bytes size word ≡ to_le_bytes w64 (kept size word)
kept_bytes size Erased whole = refl
kept_bytes size (Held number) whole = refl
kept_bytes size Torn whole = absurd (whole refl)

kept_fits : (size : Size) (word : Word) → IsWithinLimits size → IsBelowAllOnes word
    → IsNorNumber (kept size word)
kept_fits size Erased limits below = omega arith
kept_fits size (Held number) limits below =
    let less : number < all_ones = below number refl in
    let bare = payload_fits size number limits (omega (arith, less)) in
    omega (arith, store.coded_below (payload_of_number size number) bare)
kept_fits size Torn limits below = omega arith

kept_word : (size : Size) (word : Word) → IsWithinLimits size → IsBelowAllOnes word → word ≢ Torn
    → has_code word → word ≡ coded_word size (kept size word)
kept_word size Erased limits below whole coded = refl
kept_word size (Held number) limits below whole coded =
    let less : number < all_ones = below number refl in
    sym (reads_back size number limits (omega (arith, less)) (store_of number coded))
kept_word size Torn limits below whole coded = absurd (whole refl)

-- words that are whole and have codes are those of their bytes
pub codes_of_words : (size : Size) (words : List Word) → IsWithinLimits size → AreWhole words
    → All has_code words → AreWordsOfCodes size (flat_map (coded_bytes size) words) words
codes_of_words size [] limits whole coded = record {
  numbers = [];
  fit = All-nil IsNorNumber;
  bytes_are = refl;
  words_are = refl;
}
codes_of_words size (word ∷ words) limits whole coded =
    let first = head_whole word words whole in
    let here = All-head has_code word words coded in
    let rest = codes_of_words size words limits first.2 (All-tail has_code word words coded) in
    record {
      numbers = kept size word ∷ rest.numbers;
      fit = All-cons IsNorNumber (kept size word) rest.numbers
          (kept_fits size word limits first.1) rest.fit;
      bytes_are =
          ap (λ l. coded_bytes size word ++ l) rest.bytes_are
          ∙ ap (λ l. l ++ flat_map (to_le_bytes w64) rest.numbers) (kept_bytes size word first.0);
      words_are =
          ap (λ (ws : List Word). word ∷ ws) rest.words_are
          ∙ ap (λ (w : Word). w ∷ map (coded_word size) rest.numbers)
          (kept_word size word limits first.1 first.0 here);
    }

-- ---- the word of a number

store_payload : (payload : ℕ) → IsPayload payload → IsStoreNumber (number_of_payload payload)
unfolding number_of_payload
store_payload payload bare = elim (cases_eq (payload % 2 ^ 17) 0) [
  | inl none ↦ rw (eq-eqb (payload % 2 ^ 17) 0 none) (inr (omega arith))
  | inr some ↦ elim (cases_eq (payload % 2 ^ 17) (2 ^ 16)) [
    | inl mark ↦
        rw (ne_eqb (payload % 2 ^ 17) 0 some, eq-eqb (payload % 2 ^ 17) (2 ^ 16) mark)
        (inr (omega arith))
    | inr slot ↦
        rw (ne_eqb (payload % 2 ^ 17) 0 some, ne_eqb (payload % 2 ^ 17) (2 ^ 16) slot)
        (inl (omega arith, omega (arith, some, slot)))
  ]
]

number_is_word : (size : Size) (number : ℕ) → coded_word size number ≢ Torn
    → to_le_bytes w64 number ≡ coded_bytes size (coded_word size number)
number_is_word size number whole = elim (coded_cases size number) [
  | inl erased ↦ ap (to_le_bytes w64) erased.0 ∙ sym (ap (coded_bytes size) erased.1)
  | inr (inl held) ↦
      ap (to_le_bytes w64) (held.1 ∙ ap codeword held.2) ∙ sym (ap (coded_bytes size) held.3)
  | inr (inr torn) ↦ absurd (whole torn)
]

number_has_code : (size : Size) (number : ℕ) → IsNorNumber number
    → has_code (coded_word size number)
number_has_code size number fits = elim (coded_cases size number) [
  | inl erased ↦ ap is_uncoded erased.1
  | inr (inl held) ↦
      ap is_uncoded held.3
      ∙ coded_of (number_of_payload (payload_in number))
      (store_payload (payload_in number) (omega (arith, fits)))
  | inr (inr torn) ↦ ap is_uncoded torn
]

bytes_of_numbers : (size : Size) (numbers : List ℕ)
    → All (λ word. word ≢ Torn) (map (coded_word size) numbers)
    → flat_map (to_le_bytes w64) numbers
    ≡ flat_map (coded_bytes size) (map (coded_word size) numbers)
bytes_of_numbers size [] whole = refl
bytes_of_numbers size (number ∷ numbers) whole =
    let word = coded_word size number in
    let words = map (coded_word size) numbers in
    ap (λ l. l ++ flat_map (to_le_bytes w64) numbers)
    (number_is_word size number (All-head (λ (w : Word). w ≢ Torn) word words whole))
    ∙ ap (λ l. coded_bytes size word ++ l)
    (bytes_of_numbers size numbers (All-tail (λ (w : Word). w ≢ Torn) word words whole))

-- words of which none is torn have the bytes that spell them
pub bytes_of_whole_codes : (size : Size) (dump : List ℕ) (words : List Word)
    → AreWordsOfCodes size dump words → All (λ word. word ≢ Torn) words
    → dump ≡ flat_map (coded_bytes size) words
bytes_of_whole_codes size dump words are whole =
    are.bytes_are
    ∙ bytes_of_numbers size are.numbers (subst (All (λ (w : Word). w ≢ Torn)) are.words_are whole)
    ∙ ap (flat_map (coded_bytes size)) (sym are.words_are)

codes_of_numbers : (size : Size) (numbers : List ℕ) → All IsNorNumber numbers
    → All has_code (map (coded_word size) numbers)
codes_of_numbers size [] fit = All-nil has_code
codes_of_numbers size (number ∷ numbers) fit =
    All-cons has_code (coded_word size number) (map (coded_word size) numbers)
    (number_has_code size number (All-head IsNorNumber number numbers fit))
    (codes_of_numbers size numbers (All-tail IsNorNumber number numbers fit))

-- and each number that they hold has a code
pub words_have_codes : (size : Size) (dump : List ℕ) (words : List Word)
    → AreWordsOfCodes size dump words → All has_code words
words_have_codes size dump words are =
    subst (All has_code) (sym are.words_are) (codes_of_numbers size are.numbers are.fit)

-- ---- bytes spell one row of numbers

pub length-codes : (numbers : List ℕ)
    → length (flat_map (to_le_bytes w64) numbers) ≡ 8 * length numbers
length-codes [] = omega arith
length-codes (number ∷ numbers) =
    omega (
      arith,
      length-append (to_le_bytes w64 number) (flat_map (to_le_bytes w64) numbers),
      length-codes numbers,
    )

numbers_injective : (numbers others : List ℕ) → All IsNorNumber numbers → All IsNorNumber others
    → flat_map (to_le_bytes w64) numbers ≡ flat_map (to_le_bytes w64) others → numbers ≡ others
numbers_injective [] [] fit suit e = refl
numbers_injective [] (other ∷ others) fit suit e =
    absurd (omega (arith, ap length e, length-codes (other ∷ others)))
numbers_injective (number ∷ numbers) [] fit suit e =
    absurd (omega (arith, ap length e, length-codes (number ∷ numbers)))
numbers_injective (number ∷ numbers) (other ∷ others) fit suit e =
    let heads : to_le_bytes w64 number ≡ to_le_bytes w64 other =
    sym (take_at (to_le_bytes w64 number) (flat_map (to_le_bytes w64) numbers) 8 refl)
    ∙ ap (take 8) e
    ∙ take_at (to_le_bytes w64 other) (flat_map (to_le_bytes w64) others) 8 refl in
    let tails : flat_map (to_le_bytes w64) numbers ≡ flat_map (to_le_bytes w64) others =
    sym (drop_at (to_le_bytes w64 number) (flat_map (to_le_bytes w64) numbers) 8 refl)
    ∙ ap (drop 8) e
    ∙ drop_at (to_le_bytes w64 other) (flat_map (to_le_bytes w64) others) 8 refl in
    ap (λ (n : ℕ). n ∷ numbers)
    (number_worth number other (All-head IsNorNumber number numbers fit)
    (All-head IsNorNumber other others suit) heads)
    ∙ ap (λ (ns : List ℕ). other ∷ ns)
    (numbers_injective numbers others (All-tail IsNorNumber number numbers fit)
    (All-tail IsNorNumber other others suit) tails)

-- and so one row of words
pub one_row_of_codes : (size : Size) (dump : List ℕ) (words others : List Word)
    → AreWordsOfCodes size dump words → AreWordsOfCodes size dump others → words ≡ others
one_row_of_codes size dump words others are suit =
    are.words_are
    ∙ ap (map (coded_word size))
    (numbers_injective are.numbers suit.numbers are.fit suit.fit
    (sym are.bytes_are ∙ suit.bytes_are))
    ∙ sym suit.words_are

-- ---- numbers that are read one by one

abbrev pub number_of_chunk : List ℕ → ℕ
number_of_chunk chunk = from_le_bytes w64 chunk

-- the numbers that eights of bytes spell
record AreNumbersOf (dump : List ℕ) (numbers : List ℕ) : Type 0 where
  fit : All IsNorNumber numbers
  bytes_are : flat_map (to_le_bytes w64) numbers ≡ dump

numbers_spelled : (m : ℕ) (dump : List ℕ) → All IsByte dump → length dump ≡ 8 * m
    → AreNumbersOf dump (map number_of_chunk (first_chunks 8 m dump))
numbers_spelled zero [] small long = record { fit = All-nil IsNorNumber; bytes_are = refl }
numbers_spelled zero (byte ∷ bytes) small long = absurd (omega arith)
numbers_spelled (suc m) dump small long =
    let front = All-take IsByte 8 dump small in
    let rest = numbers_spelled m (drop 8 dump) (All-drop IsByte 8 dump small)
    (omega (arith, length-drop 8 dump)) in
    let others = map number_of_chunk (first_chunks 8 m (drop 8 dump)) in
    record {
      fit = All-cons IsNorNumber (from_le_bytes w64 (take 8 dump)) others
          (number_fits (take 8 dump) front) rest.fit;
      bytes_are =
          ap (λ l. l ++ flat_map (to_le_bytes w64) others)
          (eight_again (take 8 dump) (length-take-le 8 dump (omega arith)) front)
          ∙ ap (λ l. take 8 dump ++ l) rest.bytes_are ∙ take-append-drop 8 dump;
    }

abbrev word_of_chunk : Size → List ℕ → Word
word_of_chunk size chunk = coded_word size (number_of_chunk chunk)

-- the words so far are those of the numbers so far
pub record AreCodesRead (size : Size) (chunks : List (List ℕ)) (count : ℕ) (words : List Word)
    : Type 0 where
  pub as_many : length words ≡ count
  pub words_are : words ≡ map (word_of_chunk size) (take count chunks)
  pub below : All IsBelowAllOnes words

pub one_code_more : (size : Size) (chunks : List (List ℕ)) (n number : ℕ) (words new : List Word)
    (word : Word)
    → AreCodesRead size chunks n words → n < length chunks
    → number ≡ number_of_chunk (get_or chunks n []) → IsNorNumber number
    → word ≡ coded_word size number → new ≡ words ++ word ∷ []
    → AreCodesRead size chunks (n + 1) new
one_code_more size chunks n number words new word read within here fits is pushed =
    let same : word ≡ word_of_chunk size (get_or chunks n []) =
    is ∙ ap (coded_word size) here in
    subst (AreCodesRead size chunks (n + 1)) (sym pushed) record {
      as_many = omega (arith, read.as_many, length-append words (word ∷ []));
      words_are =
          ap (λ (ws : List Word). ws ++ word ∷ []) read.words_are
          ∙ ap (λ (w : Word). map (word_of_chunk size) (take n chunks) ++ w ∷ []) same
          ∙ sym (map_more (word_of_chunk size) chunks n [] within);
      below =
          All-push IsBelowAllOnes words word read.below
          (subst IsBelowAllOnes (sym is) (coded_below size number fits));
    }

words_of_chunks : (size : Size) (chunks : List (List ℕ))
    → map (word_of_chunk size) chunks ≡ map (coded_word size) (map number_of_chunk chunks)
words_of_chunks size [] = refl
words_of_chunks size (chunk ∷ chunks) =
    ap (λ (ws : List Word). word_of_chunk size chunk ∷ ws) (words_of_chunks size chunks)

-- at the end they are those of the dump
pub cells_of_codes : (size : Size) (dump : List ℕ) (chunks : List (List ℕ)) (n : ℕ)
    (words : List Word)
    → length dump ≡ dump_length Coded size → ((i : ℕ) → get_or dump i 0 < 256)
    → chunks ≡ first_chunks 8 (length dump / 8) dump → AreCodesRead size chunks n words
    → length chunks ≤ n → AreCells Coded size dump words
cells_of_codes size dump chunks n words long small are read all =
    let m : ℕ = page_count size * size.words in
    let eighth : length dump / 8 ≡ m = omega (arith, long) in
    let row : chunks ≡ first_chunks 8 m dump = are ∙ ap (λ (k : ℕ). first_chunks 8 k dump) eighth in
    let spelled : AreNumbersOf dump (map number_of_chunk chunks) =
    subst (λ (cs : List (List ℕ)). AreNumbersOf dump (map number_of_chunk cs)) (sym row)
    (numbers_spelled m dump (All-from_get_or IsByte dump 0 (λ i within. small i))
    (omega (arith, long))) in
    let same : words ≡ map (coded_word size) (map number_of_chunk chunks) =
    read.words_are ∙ ap (map (word_of_chunk size)) (take_all n chunks all)
    ∙ words_of_chunks size chunks in
    record {
      as_many =
          ap length same ∙ length-map (map number_of_chunk chunks) (coded_word size)
          ∙ length-map chunks number_of_chunk ∙ ap length row ∙ length-first_chunks m dump;
      below_all_ones = read.below;
      spelled = record {
        numbers = map number_of_chunk chunks;
        fit = spelled.fit;
        bytes_are = sym spelled.bytes_are;
        words_are = same;
      };
    }
