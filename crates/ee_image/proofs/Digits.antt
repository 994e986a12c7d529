-- How words are spelled: no two alike, and each as a field of a line.
use Rattle.std.proofs.Common.{rules, ◌≡◌, ◌≢◌, ℕ, zero, suc, ◌<◌, ◌^◌, ◌/◌, ◌%◌, List, [], ◌∷◌, ◌++◌, length, get_or, map, take, drop, refl, sym, ap, ◌∙◌, subst, arith, codes, Ok, Result, Option, Some, None, is_some}
use Rattle.std.specs.Int.{to_be_bytes, from_be_bytes, w64, byte_at, bytes_high_first}
use Rattle.std.specs.List.{All, AllByRecursion}
use Rattle.std.proofs.lemmas.List.Elements.{All-head, All-tail}
use Rattle.std.proofs.lemmas.Nat.{from_be_bytes-to_be_bytes_8}
use Rattle.std.proofs.Math.Seq.{drop-append_seam, take-append_seam}
use Rattle.std.proofs.lemmas.List.{get_or_append_left}
use Rattle.std.specs.Result.{is_ok, result_ok}
use Rattle.std.proofs.lemmas.Bool.{false≢true}
use Rattle.hex.specs.declared.error.FromHexError.{FromHexError}
use Rattle.hex.specs.Hex.{IsBytes, decode_of, decode_sized, encode_with, lower_digits}
use Rattle.hex.proofs.HexLemmas.{decode_of-encode_lower, decode_of-same, decode_sized-encode_lower, length-encode_with}
use Rattle.ee_text.specs.Field.{Lacks}
use Rattle.ee_text.proofs.Public.{Lacks-cons, lacks_at}
use Rattle.ee_flash.specs.Device.{IsBelowAllOnes}
use Rattle.ee_flash.specs.declared.word.Word.{Word}
use Rattle.ee_flash.specs.declared.word.Word.TheVariants.{Erased, Held, Torn}
use Rattle.ee_image.specs.Text.{digits, word_text}

Lacks-encode_with : (c : ℕ) (t xs : List ℕ) → Lacks c t → 0 ≢ c → Lacks c (encode_with t xs)
unfolding encode_with
Lacks-encode_with c t [] lacks other = refl
Lacks-encode_with c t (b ∷ rest) lacks other =
    Lacks-cons c (get_or t (b / 16) 0) (get_or t (b % 16) 0 ∷ encode_with t rest)
    (lacks_at c t (b / 16) lacks other)
    (Lacks-cons c (get_or t (b % 16) 0) (encode_with t rest) (lacks_at c t (b % 16) lacks other)
    (Lacks-encode_with c t rest lacks other))

-- what no word has in it
pub record NoByteOfWords (c : ℕ) : Type 0 where
  pub erased : Lacks c (codes "-")
  pub torn : Lacks c (codes "?")
  pub digit : Lacks c lower_digits
  pub some : 0 ≢ c

pub no_space : NoByteOfWords 32
no_space = record { erased = refl; torn = refl; digit = refl; some = λ e. omega arith }

pub no_line_feed : NoByteOfWords 10
no_line_feed = record { erased = refl; torn = refl; digit = refl; some = λ e. omega arith }

Lacks-word : (c : ℕ) → NoByteOfWords c → (word : Word) → Lacks c (word_text word)
unfolding digits
Lacks-word c none Erased = none.erased
Lacks-word c none Torn = none.torn
Lacks-word c none (Held value) =
    Lacks-encode_with c lower_digits (to_be_bytes w64 value) none.digit none.some

pub Lacks-words : (c : ℕ) → NoByteOfWords c → (words : List Word)
    → AllByRecursion (Lacks c) (map word_text words)
Lacks-words c none [] = tt
Lacks-words c none (word ∷ words) = (Lacks-word c none word, Lacks-words c none words)

pub length-digits : (value : ℕ) → length (digits value) ≡ 16
unfolding digits
length-digits value = length-encode_with lower_digits (to_be_bytes w64 value)

byte_below : (place value : ℕ) → byte_at place value < 256
byte_below zero value = omega arith
byte_below (suc place) value = omega arith

bytes_below : (count value i : ℕ) → get_or (bytes_high_first count value) i 0 < 256
bytes_below zero value i = omega arith
bytes_below (suc count) value zero = byte_below count value
bytes_below (suc count) value (suc i) = bytes_below count value i

IsBytes-to_be_bytes : (value : ℕ) → IsBytes (to_be_bytes w64 value)
IsBytes-to_be_bytes value = bytes_below 8 value

decode-digits : (value : ℕ) → decode_of (digits value) ≡ Ok (to_be_bytes w64 value)
unfolding digits
decode-digits value = decode_of-encode_lower (to_be_bytes w64 value) (IsBytes-to_be_bytes value)

pub digits_injective : (m n : ℕ) → m < 2 ^ 64 → n < 2 ^ 64 → digits m ≡ digits n → m ≡ n
digits_injective m n fits suits e =
    let same : to_be_bytes w64 m ≡ to_be_bytes w64 n =
    decode_of-same (digits m) (to_be_bytes w64 m) (to_be_bytes w64 n) (decode-digits m)
    (ap decode_of e ∙ decode-digits n) in
    sym (from_be_bytes-to_be_bytes_8 m fits) ∙ ap (from_be_bytes w64) same
    ∙ from_be_bytes-to_be_bytes_8 n suits

held_fits : (value : ℕ) → IsBelowAllOnes (Held value) → value < 2 ^ 64
held_fits value below = let h = below value refl in omega arith

-- ---- what a reader of digits finds

decode_sized-digits : (value : ℕ) → decode_sized (digits value) 8 ≡ Ok (to_be_bytes w64 value)
unfolding digits
decode_sized-digits value =
    decode_sized-encode_lower (to_be_bytes w64 value) 8 refl (IsBytes-to_be_bytes value)

pub not_refused : (field : List ℕ) (value : ℕ) (r : Result (List ℕ) FromHexError)
    (o : Option (List ℕ))
    → field ≡ digits value → r ≡ decode_sized field 8 → is_some o ≡ is_ok r → o ≡ None → ⊥
not_refused field value r o spelled decoded same none =
    let read : r ≡ Ok (to_be_bytes w64 value) =
    decoded ∙ ap (λ text. decode_sized text 8) spelled ∙ decode_sized-digits value in
    false≢true (sym (ap is_some none) ∙ same ∙ ap is_ok read)

pub read_back : (field : List ℕ) (value found : ℕ) (r : Result (List ℕ) FromHexError)
    (o : Option (List ℕ)) (bytes : List ℕ)
    → value < 2 ^ 64 → field ≡ digits value → r ≡ decode_sized field 8 → o ≡ result_ok r
    → o ≡ Some bytes → found ≡ from_be_bytes w64 bytes → found ≡ value
read_back field value found r o bytes fits spelled decoded kept some is =
    search (rules, decode_sized-digits, some, from_be_bytes-to_be_bytes_8)

-- ---- what stands at the front of a text

-- sixteen digits at the front of a text
pub first_sixteen : (text behind : List ℕ) (value : ℕ) → text ≡ digits value ++ behind
    → (take 16 text ≡ digits value) × (drop 16 text ≡ behind)
first_sixteen text behind value e = (
  ap (take 16) e
      ∙ subst (λ n. take n (digits value ++ behind) ≡ digits value) (length-digits value)
      (take-append_seam (digits value) behind),
  ap (drop 16) e
      ∙ subst (λ n. drop n (digits value ++ behind) ≡ behind) (length-digits value)
      (drop-append_seam (digits value) behind),
)

-- the first digit is none of the other words
first_digit : (c value : ℕ) (behind : List ℕ) → Lacks c lower_digits → 0 ≢ c
    → get_or (digits value ++ behind) 0 0 ≢ c
unfolding digits
first_digit c value behind lacks other = λ first.
    let all : length (digits value) ≡ 16 = length-digits value in
    lacks_at c (digits value) 0
    (Lacks-encode_with c lower_digits (to_be_bytes w64 value) lacks other) other
    (sym (get_or_append_left (digits value) behind 0 0 (omega arith)) ∙ first)

-- no two words stand at the front of one text
pub one_word : (word other : Word) (x y : List ℕ) → IsBelowAllOnes word → IsBelowAllOnes other
    → word_text word ++ x ≡ word_text other ++ y → (word ≡ other) × (x ≡ y)
one_word Erased Erased x y below under e = (refl, ap (drop 1) e)
one_word Erased Torn x y below under e = absurd (omega (arith, ap (λ l. get_or l 0 0) e))
one_word Erased (Held n) x y below under e =
    absurd (first_digit 45 n y refl (λ zero. omega arith) (ap (λ l. get_or l 0 0) (sym e)))
one_word Torn Erased x y below under e = absurd (omega (arith, ap (λ l. get_or l 0 0) e))
one_word Torn Torn x y below under e = (refl, ap (drop 1) e)
one_word Torn (Held n) x y below under e =
    absurd (first_digit 63 n y refl (λ zero. omega arith) (ap (λ l. get_or l 0 0) (sym e)))
one_word (Held m) Erased x y below under e =
    absurd (first_digit 45 m x refl (λ zero. omega arith) (ap (λ l. get_or l 0 0) e))
one_word (Held m) Torn x y below under e =
    absurd (first_digit 63 m x refl (λ zero. omega arith) (ap (λ l. get_or l 0 0) e))
one_word (Held m) (Held n) x y below under e =
    let own = first_sixteen (digits m ++ x) x m refl in
    let parts = first_sixteen (digits m ++ x) y n e in (
      ap Held (digits_injective m n (held_fits m below) (held_fits n under) (sym own.0 ∙ parts.0)),
      sym own.1 ∙ parts.1,
    )

-- two rows of words are never spelled alike
pub words_injective : (words others : List Word) → All IsBelowAllOnes words
    → All IsBelowAllOnes others → map word_text words ≡ map word_text others → words ≡ others
words_injective [] [] below under e = refl
words_injective [] (other ∷ others) below under e = cc
words_injective (word ∷ words) [] below under e = cc
words_injective (word ∷ words) (other ∷ others) below under e =
    let heads : word_text word ≡ word_text other = cc in
    let tails : map word_text words ≡ map word_text others = cc in
    let first = (one_word word other [] [] (All-head IsBelowAllOnes word words below)
    (All-head IsBelowAllOnes other others under) (ap (λ l. l ++ []) heads)).0 in
    let rest =
    words_injective words others (All-tail IsBelowAllOnes word words below)
    (All-tail IsBelowAllOnes other others under) tails in
    cc
