-- Words and their bytes: as many for each, and no two words alike.
use Rattle.std.proofs.Common.{◌≡◌, ◌≢◌, ℕ, zero, suc, ◌+◌, ◌*◌, ◌<◌, ◌^◌, List, [], ◌∷◌, ◌++◌, length, get_or, replicate, take, drop, refl, sym, ap, ◌∙◌, arith, inl, inr, length-append}
use Rattle.std.specs.Int.{byte_at, bytes_low_first, from_le_bytes, to_le_bytes, w64}
use Rattle.std.specs.List.{All, flat_map}
use Rattle.std.specs.Simd.{first_chunks}
use Rattle.std.proofs.lemmas.Bool.{cases_eq}
use Rattle.std.proofs.lemmas.List.{drop-drop, drop_at, length-drop, length-take-le, take-append-drop, take_at}
use Rattle.std.proofs.lemmas.List.Elements.{All-append, All-cons, All-drop, All-head, All-nil, All-push, All-replicate, All-tail, All-take}
use Rattle.std.proofs.lemmas.Nat.{from_le_bytes-to_le_bytes_8, le_bytes_8}
use Rattle.std.proofs.Math.Nat.{mul-suc, mul-zero}
use Rattle.ee_flash.specs.Device.{IsBelowAllOnes, all_ones}
use Rattle.ee_flash.specs.declared.word.Word.{Word}
use Rattle.ee_flash.specs.declared.word.Word.TheVariants.{Erased, Held, Torn}
use Rattle.ee_flash.proofs.Public.{below-held}
use Rattle.ee_flash.specs.Size.{Size}
use Rattle.ee_nor.specs.Coded.Coded.{coded_number}
use Rattle.ee_nor.specs.Pairs.{complement}
use Rattle.ee_shell.specs.Dumps.Dump.{paired_bytes, plain_bytes, word_bytes}
use Rattle.ee_interface.specs.CommandLine.Form.{word_length}
use Rattle.ee_interface.specs.declared.command_line.form.Form.{Form}
use Rattle.ee_interface.specs.declared.command_line.form.Form.TheVariants.{Words, Pairs, Coded}
use Rattle.ee_shell.specs.Dumps.Reading.{AreWhole}

-- ---- one word

pub erased_whole : Erased ≢ Torn
erased_whole e = cc

pub erased_below : IsBelowAllOnes Erased
erased_below value e = cc

pub held_whole : (value : ℕ) → Held value ≢ Torn
held_whole value e = cc

pub length-word_bytes : (form : Form) (size : Size) (word : Word) → word ≢ Torn
    → length (word_bytes form size word) ≡ word_length form
length-word_bytes Words size Erased whole = refl
length-word_bytes Words size (Held value) whole = refl
length-word_bytes Pairs size Erased whole = refl
length-word_bytes Pairs size (Held value) whole = refl
length-word_bytes Coded size Erased whole = refl
length-word_bytes Coded size (Held value) whole = refl
length-word_bytes form size Torn whole = absurd (whole refl)

-- the eight bytes of a number
pub held_bytes : (bytes : List ℕ) (value : ℕ) → length bytes ≡ 8
    → ((i : ℕ) → get_or bytes i 0 < 256) → value ≡ from_le_bytes w64 bytes
    → plain_bytes (Held value) ≡ bytes
held_bytes bytes value long small is = le_bytes_8 bytes value long small is

-- those of all ones are an erased word's
pub erased_bytes : (bytes : List ℕ) (value : ℕ) → length bytes ≡ 8
    → ((i : ℕ) → get_or bytes i 0 < 256) → value ≡ from_le_bytes w64 bytes → value ≡ all_ones
    → plain_bytes Erased ≡ bytes
erased_bytes bytes value long small is ones =
    let same : to_le_bytes w64 value ≡ replicate 8 255 = ap (to_le_bytes w64) ones in
    sym same ∙ le_bytes_8 bytes value long small is

bytes_fit : (a b c d e f g h : ℕ) → a < 256 → b < 256 → c < 256 → d < 256 → e < 256 → f < 256
    → g < 256 → h < 256
    → a + b * 256 + c * 65536 + d * 16777216 + e * 4294967296 + f * 1099511627776 + g
    * 281474976710656 + h * 72057594037927936 < 2 ^ 64
bytes_fit a b c d e f g h p q r s t u v w = omega arith

pub value_fits : (bytes : List ℕ) → ((i : ℕ) → get_or bytes i 0 < 256)
    → from_le_bytes w64 bytes < 2 ^ 64
value_fits bytes small =
    bytes_fit (get_or bytes 0 0) (get_or bytes 1 0) (get_or bytes 2 0) (get_or bytes 3 0)
    (get_or bytes 4 0) (get_or bytes 5 0) (get_or bytes 6 0) (get_or bytes 7 0) (small 0)
    (small 1) (small 2) (small 3) (small 4) (small 5) (small 6) (small 7)

-- a word that can stand in a device, and is not torn, with these bytes
record IsWordOf (bytes : List ℕ) (word : Word) : Type 0 where
  whole : word ≢ Torn
  below_all_ones : IsBelowAllOnes word
  bytes_are : plain_bytes word ≡ bytes

word_of : (bytes : List ℕ) → length bytes ≡ 8 → ((i : ℕ) → get_or bytes i 0 < 256)
    → (word : Word) × IsWordOf bytes word
word_of bytes long small =
    let value : ℕ = from_le_bytes w64 bytes in
    elim (cases_eq value all_ones) [
      | inl ones ↦ (
        Erased,
        record {
          whole = erased_whole;
          below_all_ones = erased_below;
          bytes_are = erased_bytes bytes value long small refl ones;
        },
      )
      | inr other ↦ (
        Held value,
        record {
          whole = held_whole value;
          below_all_ones =
              below-held value (let fits : value < 2 ^ 64 = value_fits bytes small in omega arith);
          bytes_are = held_bytes bytes value long small refl;
        },
      )
    ]

-- what a word's bytes are worth
held_worth : (value : ℕ) → IsBelowAllOnes (Held value)
    → from_le_bytes w64 (plain_bytes (Held value)) ≡ value
held_worth value below =
    from_le_bytes-to_le_bytes_8 value (let less = below value refl in omega arith)

erased_worth : from_le_bytes w64 (plain_bytes Erased) ≡ all_ones
erased_worth = refl

not_erased : (value : ℕ) → IsBelowAllOnes (Held value)
    → plain_bytes (Held value) ≡ plain_bytes Erased → ⊥
not_erased value below e =
    let less : value < all_ones = below value refl in
    let same : value ≡ all_ones =
    sym (held_worth value below) ∙ ap (from_le_bytes w64) e ∙ erased_worth in
    omega arith

-- two words never have the same bytes
pub plain_injective : (word other : Word) → IsBelowAllOnes word → IsBelowAllOnes other → word ≢ Torn
    → other ≢ Torn → plain_bytes word ≡ plain_bytes other → word ≡ other
plain_injective Torn other below under whole sound e = absurd (whole refl)
plain_injective Erased Torn below under whole sound e = absurd (sound refl)
plain_injective (Held m) Torn below under whole sound e = absurd (sound refl)
plain_injective Erased Erased below under whole sound e = refl
plain_injective Erased (Held n) below under whole sound e = absurd (not_erased n under (sym e))
plain_injective (Held m) Erased below under whole sound e = absurd (not_erased m below e)
plain_injective (Held m) (Held n) below under whole sound e =
    ap Held (sym (held_worth m below) ∙ ap (from_le_bytes w64) e ∙ held_worth n under)

-- ---- a row of words

pub none_whole : AreWhole []
none_whole =
    record { none_torn = All-nil (λ word. word ≢ Torn); below_all_ones = All-nil IsBelowAllOnes }

pub one_whole_more : (words : List Word) (word : Word) → AreWhole words → word ≢ Torn
    → IsBelowAllOnes word → AreWhole (words ++ word ∷ [])
one_whole_more words word whole sound below = record {
  none_torn = All-push (λ w. w ≢ Torn) words word whole.none_torn sound;
  below_all_ones = All-push IsBelowAllOnes words word whole.below_all_ones below;
}

pub head_whole : (word : Word) (words : List Word) → AreWhole (word ∷ words)
    → (word ≢ Torn) × IsBelowAllOnes word × AreWhole words
head_whole word words whole = (
  All-head (λ w. w ≢ Torn) word words whole.none_torn,
  All-head IsBelowAllOnes word words whole.below_all_ones,
  record {
    none_torn = All-tail (λ w. w ≢ Torn) word words whole.none_torn;
    below_all_ones = All-tail IsBelowAllOnes word words whole.below_all_ones;
  },
)

plain_length : (word : Word) → word ≢ Torn → length (plain_bytes word) ≡ 8
plain_length Erased whole = refl
plain_length (Held value) whole = refl
plain_length Torn whole = absurd (whole refl)

pub length-words : (form : Form) (size : Size) (words : List Word)
    → All (λ word. word ≢ Torn) words
    → length (flat_map (word_bytes form size) words) ≡ word_length form * length words
length-words form size [] sound = sym (mul-zero (word_length form))
length-words form size (word ∷ words) sound =
    omega (
      arith,
      mul-suc (word_length form) (length words),
      length-append (word_bytes form size word) (flat_map (word_bytes form size) words),
      length-word_bytes form size word (All-head (λ w. w ≢ Torn) word words sound),
      length-words form size words (All-tail (λ w. w ≢ Torn) word words sound),
    )

-- no two rows of words have the same bytes
pub words_injective : (words others : List Word) → AreWhole words → AreWhole others
    → flat_map plain_bytes words ≡ flat_map plain_bytes others → words ≡ others
words_injective [] [] whole sound e = refl
words_injective [] (other ∷ others) whole sound e =
    let first = head_whole other others sound in
    absurd
    (omega (
      arith,
      ap length e,
      length-append (plain_bytes other) (flat_map plain_bytes others),
      plain_length other first.0,
    ))
words_injective (word ∷ words) [] whole sound e =
    let first = head_whole word words whole in
    absurd
    (omega (
      arith,
      ap length e,
      length-append (plain_bytes word) (flat_map plain_bytes words),
      plain_length word first.0,
    ))
words_injective (word ∷ words) (other ∷ others) whole sound e =
    let first = head_whole word words whole in
    let second = head_whole other others sound in
    let long = plain_length word first.0 in
    let wide = plain_length other second.0 in
    let heads : plain_bytes word ≡ plain_bytes other =
    sym (take_at (plain_bytes word) (flat_map plain_bytes words) 8 long)
    ∙ ap (take 8) e ∙ take_at (plain_bytes other) (flat_map plain_bytes others) 8 wide in
    let tails : flat_map plain_bytes words ≡ flat_map plain_bytes others =
    sym (drop_at (plain_bytes word) (flat_map plain_bytes words) 8 long)
    ∙ ap (drop 8) e ∙ drop_at (plain_bytes other) (flat_map plain_bytes others) 8 wide in
    ap (λ (w : Word). w ∷ words)
    (plain_injective word other first.1 second.1 first.0 second.0 heads)
    ∙ ap (λ (ws : List Word). other ∷ ws) (words_injective words others first.2 second.2 tails)

-- ---- the words of bytes

pub small_at : (bytes : List ℕ) → All (λ byte. byte < 256) bytes → (i : ℕ) → get_or bytes i 0 < 256
small_at [] small i = omega arith
small_at (byte ∷ bytes) small zero = All-head (λ (b : ℕ). b < 256) byte bytes small
small_at (byte ∷ bytes) small (suc i) =
    small_at bytes (All-tail (λ (b : ℕ). b < 256) byte bytes small) i

-- words with these bytes
pub record AreWordsOf (bytes : List ℕ) (count : ℕ) (words : List Word) : Type 0 where
  pub as_many : length words ≡ count
  pub whole : AreWhole words
  pub bytes_are : flat_map (plain_bytes) words ≡ bytes

pub words_of_bytes : (count : ℕ) (bytes : List ℕ) → All (λ byte. byte < 256) bytes
    → length bytes ≡ 8 * count → (words : List Word) × AreWordsOf bytes count words
words_of_bytes zero [] small long =
    ([], record { as_many = refl; whole = none_whole; bytes_are = refl })
words_of_bytes zero (byte ∷ bytes) small long = absurd (omega arith)
words_of_bytes (suc count) bytes small long =
    let first =
    word_of (take 8 bytes) (length-take-le 8 bytes (omega arith))
    (small_at (take 8 bytes) (All-take (λ (b : ℕ). b < 256) 8 bytes small)) in
    let is = first.1 in
    let rest =
    words_of_bytes count (drop 8 bytes) (All-drop (λ (b : ℕ). b < 256) 8 bytes small)
    (omega (arith, length-drop 8 bytes)) in
    let are = rest.1 in (
      first.0 ∷ rest.0,
      record {
        as_many = ap suc are.as_many;
        whole = record {
          none_torn = All-cons (λ w. w ≢ Torn) first.0 rest.0 is.whole are.whole.none_torn;
          below_all_ones =
              All-cons IsBelowAllOnes first.0 rest.0 is.below_all_ones are.whole.below_all_ones;
        };
        bytes_are =
            ap (λ l. l ++ flat_map (plain_bytes) rest.0) is.bytes_are
            ∙ ap (λ l. take 8 bytes ++ l) are.bytes_are ∙ take-append-drop 8 bytes;
      },
    )

-- ---- bytes that are read by eights

pub length-first_chunks : (k : ℕ) (bytes : List ℕ) → length (first_chunks 8 k bytes) ≡ k
length-first_chunks zero bytes = refl
length-first_chunks (suc k) bytes = ap suc (length-first_chunks k (drop 8 bytes))

-- the eight bytes of each word
pub chunk_at : (k : ℕ) (bytes : List ℕ) (i : ℕ) (none : List ℕ) → i < k
    → get_or (first_chunks 8 k bytes) i none ≡ take 8 (drop (8 * i) bytes)
chunk_at zero bytes i none within = absurd (omega arith)
chunk_at (suc k) bytes zero none within = refl
chunk_at (suc k) bytes (suc i) none within =
    chunk_at k (drop 8 bytes) i none (omega arith)
    ∙ ap (take 8) (drop-drop (8 * i) 8 bytes ∙ ap (λ (n : ℕ). drop n bytes) (omega arith))

-- ---- each is a byte

byte_below : (place value : ℕ) → byte_at place value < 256
byte_below zero value = omega arith
byte_below (suc place) value = omega arith

bytes_small : (count place value : ℕ) → All (λ byte. byte < 256) (bytes_low_first place count value)
bytes_small zero place value = All-nil (λ byte. byte < 256)
bytes_small (suc count) place value =
    All-cons (λ (byte : ℕ). byte < 256) (byte_at place value)
    (bytes_low_first (suc place) count value) (byte_below place value)
    (bytes_small count (suc place) value)

word_small : (form : Form) (size : Size) (word : Word)
    → All (λ byte. byte < 256) (word_bytes form size word)
word_small Words size Erased = All-replicate (λ (byte : ℕ). byte < 256) 8 255 (omega arith)
word_small Words size (Held value) = bytes_small 8 0 value
word_small Words size Torn = All-nil (λ byte. byte < 256)
word_small Pairs size Erased = All-replicate (λ (byte : ℕ). byte < 256) 16 255 (omega arith)
word_small Pairs size (Held value) =
    All-append (λ (byte : ℕ). byte < 256) (to_le_bytes w64 value)
    (to_le_bytes w64 (complement value)) (bytes_small 8 0 value)
    (bytes_small 8 0 (complement value))
word_small Pairs size Torn = All-nil (λ byte. byte < 256)
word_small Coded size Erased = All-replicate (λ (byte : ℕ). byte < 256) 8 255 (omega arith)
word_small Coded size (Held value) = bytes_small 8 0 (coded_number size value)
word_small Coded size Torn = All-nil (λ byte. byte < 256)

words_small : (form : Form) (size : Size) (words : List Word)
    → All (λ byte. byte < 256) (flat_map (word_bytes form size) words)
words_small form size [] = All-nil (λ byte. byte < 256)
words_small form size (word ∷ words) =
    All-append (λ (byte : ℕ). byte < 256) (word_bytes form size word)
    (flat_map (word_bytes form size) words) (word_small form size word)
    (words_small form size words)

pub words_are_bytes : (form : Form) (size : Size) (words : List Word) (i : ℕ)
    → get_or (flat_map (word_bytes form size) words) i 0 < 256
words_are_bytes form size words i =
    small_at (flat_map (word_bytes form size) words) (words_small form size words) i
