-- How long the text of a device is at most.
use Rattle.std.proofs.Common.{ℕ, ◌+◌, ◌*◌, ◌≤◌, List, [], ◌∷◌, ◌++◌, length, map, arith, length-append}
use Rattle.std.specs.Fmt.{decimal}
use Rattle.ee_text.specs.Field.{joined_fields}
use Rattle.ee_text.specs.Line.{line_of}
use Rattle.ee_text.proofs.Public.{length-decimal-u64}
use Rattle.ee_flash.specs.Size.{Size}
use Rattle.ee_flash.specs.declared.word.Word.{Word}
use Rattle.ee_flash.specs.declared.word.Word.TheVariants.{Erased, Held, Torn}
use Rattle.ee_image.specs.Text.{word_text, page_text, page_lines, size_text, IsPage, ArePages, IsNumbered}
use Rattle.ee_image.proofs.Digits.{length-digits}

length-word_text : (word : Word) → length (word_text word) ≤ 16
length-word_text Erased = omega arith
length-word_text Torn = omega arith
length-word_text (Held value) = omega (arith, length-digits value)

length-fields : (first : List ℕ) (words : List Word)
    → length (joined_fields (first ∷ map word_text words)) ≤ length first + 17 * length words
length-fields first [] = omega arith
length-fields first (word ∷ words) =
    omega (
      arith,
      length-append first (32 ∷ joined_fields (word_text word ∷ map word_text words)),
      length-fields (word_text word) words,
      length-word_text word,
    )

length-page : (words wear : ℕ) (page : List Word) → IsPage words wear page → words ≤ 512
    → length (line_of (page_text wear page)) ≤ 8725
length-page words wear page proper few =
    omega (
      arith,
      length-append (page_text wear page) (10 ∷ []),
      length-fields (decimal wear) page,
      length-decimal-u64 wear (omega (arith, proper.wear_fits)),
      proper.as_long,
    )

length-page_lines : (words : ℕ) (pages : List (List Word)) (wears : List ℕ)
    → ArePages words pages wears → words ≤ 512
    → length (page_lines pages wears) ≤ 8725 * length pages
length-page_lines words [] wears proper few = omega arith
length-page_lines words (page ∷ pages) [] proper few = absurd proper
length-page_lines words (page ∷ pages) (wear ∷ wears) proper few =
    omega (
      arith,
      length-append (line_of (page_text wear page)) (page_lines pages wears),
      length-page words wear page proper.0 few,
      length-page_lines words pages wears proper.1 few,
    )

length-size : (size : Size) → IsNumbered size → length (line_of (size_text size)) ≤ 45
length-size size fits =
    omega (
      arith,
      length-append (size_text size) (10 ∷ []),
      length-append (decimal size.pages) (32 ∷ decimal size.words),
      length-decimal-u64 size.pages fits.pages,
      length-decimal-u64 size.words fits.words,
    )

-- a first line and the lines of 128 pages at most
pub length-image : (size : Size) (pages : List (List Word)) (wears : List ℕ) → IsNumbered size
    → ArePages size.words pages wears → size.words ≤ 512 → length pages ≤ 128
    → length (line_of (size_text size) ++ page_lines pages wears) ≤ 4194304
length-image size pages wears fits proper few short =
    omega (
      arith,
      length-append (line_of (size_text size)) (page_lines pages wears),
      length-size size fits,
      length-page_lines size.words pages wears proper few,
    )
