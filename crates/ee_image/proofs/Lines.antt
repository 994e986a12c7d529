-- The lines of an image: none has a line feed in it, and no two are alike.
use Rattle.std.proofs.Common.{◌≡◌, ◌≢◌, ℕ, ◌<◌, ◌^◌, List, [], ◌∷◌, ◌++◌, refl, sym, ap, ◌∙◌, arith, append_assoc, codes, map}
use Rattle.std.specs.Fmt.{decimal}
use Rattle.std.specs.List.{AllByRecursion}
use Rattle.std.proofs.lemmas.Fmt.{decimal_injective}
use Rattle.std.proofs.lemmas.List.{append-nil}
use Rattle.ee_text.specs.Field.{IsField, joined_fields, space}
use Rattle.ee_text.specs.Line.{IsLine, line_feed, line_of}
use Rattle.ee_text.proofs.Public.{Lacks-joined, joined_injective, IsField-decimal, IsLine-decimal}
use Rattle.ee_text.proofs.Public as feeds
use Rattle.ee_flash.specs.Size.{Size, size_of}
use Rattle.ee_flash.specs.declared.word.Word.{Word}
use Rattle.ee_image.specs.Text.{word_text, page_text, size_text, IsPage, IsNumbered}
use Rattle.ee_image.specs.Fault.{BeginsWithSize, NoSize}
use Rattle.ee_image.specs.Reading.{spaced_words}
use Rattle.ee_image.proofs.Digits.{Lacks-words, no_line_feed, no_space, words_injective}

wear_fits : (words wear : ℕ) (page : List Word) → IsPage words wear page → wear < 2 ^ 64
wear_fits words wear page proper = omega (arith, proper.wear_fits)

-- the fields of a page's line
page_fields : (words wear : ℕ) (page : List Word) → IsPage words wear page
    → AllByRecursion IsField (decimal wear ∷ map word_text page)
page_fields words wear page proper =
    (IsField-decimal wear (wear_fits words wear page proper), Lacks-words 32 no_space page)

pub page_is_line : (words wear : ℕ) (page : List Word) → IsPage words wear page
    → IsLine (page_text wear page)
page_is_line words wear page proper =
    Lacks-joined 10 (omega arith) (decimal wear ∷ map word_text page)
    (IsLine-decimal wear (wear_fits words wear page proper), Lacks-words 10 no_line_feed page)

-- no two pages are spelled alike
pub page_text_injective : (words wear other : ℕ) (page second : List Word) → IsPage words wear page
    → IsPage words other second → page_text wear page ≡ page_text other second
    → (wear ≡ other) × (page ≡ second)
page_text_injective words wear other page second proper right e =
    let fields =
    joined_injective (decimal wear) (decimal other) (map word_text page) (map word_text second)
    (page_fields words wear page proper) (page_fields words other second right) e in
    let heads : decimal wear ≡ decimal other = cc in
    let tails : map word_text page ≡ map word_text second = cc in (
      decimal_injective wear other (wear_fits words wear page proper)
          (wear_fits words other second right) heads,
      words_injective page second proper.below_all_ones right.below_all_ones tails,
    )

pub size_fields : (size : Size) → IsNumbered size
    → AllByRecursion IsField (codes "ee" ∷ decimal size.pages ∷ decimal size.words ∷ [])
size_fields size fits =
    (refl, (IsField-decimal size.pages fits.pages, (IsField-decimal size.words fits.words, tt)))

pub size_is_line : (size : Size) → IsNumbered size → IsLine (size_text size)
size_is_line size fits =
    Lacks-joined 10 (omega arith) (codes "ee" ∷ decimal size.pages ∷ decimal size.words ∷ [])
    (refl, (IsLine-decimal size.pages fits.pages, (IsLine-decimal size.words fits.words, tt)))

-- nor are two sizes
pub size_text_injective : (size other : Size) → IsNumbered size → IsNumbered other
    → size_text size ≡ size_text other → size ≡ other
size_text_injective size other fits suits e =
    let fields =
    joined_injective (codes "ee") (codes "ee") (decimal size.pages ∷ decimal size.words ∷ [])
    (decimal other.pages ∷ decimal other.words ∷ []) (size_fields size fits)
    (size_fields other suits) e in
    let first : decimal size.pages ≡ decimal other.pages = cc in
    let second : decimal size.words ≡ decimal other.words = cc in
    let pages = decimal_injective size.pages other.pages fits.pages suits.pages first in
    let words = decimal_injective size.words other.words fits.words suits.words second in
    ap (λ (p : ℕ). size_of p size.words) pages ∙ ap (λ (w : ℕ). size_of other.pages w) words

-- a text begins with one size at most
pub one_size : (text : List ℕ) (size other : Size) (x y : List ℕ) → BeginsWithSize text size x
    → BeginsWithSize text other y → (size ≡ other) × (x ≡ y)
one_size text size other x y begins starts =
    let same =
    feeds.first_line (size_text size) (size_text other) x y (size_is_line size begins.numbered)
    (size_is_line other starts.numbered) (sym begins.text_is ∙ starts.text_is) in
    (size_text_injective size other begins.numbered starts.numbered same.0, same.1)

-- a first line that says no size
pub other_size : (text line rest : List ℕ) → text ≡ line_of line ++ rest → IsLine line
    → ((size : Size) → IsNumbered size → line ≢ size_text size) → NoSize text
other_size text line rest parts is_line other size more begins =
    other size begins.numbered
    (feeds.first_line line (size_text size) rest more is_line
    (size_is_line size begins.numbered) (sym parts ∙ begins.text_is)).0

-- ---- the parts of a page's line

joined-spaced : (field : List ℕ) (words : List Word)
    → joined_fields (field ∷ map word_text words) ≡ field ++ spaced_words words
joined-spaced field [] = sym (append-nil field)
joined-spaced field (word ∷ words) =
    ap (λ l. field ++ space ∷ l) (joined-spaced (word_text word) words)

pub line_parts : (wear : ℕ) (page : List Word) (rest : List ℕ)
    → line_of (page_text wear page) ++ rest
    ≡ decimal wear ++ (spaced_words page ++ (line_feed ∷ rest))
line_parts wear page rest =
    append_assoc (page_text wear page) (line_feed ∷ []) rest
    ∙ ap (λ l. l ++ (line_feed ∷ rest)) (joined-spaced (decimal wear) page)
    ∙ append_assoc (decimal wear) (spaced_words page) (line_feed ∷ rest)
