-- Every text is a device's or has a fault: each part of it can be told by comparing it with
-- what could stand there.
use Rattle.std.proofs.Common.{◌≡◌, ◌≢◌, ◌⊎◌, ℕ, zero, suc, ◌+◌, ◌<◌, ◌≤◌, ◌^◌, List, [], ◌∷◌, ◌++◌, length, refl, sym, ap, ◌∙◌, arith, inl, inr, decimal, append_assoc, length-append}
use Rattle.std.specs.List.{All, flat_map}
use Rattle.std.proofs.lemmas.Bool.{cases_lt}
use Rattle.std.proofs.lemmas.List.Elements.{All-cons, All-head, All-nil, All-tail}
use Rattle.ee_text.specs.Field.{space}
use Rattle.ee_text.specs.Line.{line_feed, line_of}
use Rattle.ee_text.proofs.Public.{begins_and, begins_so, some_below}
use Rattle.ee_flash.specs.Device.{Device, IsBelowAllOnes, IsFormed, all_ones}
use Rattle.ee_flash.specs.Cells.{device_from}
use Rattle.ee_flash.specs.Size.{Size, IsWithinLimits, page_count, size_of}
use Rattle.ee_flash.specs.declared.word.Word.{Word}
use Rattle.ee_flash.specs.declared.word.Word.TheVariants.{Erased, Held, Torn}
use Rattle.ee_flash.proofs.Public.{below-held}
use Rattle.ee_image.specs.Text.{ArePages, IsPage, image_text, page_lines, page_text, size_text, word_text}
use Rattle.ee_image.specs.Fault.{BeginsWithSize, IsBadPage, IsImageTextFault, NoPage, NoSize, longest}
use Rattle.ee_image.specs.Reading.{ArePagesRead, spaced_words}
use Rattle.ee_image.specs.declared.fault.ImageFault.{ImageFault}
use Rattle.ee_image.specs.declared.fault.ImageFault.TheVariants.{TooLong, BadLine, BadShape}
use Rattle.ee_image.proofs.Answered.{device_read}
use Rattle.ee_image.proofs.Fronts.{ArePages-push, page_lines-push}
use Rattle.ee_image.proofs.Lines.{line_parts}

-- ---- words

-- so many words stand at the front of the text, and a line feed behind them
record WordsStand (count : ℕ) (text : List ℕ) : Type 0 where
  words : List Word
  as_long : length words ≡ count
  below_all_ones : All IsBelowAllOnes words
  rest : List ℕ
  text_is : text ≡ spaced_words words ++ (line_feed ∷ rest)

-- this one is the first of them
abbrev IsFirst : ℕ → List ℕ → Word → Type 0
IsFirst more text word =
    (rest : List ℕ) × (text ≡ (space ∷ word_text word) ++ rest) × WordsStand more rest

word_more : (more : ℕ) (text : List ℕ) (word : Word) → IsBelowAllOnes word → IsFirst more text word
    → WordsStand (suc more) text
word_more more text word below first =
    let stand = first.2 in
    record {
      words = word ∷ stand.words;
      as_long = ap suc stand.as_long;
      below_all_ones = All-cons IsBelowAllOnes word stand.words below stand.below_all_ones;
      rest = stand.rest;
      text_is = first.1 ∙ ap (λ l. (space ∷ word_text word) ++ l) stand.text_is
          ∙ ap (λ l. space ∷ l)
          (sym
          (append_assoc (word_text word) (spaced_words stand.words)
          (line_feed ∷ stand.rest)));
    }

first_word : (more : ℕ) (text rest : List ℕ) (words : List Word) → length words ≡ suc more
    → All IsBelowAllOnes words → text ≡ spaced_words words ++ (line_feed ∷ rest)
    → (word : Word) × IsBelowAllOnes word × IsFirst more text word
first_word more text rest [] long below text_is = absurd (omega arith)
first_word more text rest (word ∷ words) long below text_is =
    let stand : WordsStand more (spaced_words words ++ (line_feed ∷ rest)) = record {
      words = words;
      as_long = omega arith;
      below_all_ones = All-tail IsBelowAllOnes word words below;
      rest = rest;
      text_is = refl;
    } in (
      word,
      All-head IsBelowAllOnes word words below,
      (
        spaced_words words ++ (line_feed ∷ rest),
        text_is
            ∙ ap (λ l. space ∷ l)
            (append_assoc (word_text word) (spaced_words words) (line_feed ∷ rest)),
        stand,
      ),
    )

no_word : (more : ℕ) (text : List ℕ) → ¬ IsFirst more text Erased → ¬ IsFirst more text Torn
    → ((value : ℕ) → value < all_ones → ¬ IsFirst more text (Held value)) → (word : Word)
    → IsBelowAllOnes word → IsFirst more text word → ⊥
no_word more text not_erased not_torn none Erased below first = not_erased first
no_word more text not_erased not_torn none Torn below first = not_torn first
no_word more text not_erased not_torn none (Held value) below first =
    none value (below value refl) first

nothing_spaced : (words : List Word) → length words ≡ 0 → spaced_words words ≡ []
nothing_spaced [] none = refl
nothing_spaced (word ∷ words) none = absurd (omega arith)

told_words : (count : ℕ) (text : List ℕ) → WordsStand count text ⊎ ¬ WordsStand count text
told_words zero text =
    elim (begins_so (line_feed ∷ []) text) [
      | inl found ↦ inl record {
        words = [];
        as_long = refl;
        below_all_ones = All-nil IsBelowAllOnes;
        rest = found.0;
        text_is = found.1;
      }
      | inr none ↦ inr
          (λ stand. none stand.rest
          (stand.text_is
          ∙ ap (λ l. l ++ (line_feed ∷ stand.rest))
          (nothing_spaced stand.words stand.as_long)))
    ]
told_words (suc more) text =
    let told : (word : Word) → IsFirst more text word ⊎ ¬ IsFirst more text word =
    λ word.
    begins_and (space ∷ word_text word) (WordsStand more) (λ rest. told_words more rest) text in
    elim (told Erased) [
      | inl first ↦ inl (word_more more text Erased (λ value e. cc) first)
      | inr not_erased ↦ elim (told Torn) [
        | inl first ↦ inl (word_more more text Torn (λ value e. cc) first)
        | inr not_torn ↦ elim
            (some_below (λ value. IsFirst more text (Held value)) (λ value. told (Held value))
            all_ones) [
              | inl found ↦ inl
                  (word_more more text (Held found.0) (below-held found.0 found.1) found.2)
              | inr none ↦ inr (λ stand.
                  let first =
                  first_word more text stand.rest stand.words stand.as_long stand.below_all_ones
                  stand.text_is in
                  no_word more text not_erased not_torn none first.0 first.1 first.2)
            ]
      ]
    ]

-- ---- the line of a page

record PageStands (words : ℕ) (text : List ℕ) : Type 0 where
  wear : ℕ
  page : List Word
  rest : List ℕ
  proper : IsPage words wear page
  text_is : text ≡ line_of (page_text wear page) ++ rest

-- it begins with this wear
abbrev HasWear : ℕ → List ℕ → ℕ → Type 0
HasWear words text wear = (rest : List ℕ) × (text ≡ decimal wear ++ rest) × WordsStand words rest

page_stands : (words : ℕ) (text : List ℕ) (wear : ℕ) → wear < all_ones + 1 → HasWear words text wear
    → PageStands words text
page_stands words text wear less has =
    let stand = has.2 in
    record {
      wear = wear;
      page = stand.words;
      rest = stand.rest;
      proper = record {
        wear_fits = omega arith;
        as_long = stand.as_long;
        below_all_ones = stand.below_all_ones;
      };
      text_is =
          has.1 ∙ ap (λ l. decimal wear ++ l) stand.text_is
          ∙ sym (line_parts wear stand.words stand.rest);
    }

has_wear : (words : ℕ) (text : List ℕ) (wear : ℕ) (page : List Word) (rest : List ℕ)
    → IsPage words wear page → text ≡ line_of (page_text wear page) ++ rest
    → HasWear words text wear
has_wear words text wear page rest proper text_is =
    let stand : WordsStand words (spaced_words page ++ (line_feed ∷ rest)) = record {
      words = page;
      as_long = proper.as_long;
      below_all_ones = proper.below_all_ones;
      rest = rest;
      text_is = refl;
    } in
    (spaced_words page ++ (line_feed ∷ rest), text_is ∙ line_parts wear page rest, stand)

told_page : (words : ℕ) (text : List ℕ) → PageStands words text ⊎ NoPage words text
told_page words text =
    elim
    (some_below (HasWear words text)
    (λ wear. begins_and (decimal wear) (WordsStand words) (told_words words) text)
    (all_ones + 1)) [
      | inl found ↦ inl (page_stands words text found.0 found.1 found.2)
      | inr none ↦ inr
          (λ wear page rest proper e. none wear (let h = proper.wear_fits in omega arith)
          (has_wear words text wear page rest proper e))
    ]

-- ---- the lines of the pages

told_empty : (text : List ℕ) → (text ≡ []) ⊎ (text ≢ [])
told_empty [] = inl refl
told_empty (byte ∷ text) = inr (λ e. cc)

-- the cells of pages
abbrev cells_of : List (List Word) → List Word
cells_of pages = flat_map (λ page. page) pages

-- all pages that are needed, or a bad line
abbrev PagesOrFault : Size → List ℕ → Type 0
PagesOrFault size text =
    ((pages : List (List Word)) × (wears : List ℕ)
    × ArePagesRead size.words (page_count size) text [] (cells_of pages) wears)
    ⊎ ((n : ℕ) × IsBadPage size text n)

pages_end : (size : Size) (text : List ℕ) (pages : List (List Word)) (wears rest : List ℕ)
    → ArePages size.words pages wears → text ≡ page_lines pages wears ++ rest
    → length pages ≡ page_count size → PagesOrFault size text
pages_end size text pages wears rest proper text_is many =
    elim (told_empty rest) [
      | inl none ↦ inl (
        pages,
        wears,
        record {
          pages = pages;
          count_is = many;
          proper = proper;
          text_is = text_is ∙ ap (λ l. page_lines pages wears ++ l) none;
          cells_are = refl;
        },
      )
      | inr some ↦ inr (
        length pages + 2,
        record {
          pages = pages;
          wears = wears;
          rest = rest;
          proper = proper;
          text_is = text_is;
          stops = inr (many, some);
          number = refl;
        },
      )
    ]

told_pages : (left : ℕ) (size : Size) (text : List ℕ) (pages : List (List Word))
    (wears rest : List ℕ)
    → ArePages size.words pages wears → text ≡ page_lines pages wears ++ rest
    → length pages + left ≡ page_count size → PagesOrFault size text
told_pages zero size text pages wears rest proper text_is many =
    pages_end size text pages wears rest proper text_is (omega arith)
told_pages (suc left) size text pages wears rest proper text_is many =
    elim (told_page size.words rest) [
      | inl found ↦
          told_pages left size text (pages ++ found.page ∷ []) (wears ++ found.wear ∷ []) found.rest
          (ArePages-push size.words pages wears found.page found.wear proper found.proper)
          (text_is ∙ ap (λ l. page_lines pages wears ++ l) found.text_is
          ∙ sym
          (append_assoc (page_lines pages wears) (line_of (page_text found.wear found.page))
          found.rest)
          ∙ ap (λ l. l ++ found.rest)
          (sym (page_lines-push size.words pages wears found.page found.wear proper)))
          (omega (arith, length-append pages (found.page ∷ [])))
      | inr none ↦ inr (
        length pages + 2,
        record {
          pages = pages;
          wears = wears;
          rest = rest;
          proper = proper;
          text_is = text_is;
          stops = inl (omega arith, none);
          number = refl;
        },
      )
    ]

-- ---- the first line

-- it says these numbers
abbrev SaysSize : List ℕ → ℕ → ℕ → Type 0
SaysSize text pages words =
    (rest : List ℕ) × (text ≡ line_of (size_text (size_of pages words)) ++ rest)

told_numbers : (text : List ℕ) (pages words : ℕ)
    → SaysSize text pages words ⊎ ¬ SaysSize text pages words
told_numbers text pages words =
    elim (begins_so (line_of (size_text (size_of pages words))) text)
    [ inl found ↦ inl found | inr none ↦ inr (λ found. none found.0 found.1) ]

abbrev SaysPages : List ℕ → ℕ → Type 0
SaysPages text pages = (words : ℕ) × (words < 2 ^ 64) × SaysSize text pages words

told_pages_said : (text : List ℕ) (pages : ℕ) → SaysPages text pages ⊎ ¬ SaysPages text pages
told_pages_said text pages =
    elim (some_below (SaysSize text pages) (told_numbers text pages) (2 ^ 64))
    [ inl found ↦ inl found | inr none ↦ inr (λ found. none found.0 found.1 found.2) ]

told_size : (text : List ℕ)
    → ((size : Size) × (rest : List ℕ) × BeginsWithSize text size rest) ⊎ NoSize text
told_size text =
    elim (some_below (SaysPages text) (told_pages_said text) (2 ^ 64)) [
      | inl found ↦
          let said = found.2 in
          inl (
            size_of found.0 said.0,
            said.2.0,
            record {
              numbered = record { pages = found.1; words = said.1 };
              text_is = said.2.1;
            },
          )
      | inr none ↦ inr
          (λ size rest begins. none size.pages begins.numbered.pages
          (size.words, begins.numbered.words, (rest, begins.text_is)))
    ]

told_limits : (size : Size) → IsWithinLimits size ⊎ ¬ IsWithinLimits size
told_limits size =
    elim (cases_lt size.pages 1) [
      | inl none ↦ inr (λ limits. let h = limits.some_pages in omega arith)
      | inr some ↦ elim (cases_lt 64 size.pages) [
        | inl many ↦ inr (λ limits. let h = limits.few_pages in omega arith)
        | inr few ↦ elim (cases_lt size.words 5) [
          | inl short ↦ inr (λ limits. let h = limits.some_words in omega arith)
          | inr wide ↦ elim (cases_lt 512 size.words) [
            | inl long ↦ inr (λ limits. let h = limits.few_words in omega arith)
            | inr fits ↦ inl record {
              some_pages = omega arith;
              few_pages = omega arith;
              some_words = omega arith;
              few_words = omega arith;
            }
          ]
        ]
      ]
    ]

-- ---- the law

abbrev TextOrFault : List ℕ → Type 0
TextOrFault text =
    ((device : Device) × IsFormed device × (text ≡ image_text device))
    ⊎ ((fault : ImageFault) × IsImageTextFault text fault)

behind_size : (text : List ℕ) (size : Size) (rest : List ℕ) → length text ≤ longest
    → BeginsWithSize text size rest → IsWithinLimits size → TextOrFault text
behind_size text size rest short begins limits =
    elim (told_pages (page_count size) size rest [] [] rest tt refl (omega arith)) [
      | inl read ↦
          let is = device_read text rest size (cells_of read.0) read.1 begins limits read.2 in
          inl (device_from size (cells_of read.0) read.1, is.formed, is.text_is)
      | inr bad ↦ inr (
        BadLine bad.0,
        (
          short,
          inr record {
            size = size;
            rest = rest;
            begins = begins;
            within_limits = limits;
            bad = bad.1;
          },
        ),
      )
    ]

pub each_text_is_judged_lem : (text : List ℕ)
    → ((device : Device) × IsFormed device × (text ≡ image_text device))
    ⊎ ((fault : ImageFault) × IsImageTextFault text fault)
each_text_is_judged_lem text =
    elim (cases_lt longest (length text)) [
      | inl long ↦ inr (TooLong, long)
      | inr short ↦ elim (told_size text) [
        | inl found ↦ elim (told_limits found.0) [
          | inl limits ↦ behind_size text found.0 found.1 short found.2 limits
          | inr outside ↦ inr (
            BadShape,
            (
              short,
              record {
                size = found.0;
                rest = found.1;
                begins = found.2;
                outside = outside;
              },
            ),
          )
        ]
        | inr none ↦ inr (BadLine 1, (short, inl (none, refl)))
      ]
    ]
