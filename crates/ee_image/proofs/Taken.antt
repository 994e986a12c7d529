-- Words and pages, read one after another.
use Rattle.std.proofs.Common.{◌≡◌, ◌≢◌, ℕ, suc, ◌+◌, ◌<◌, ◌^◌, List, [], ◌∷◌, ◌++◌, length, take, drop, ◌-◌, min, refl, sym, ap, ◌∙◌, arith, append_assoc, length-append, length-drop, subst, take-append-drop, Option, Some, None, IfNone, IfSome, Bor}
use Rattle.std.specs.Fmt.{decimal}
use Rattle.std.specs.List.{All, flat_map}
use Rattle.std.proofs.Math.Seq.{drop-append_seam, take-append-add}
use Rattle.std.proofs.lemmas.List.{append-nil, take_all}
use Rattle.std.proofs.lemmas.List.Elements.{All-head, All-push, All-tail}
use Rattle.std.proofs.lemmas.Grind.{flat_map-append}
use Rattle.ee_text.specs.Field.{IsField, space}
use Rattle.ee_text.specs.Line.{line_feed, line_of}
use Rattle.ee_text.proofs.Public.{IsField-decimal, first_place, length-decimal-u64, no_place}
use Rattle.ee_flash.specs.Device.{IsBelowAllOnes}
use Rattle.ee_flash.specs.declared.word.Word.{Word}
use Rattle.ee_image.specs.Text.{word_text, page_text, page_lines, ArePages}
use Rattle.ee_image.specs.Fault.{NoPage}
use Rattle.ee_image.specs.Reading.{ArePagesRead, AreWordsRead, IsNextPage, IsPageFault, IsWordsFault, NoWords, spaced_words}
use Rattle.ee_image.specs.declared.reading.PageFault.{PageFault}
use Rattle.ee_image.specs.declared.reading.PageFault.TheVariants.{Bad, NoMemory}
use Rattle.ee_image.proofs.Digits.{one_word}
use Rattle.ee_image.proofs.Lines.{line_parts}
use Rattle.ee_image.proofs.Fronts.{ArePages-push, page_lines-push}

-- ---- words

pub one_word_more : (n : ℕ) (text rest behind : List ℕ) (old cells new : List Word) (word : Word)
    → AreWordsRead n text rest old cells
    → IsBelowAllOnes word × (rest ≡ (space ∷ word_text word) ++ behind) → new ≡ cells ++ word ∷ []
    → AreWordsRead (n + 1) text behind old new
one_word_more n text rest behind old cells new word read first pushed =
    let spelled : spaced_words (read.words ++ word ∷ []) ++ behind
    ≡ spaced_words read.words ++ ((space ∷ word_text word) ++ behind) =
    ap (λ l. l ++ behind)
    (flat_map-append (λ w. space ∷ word_text w) read.words (word ∷ [])
    ∙ ap (λ l. spaced_words read.words ++ l) (append-nil (space ∷ word_text word)))
    ∙ append_assoc (spaced_words read.words) (space ∷ word_text word) behind in
    record {
      words = read.words ++ word ∷ [];
      as_long = omega (arith, length-append read.words (word ∷ []), read.as_long);
      below_all_ones = All-push IsBelowAllOnes read.words word read.below_all_ones first.0;
      text_is = read.text_is ∙ ap (λ l. spaced_words read.words ++ l) first.1 ∙ sym spelled;
      cells =
          pushed ∙ ap (λ l. l ++ word ∷ []) read.cells ∙ append_assoc old read.words (word ∷ []);
    }

-- of two rows of words the first are the same
behind_first : (word other : Word) (words others : List Word) (x y : List ℕ)
    → All IsBelowAllOnes (word ∷ words) → All IsBelowAllOnes (other ∷ others)
    → spaced_words (word ∷ words) ++ x ≡ spaced_words (other ∷ others) ++ y
    → spaced_words words ++ x ≡ spaced_words others ++ y
behind_first word other words others x y below under e =
    (one_word word other (spaced_words words ++ x) (spaced_words others ++ y)
    (All-head IsBelowAllOnes word words below) (All-head IsBelowAllOnes other others under)
    (sym (append_assoc (word_text word) (spaced_words words) x) ∙ ap (drop 1) e
    ∙ append_assoc (word_text other) (spaced_words others) y)).1

-- a text that begins with a word
pub record BeginsWithWord (text : List ℕ) : Type 0 where
  pub word : Word
  pub behind : List ℕ
  pub below_all_ones : IsBelowAllOnes word
  pub text_is : text ≡ (space ∷ word_text word) ++ behind

-- a row of words goes on where a shorter one stops
goes_on : (words others : List Word) (x y : List ℕ) → All IsBelowAllOnes words
    → All IsBelowAllOnes others → length words < length others
    → spaced_words words ++ x ≡ spaced_words others ++ y → BeginsWithWord x
goes_on words [] x y below under shorter e = absurd (omega arith)
goes_on [] (other ∷ others) x y below under shorter e = record {
  word = other;
  behind = spaced_words others ++ y;
  below_all_ones = All-head IsBelowAllOnes other others under;
  text_is = e ∙ ap (λ l. space ∷ l) (append_assoc (word_text other) (spaced_words others) y);
}
goes_on (word ∷ words) (other ∷ others) x y below under shorter e =
    goes_on words others x y (All-tail IsBelowAllOnes word words below)
    (All-tail IsBelowAllOnes other others under) (omega arith)
    (behind_first word other words others x y below under e)

-- words that break off are not so many
pub too_few_words : (count n : ℕ) (text rest : List ℕ) (old new : List Word)
    → AreWordsRead n text rest old new → n < count → (BeginsWithWord rest → ⊥) → NoWords count text
too_few_words count n text rest old new read early none words more many below spelled =
    none
    (goes_on read.words words rest more read.below_all_ones below (omega (arith, read.as_long))
    (sym read.text_is ∙ spelled))

-- behind as many words stands the same
same_behind : (words others : List Word) (x y : List ℕ) → All IsBelowAllOnes words
    → All IsBelowAllOnes others → length words ≡ length others
    → spaced_words words ++ x ≡ spaced_words others ++ y → x ≡ y
same_behind [] [] x y below under same e = e
same_behind [] (other ∷ others) x y below under same e = absurd (omega arith)
same_behind (word ∷ words) [] x y below under same e = absurd (omega arith)
same_behind (word ∷ words) (other ∷ others) x y below under same e =
    same_behind words others x y (All-tail IsBelowAllOnes word words below)
    (All-tail IsBelowAllOnes other others under) (omega arith)
    (behind_first word other words others x y below under e)

-- ---- the line of a page

-- a wear and a space at the front of a text are at the front of its first 21 bytes
wear_in_front : (n : ℕ) (text : List ℕ) (wear : ℕ) (behind : List ℕ) → n ≡ min (length text) 21
    → wear < 2 ^ 64 → text ≡ decimal wear ++ space ∷ behind
    → take n text ≡ decimal wear ++ space ∷ take (n - length (decimal wear) - 1) behind
wear_in_front n text wear behind most fits e =
    let long = ap length e in
    let inner : n ≡ length (decimal wear) + suc (n - length (decimal wear) - 1) =
    omega
    (arith, length-decimal-u64 wear fits, length-append (decimal wear) (space ∷ behind)) in
    ap (take n) e ∙ ap (λ k. take k (decimal wear ++ space ∷ behind)) inner
    ∙ take-append-add (decimal wear) (space ∷ behind) (suc (n - length (decimal wear) - 1))

-- what stands in front of their first space is the wear, where a wear and a space stand at the
-- front
pub cut_behind_wear : (n : ℕ) (text field : List ℕ) (rest : Option (Bor (List ℕ))) (wear : ℕ)
    (behind : List ℕ)
    → n ≡ min (length text) 21 → IsField field → IfNone rest (take n text ≡ field)
    → IfSome rest (λ tail. take n text ≡ field ++ space ∷ tail.now) → wear < 2 ^ 64
    → text ≡ decimal wear ++ space ∷ behind → field ≡ decimal wear
cut_behind_wear n text field None wear behind most lacks last more fits e =
    absurd
    (no_place 32 (take n text) (decimal wear) (take (n - length (decimal wear) - 1) behind)
    (subst IsField (sym last) lacks) (wear_in_front n text wear behind most fits e))
cut_behind_wear n text field (Some tail) wear behind most lacks last more fits e =
    (first_place 32 field (decimal wear) tail.now (take (n - length (decimal wear) - 1) behind)
    lacks (IsField-decimal wear fits)
    (sym more ∙ wear_in_front n text wear behind most fits e)).0

-- what stands behind a front, as a slice takes it
pub behind_front : (text front rest : List ℕ) → text ≡ front ++ rest
    → take (length text - length front) (drop (length front) text) ≡ rest
behind_front text front rest e =
    take_all (length text - length front) (drop (length front) text)
    (omega (arith, length-drop (length front) text))
    ∙ ap (drop (length front)) e ∙ drop-append_seam front rest

-- a field at the front of a text, and all that stands behind it
pub record StandsAtFront (text field : List ℕ) : Type 0 where
  pub behind : List ℕ
  pub text_is : text ≡ field ++ behind

-- the field that is cut from a text's first bytes stands at the front of the text
pub field_at_front : (n : ℕ) (text field : List ℕ) (rest : Option (Bor (List ℕ)))
    → IfNone rest (take n text ≡ field)
    → IfSome rest (λ tail. take n text ≡ field ++ space ∷ tail.now) → StandsAtFront text field
field_at_front n text field None last more = record {
  behind = drop n text;
  text_is = sym (take-append-drop n text) ∙ ap (λ l. l ++ drop n text) last;
}
field_at_front n text field (Some tail) last more = record {
  behind = space ∷ tail.now ++ drop n text;
  text_is =
      sym (take-append-drop n text) ∙ ap (λ l. l ++ drop n text) more
      ∙ append_assoc field (space ∷ tail.now) (drop n text);
}

pub page_read : (words wear : ℕ) (text rest after behind : List ℕ) (old new : List Word)
    → wear < 2 ^ 64 → text ≡ decimal wear ++ rest → AreWordsRead words rest after old new
    → after ≡ line_feed ∷ behind → IsNextPage words wear text behind old new
page_read words wear text rest after behind old new fits begins read ends = record {
  page = read.words;
  proper = record {
    wear_fits = omega arith;
    as_long = read.as_long;
    below_all_ones = read.below_all_ones;
  };
  text_is =
      begins
      ∙ ap (λ l. decimal wear ++ l) (read.text_is ∙ ap (λ l. spaced_words read.words ++ l) ends)
      ∙ sym (line_parts wear read.words behind);
  cells = read.cells;
}

-- the words at the front of a text, and the line feed behind them
pub record WordsStand (words : ℕ) (text : List ℕ) : Type 0 where
  pub page : List Word
  pub rest : List ℕ
  pub as_long : length page ≡ words
  pub below_all_ones : All IsBelowAllOnes page
  pub text_is : text ≡ spaced_words page ++ (line_feed ∷ rest)

-- no page stands there, where no words stand behind any wear
pub no_page : (words : ℕ) (text : List ℕ) → 0 < words
    → ((wear : ℕ) (behind : List ℕ) → wear < 2 ^ 64 → text ≡ decimal wear ++ space ∷ behind
    → WordsStand words (space ∷ behind) → ⊥)
    → NoPage words text
no_page words text some none wear [] rest proper e = absurd (omega (arith, proper.as_long))
no_page words text some none wear (word ∷ page) rest proper e =
    none wear ((word_text word ++ spaced_words page) ++ (line_feed ∷ rest))
    (omega (arith, proper.wear_fits)) (e ∙ line_parts wear (word ∷ page) rest)
    record {
      page = word ∷ page;
      rest = rest;
      as_long = proper.as_long;
      below_all_ones = proper.below_all_ones;
      text_is = refl;
    }

-- what stands behind the wear, where the text begins with one
abbrev pub IsBehindWear : List ℕ → List ℕ → Type 0
IsBehindWear text rest =
    (wear : ℕ) (behind : List ℕ) → wear < 2 ^ 64 → text ≡ decimal wear ++ space ∷ behind
    → rest ≡ space ∷ behind

-- what was wrong with the words is wrong with the line
pub words_wrong : (words : ℕ) (text rest : List ℕ) (fault : PageFault) → 0 < words
    → IsBehindWear text rest → IsWordsFault words rest fault → IsPageFault words text fault
words_wrong words text rest Bad some is none =
    no_page words text some
    (λ wear behind fits e stand. none stand.page (line_feed ∷ stand.rest) stand.as_long
    stand.below_all_ones (is wear behind fits e ∙ stand.text_is))
words_wrong words text rest NoMemory some is none = tt

-- no line feed stands behind them
pub goes_on_wrong : (words : ℕ) (text rest after : List ℕ) (old new : List Word) → 0 < words
    → IsBehindWear text rest → AreWordsRead words rest after old new
    → ((behind : List ℕ) → after ≢ line_feed ∷ behind) → NoPage words text
goes_on_wrong words text rest after old new some is read other =
    no_page words text some (λ wear behind fits e stand.
    other stand.rest (same_behind read.words stand.page after (line_feed ∷ stand.rest)
    read.below_all_ones stand.below_all_ones (omega (arith, read.as_long, stand.as_long))
    (sym read.text_is ∙ is wear behind fits e ∙ stand.text_is)))

-- ---- the pages

pub one_page_more : (words n wear : ℕ) (text rest more : List ℕ) (cells new : List Word)
    (wears counts : List ℕ)
    → ArePagesRead words n text rest cells wears → IsNextPage words wear rest more cells new
    → counts ≡ wears ++ wear ∷ [] → ArePagesRead words (n + 1) text more new counts
one_page_more words n wear text rest more cells new wears counts read next pushed =
    let line : List ℕ = line_of (page_text wear next.page) in
    let lines = page_lines-push words read.pages wears next.page wear read.proper in
    record {
      pages = read.pages ++ next.page ∷ [];
      count_is = omega (arith, length-append read.pages (next.page ∷ []), read.count_is);
      proper =
          subst (ArePages words (read.pages ++ next.page ∷ [])) (sym pushed)
          (ArePages-push words read.pages wears next.page wear read.proper next.proper);
      text_is =
          read.text_is ∙ ap (λ l. page_lines read.pages wears ++ l) next.text_is
          ∙ sym (append_assoc (page_lines read.pages wears) line more)
          ∙ ap (λ l. l ++ more)
          (sym lines ∙ ap (page_lines (read.pages ++ next.page ∷ [])) (sym pushed));
      cells_are =
          next.cells ∙ ap (λ l. l ++ next.page) read.cells_are
          ∙ sym
          (flat_map-append (λ page. page) read.pages (next.page ∷ [])
          ∙ ap (λ l. flat_map (λ page. page) read.pages ++ l) (append-nil next.page));
    }
