-- A text without the erased words reads back, and how it grows.
use Rattle.std.proofs.Common.{◌≡◌, ◌≢◌, ◌⊎◌, ℕ, Bool, zero, suc, ◌+◌, ◌-◌, ◌==◌, ◌<◌, ◌≤◌, min, true, false, List, [], ◌∷◌, ◌++◌, length, get_or, take, drop, refl, sym, ap, ◌∙◌, subst, arith, inl, inr, None, length-append}
use Rattle.std.specs.Prelude.{if◌then◌else◌}
use Rattle.std.specs.List.{AllByRecursion, flat_map}
use Rattle.std.proofs.lemmas.Bool.{true≢false, cases_Bool, ne_eqb, eq-eqb, cases_eq, cases_lt}
use Rattle.std.proofs.lemmas.List.Folds.{list_all_at, list_all_more}
use Rattle.std.proofs.lemmas.List.{append-nil, append_assoc, nil_from_length, length-take, length-take-le, length-drop, take_all, take-append-drop}
use Rattle.std.proofs.lemmas.List.Concat.{flat_map-append}
use Rattle.std.proofs.Math.Seq.{drop-nil, take-add}
use Rattle.hex.specs.Hex.{IsBytes}
use Rattle.ee_shell.specs.Dumps.intel_hex.Record.{Record, AreLinesOf}
use Rattle.ee_shell.specs.Dumps.intel_hex.Text.{AgreeWithin, IsByteAt, IsHexOf, Says, all_placed, numbered_bytes, placed_bytes, upper_after}
use Rattle.ee_shell.specs.Dumps.intel_hex.Written.{ByteRun, end_record, is_erased_word, joined, record_line, rows, run_records, runs, sparse_text, words_in}
use Rattle.ee_shell.proofs.dumps.intel_hex.Written.{IsInside, IsSaid, all_no_end, all_written, end_is_written, is_bytes_drop, is_bytes_take, line_again, lines_again, numbered_at, numbered_parts, numbered_says, rows_inside, rows_placed}

-- the words in one row
abbrev pub concat : List (List ℕ) → List ℕ
concat words = flat_map (λ word. word) words

-- ---- words

pub words_join : (most size : ℕ) (bytes : List ℕ) → 0 < size → length bytes ≤ most
    → concat (words_in most size bytes) ≡ bytes
words_join zero size [] some few = refl
words_join zero size (byte ∷ bytes) some few = absurd (omega arith)
words_join (suc most) size [] some few = refl
words_join (suc most) size (byte ∷ bytes) some few =
    let dropped : length (drop size (byte ∷ bytes)) ≤ most =
    omega (arith, length-drop size (byte ∷ bytes)) in
    ap (λ l. take size (byte ∷ bytes) ++ l)
    (words_join most size (drop size (byte ∷ bytes)) some dropped)
    ∙ take-append-drop size (byte ∷ bytes)

words_are_bytes : (most size : ℕ) (bytes : List ℕ) → IsBytes bytes
    → AllByRecursion IsBytes (words_in most size bytes)
words_are_bytes zero size bytes all = tt
words_are_bytes (suc most) size [] all = tt
words_are_bytes (suc most) size (byte ∷ bytes) all = (
  is_bytes_take size (byte ∷ bytes) all,
  words_are_bytes most size (drop size (byte ∷ bytes)) (is_bytes_drop size (byte ∷ bytes) all),
)

-- ---- what the records of runs say

placed_behind : (upper : ℕ) (records more : List Record) (pairs : List (ℕ × ℕ))
    → ((above : ℕ) → all_placed above more ≡ pairs)
    → all_placed upper (records ++ more) ≡ all_placed upper records ++ pairs
placed_behind upper [] more pairs same = same upper
placed_behind upper (r ∷ records) more pairs same =
    ap (λ l. placed_bytes upper r ++ l)
    (placed_behind (upper_after upper r) records more pairs same)
    ∙ sym (append_assoc (placed_bytes upper r) (all_placed (upper_after upper r) records) pairs)

-- the bytes of a run, each with its place
abbrev pub said_by : ByteRun → List (ℕ × ℕ)
said_by run = numbered_bytes run.place run.bytes

run_placed : (upper : ℕ) (run : ByteRun) → all_placed upper (run_records run) ≡ said_by run
run_placed upper run =
    rows_placed (length run.bytes) None run.place upper run.bytes (omega arith) tt

runs_placed : (found : List ByteRun) (upper : ℕ)
    → all_placed upper (flat_map run_records found) ≡ flat_map said_by found
runs_placed [] upper = refl
runs_placed (run ∷ found) upper =
    placed_behind upper (run_records run) (flat_map run_records found) (flat_map said_by found)
    (runs_placed found)
    ∙ ap (λ l. l ++ flat_map said_by found) (run_placed upper run)

joined_said : (place : ℕ) (bytes : List ℕ) (found : List ByteRun)
    → flat_map said_by (joined place bytes found)
    ≡ numbered_bytes place bytes ++ flat_map said_by found
joined_said place bytes [] = refl
joined_said place bytes (run ∷ found) =
    elim (cases_eq run.place (place + length bytes)) [
      | inl here ↦ rw (eq-eqb run.place (place + length bytes) here)
          (ap (λ l. l ++ flat_map said_by found)
          (numbered_parts place bytes run.bytes
          ∙ ap (λ (p : ℕ). numbered_bytes place bytes ++ numbered_bytes p run.bytes) (sym here))
          ∙ append_assoc (numbered_bytes place bytes) (said_by run) (flat_map said_by found))
      | inr there ↦ rw (ne_eqb run.place (place + length bytes) there) refl
    ]

-- the bytes of the words that are not erased, each with its place
abbrev pub held : ℕ → List (List ℕ) → List (ℕ × ℕ)
held place [] = []
held place (word ∷ words) =
    if is_erased_word word then held (place + length word) words
    else numbered_bytes place word ++ held (place + length word) words

runs_said : (place : ℕ) (words : List (List ℕ)) → flat_map said_by (runs place words) ≡ held place words
runs_said place [] = refl
runs_said place (word ∷ words) =
    elim (cases_Bool (is_erased_word word)) [
      | inl erased ↦ rw erased (runs_said (place + length word) words)
      | inr other ↦ rw other
          (joined_said place word (runs (place + length word) words)
          ∙ ap (λ l. numbered_bytes place word ++ l) (runs_said (place + length word) words))
    ]

-- ---- who says what

says_either : (pairs others : List (ℕ × ℕ)) (at byte : ℕ) → Says (pairs ++ others) at byte
    → Says pairs at byte ⊎ Says others at byte
says_either [] others at byte says = inr says
says_either (pair ∷ pairs) others at byte (inl here) = inl (inl here)
says_either (pair ∷ pairs) others at byte (inr there) =
    elim (says_either pairs others at byte there) [
      | inl one ↦ inl (inr one)
      | inr two ↦ inr two
    ]

says_left : (pairs others : List (ℕ × ℕ)) (at byte : ℕ) → Says pairs at byte
    → Says (pairs ++ others) at byte
says_left [] others at byte says = absurd says
says_left (pair ∷ pairs) others at byte (inl here) = inl here
says_left (pair ∷ pairs) others at byte (inr there) = inr (says_left pairs others at byte there)

says_right : (pairs others : List (ℕ × ℕ)) (at byte : ℕ) → Says others at byte
    → Says (pairs ++ others) at byte
says_right [] others at byte says = says
says_right (pair ∷ pairs) others at byte says = inr (says_right pairs others at byte says)

said_within : (place : ℕ) (bytes : List ℕ) (at byte : ℕ) → Says (numbered_bytes place bytes) at byte
    → at < place + length bytes
said_within place [] at byte says = absurd says
said_within place (x ∷ xs) at byte (inl here) = omega (arith, here.0)
said_within place (x ∷ xs) at byte (inr there) =
    omega (arith, said_within (place + 1) xs at byte there)

get_left : (xs ys : List ℕ) (i : ℕ) → i < length xs → get_or (xs ++ ys) i 0 ≡ get_or xs i 0
get_left [] ys i less = absurd (omega arith)
get_left (x ∷ xs) ys zero less = refl
get_left (x ∷ xs) ys (suc i) less = get_left xs ys i (omega arith)

get_right : (xs ys : List ℕ) (i j : ℕ) → i ≡ length xs + j → get_or (xs ++ ys) i 0 ≡ get_or ys j 0
get_right [] ys i j is =
    let same : i ≡ j = omega (arith, is) in ap (λ (n : ℕ). get_or ys n 0) same
get_right (x ∷ xs) ys zero j is = absurd (omega arith)
get_right (x ∷ xs) ys (suc i) j is = get_right xs ys i j (omega arith)

said_behind : (place : ℕ) (word : List ℕ) (words : List (List ℕ)) (at byte : ℕ)
    → IsSaid (place + length word) (concat words) at byte
    → IsSaid place (word ++ concat words) at byte
said_behind place word words at byte said = record {
  from = omega (arith, said.from);
  is =
      get_right word (concat words) (at - place) (at - (place + length word))
      (omega (arith, said.from)) ∙ said.is;
}

said_here : (place : ℕ) (word : List ℕ) (words : List (List ℕ)) (at byte : ℕ)
    → Says (numbered_bytes place word) at byte → IsSaid place (word ++ concat words) at byte
said_here place word words at byte says =
    let said = numbered_says place word at byte says in
    record {
      from = said.from;
      is =
          get_left word (concat words) (at - place)
          (omega (arith, said.from, said_within place word at byte says)) ∙ said.is;
    }

held_step : (place : ℕ) (word : List ℕ) (words : List (List ℕ)) (at byte : ℕ) (erased : Bool)
    → (Says (held (place + length word) words) at byte
    → IsSaid (place + length word) (concat words) at byte)
    → Says
    (if erased then held (place + length word) words
    else numbered_bytes place word ++ held (place + length word) words) at byte
    → IsSaid place (word ++ concat words) at byte
held_step place word words at byte true later says =
    said_behind place word words at byte (later says)
held_step place word words at byte false later says =
    elim (says_either (numbered_bytes place word) (held (place + length word) words) at byte says) [
      | inl here ↦ said_here place word words at byte here
      | inr there ↦ said_behind place word words at byte (later there)
    ]

-- what is said of a place is its byte
held_says : (place : ℕ) (words : List (List ℕ)) (at byte : ℕ) → Says (held place words) at byte
    → IsSaid place (concat words) at byte
held_says place [] at byte says = absurd says
held_says place (word ∷ words) at byte says =
    held_step place word words at byte (is_erased_word word)
    (held_says (place + length word) words at byte) says

-- ---- an erased word

pub erased_more : (word : List ℕ) (i byte : ℕ) → i < length word → byte ≡ get_or word i 0
    → byte ≡ 255 → is_erased_word (take i word) ≡ true → is_erased_word (take (i + 1) word) ≡ true
erased_more word i byte less byte_is is so_far =
    list_all_more (λ (b : ℕ). b == 255) word i 0 less
    ∙ rw (so_far, eq-eqb (get_or word i 0) 255 (sym byte_is ∙ is)) refl

pub not_erased : (word : List ℕ) (i byte : ℕ) → i < length word → byte ≡ get_or word i 0
    → byte ≢ 255 → is_erased_word word ≡ false
not_erased word i byte less byte_is other =
    list_all_at (λ (b : ℕ). b == 255) word i 0 less
    (ne_eqb (get_or word i 0) 255 (λ e. other (byte_is ∙ e)))

pub all_erased : (word : List ℕ) (i : ℕ) → length word ≤ i → is_erased_word (take i word) ≡ true
    → is_erased_word word ≡ true
all_erased word i all so_far = ap is_erased_word (sym (take_all i word all)) ∙ so_far

erased_at : (word : List ℕ) (i : ℕ) → is_erased_word word ≡ true → i < length word
    → get_or word i 0 ≡ 255
erased_at word i erased less =
    elim (cases_eq (get_or word i 0) 255) [
      | inl is ↦ is
      | inr other ↦ absurd (true≢false
          (sym erased
          ∙ list_all_at (λ (b : ℕ). b == 255) word i 0 less (ne_eqb (get_or word i 0) 255 other)))
    ]

at_behind : (place : ℕ) (word : List ℕ) (words : List (List ℕ)) (i byte : ℕ) (erased : Bool)
    → length word ≤ i → IsByteAt (held (place + length word) words) (place + i) byte
    → IsByteAt
    (if erased then held (place + length word) words
    else numbered_bytes place word ++ held (place + length word) words) (place + i) byte
at_behind place word words i byte true past is = is
at_behind place word words i byte false past (inl says) =
    inl
    (says_right (numbered_bytes place word) (held (place + length word) words) (place + i) byte says)
at_behind place word words i byte false past (inr none) =
    inr (
      λ other says.
          elim
          (says_either (numbered_bytes place word) (held (place + length word) words) (place + i)
          other says) [
            | inl here ↦ absurd (omega (arith, said_within place word (place + i) other here, past))
            | inr there ↦ none.0 other there
          ],
      none.1,
    )

at_here : (place : ℕ) (word : List ℕ) (words : List (List ℕ)) (i : ℕ) (erased : Bool)
    → is_erased_word word ≡ erased → i < length word
    → IsByteAt
    (if erased then held (place + length word) words
    else numbered_bytes place word ++ held (place + length word) words) (place + i)
    (get_or word i 0)
at_here place word words i true is less =
    inr (
      λ other says. absurd
          (omega (arith, (held_says (place + length word) words (place + i) other says).from, less)),
      erased_at word i is less,
    )
at_here place word words i false is less =
    inl
    (says_left (numbered_bytes place word) (held (place + length word) words) (place + i)
    (get_or word i 0) (numbered_at place word i less))

held_at : (place : ℕ) (words : List (List ℕ)) (i : ℕ) → i < length (concat words)
    → IsByteAt (held place words) (place + i) (get_or (concat words) i 0)
held_at place [] i less = absurd (omega arith)
held_at place (word ∷ words) i less =
    elim (cases_lt i (length word)) [
      | inl here ↦ subst (IsByteAt (held place (word ∷ words)) (place + i))
          (sym (get_left word (concat words) i here))
          (at_here place word words i (is_erased_word word) refl here)
      | inr past ↦ let j = i - length word in
          let moved : place + length word + j ≡ place + i = omega (arith, past) in
          let byte = get_or (concat words) j 0 in
          subst (IsByteAt (held place (word ∷ words)) (place + i))
          (sym (get_right word (concat words) i j (omega (arith, past))))
          (at_behind place word words i byte (is_erased_word word) (omega (arith, past))
          (subst (λ (p : ℕ). IsByteAt (held (place + length word) words) p byte) moved
          (held_at (place + length word) words j
          (omega (arith, past, less, length-append word (concat words))))))
    ]

held_agrees : (base size place : ℕ) (words : List (List ℕ))
    → AgreeWithin base size (held place words)
held_agrees base size place words = λ at byte other low high first second.
    sym (held_says place words at byte first).is ∙ (held_says place words at other second).is

-- ---- the records can be written

all_both : (P : Record → Type 0) (xs ys : List Record) → AllByRecursion P xs → AllByRecursion P ys
    → AllByRecursion P (xs ++ ys)
all_both P [] ys left right = right
all_both P (x ∷ xs) ys left right = (left.0, all_both P xs ys left.1 right)

bytes_both : (xs ys : List ℕ) → IsBytes xs → IsBytes ys → IsBytes (xs ++ ys)
bytes_both [] ys left right i = right i
bytes_both (x ∷ xs) ys left right zero = left 0
bytes_both (x ∷ xs) ys left right (suc i) = bytes_both xs ys (λ j. left (suc j)) right i

-- a run of bytes that ends below 2^32
pub record Fits (run : ByteRun) : Type 0 where
  pub bytes : IsBytes run.bytes
  pub ends : run.place + length run.bytes ≤ 4294967296

joined_fits : (place : ℕ) (bytes : List ℕ) (found : List ByteRun) → IsBytes bytes
    → place + length bytes ≤ 4294967296 → AllByRecursion Fits found
    → AllByRecursion Fits (joined place bytes found)
joined_fits place bytes [] all ends fit = (record { bytes = all; ends = ends }, tt)
joined_fits place bytes (run ∷ found) all ends fit =
    elim (cases_eq run.place (place + length bytes)) [
      | inl here ↦ rw (eq-eqb run.place (place + length bytes) here) (
        record {
          bytes = bytes_both bytes run.bytes all fit.0.bytes;
          ends = omega (arith, fit.0.ends, length-append bytes run.bytes, here);
        },
        fit.1,
      )
      | inr there ↦ rw (ne_eqb run.place (place + length bytes) there)
          (record { bytes = all; ends = ends }, fit)
    ]

runs_fit : (place : ℕ) (words : List (List ℕ)) → AllByRecursion IsBytes words
    → place + length (concat words) ≤ 4294967296 → AllByRecursion Fits (runs place words)
runs_fit place [] all ends = tt
runs_fit place (word ∷ words) all ends =
    let near : place + length word + length (concat words) ≤ 4294967296 =
    omega (arith, ends, length-append word (concat words)) in
    elim (cases_Bool (is_erased_word word)) [
      | inl erased ↦ rw erased (runs_fit (place + length word) words all.1 near)
      | inr other ↦ rw other
          (joined_fits place word (runs (place + length word) words) all.0 (omega (arith, near))
          (runs_fit (place + length word) words all.1 near))
    ]

runs_inside : (found : List ByteRun) → AllByRecursion Fits found
    → AllByRecursion IsInside (flat_map run_records found)
runs_inside [] fit = tt
runs_inside (run ∷ found) fit =
    all_both IsInside (run_records run) (flat_map run_records found)
    (rows_inside (length run.bytes) None run.place run.bytes fit.0.bytes fit.0.ends)
    (runs_inside found fit.1)

-- ---- the text

pub sparse_texts_read_back_lem : (size base : ℕ) (bytes : List ℕ) → 0 < size → IsBytes bytes
    → base + length bytes ≤ 4294967296
    → IsHexOf (sparse_text size base bytes) base (length bytes) bytes
unfolding sparse_text
sparse_texts_read_back_lem size base bytes some all fits =
    let words = words_in (length bytes) size bytes in
    let whole : concat words ≡ bytes = words_join (length bytes) size bytes some (omega arith) in
    let records = flat_map run_records (runs base words) in
    let inside : AllByRecursion IsInside records =
    runs_inside (runs base words)
    (runs_fit base words (words_are_bytes (length bytes) size bytes all)
    (subst (λ (l : List ℕ). base + length l ≤ 4294967296) (sym whole) fits)) in
    let said : all_placed 0 records ≡ held base words =
    runs_placed (runs base words) 0 ∙ runs_said base words in
    let closing = flat_map record_line (end_record ∷ []) in
    let text_is : flat_map record_line (records ++ end_record ∷ [])
    ≡ flat_map record_line records ++ closing =
    flat_map-append record_line records (end_record ∷ []) in
    record {
      records = records;
      closing = closing;
      front = record {
        lines =
            subst (λ t. AreLinesOf records t closing) (sym text_is)
            (lines_again records closing (all_written records inside));
        no_end = all_no_end records inside;
        agree =
            subst (AgreeWithin base (length bytes)) (sym said)
            (held_agrees base (length bytes) base words);
      };
      closes =
          record { last = end_record; line = line_again end_record [] end_is_written; ends = refl };
      as_long = refl;
      bytes_are =
          λ i less.
          subst (λ (pairs : List (ℕ × ℕ)). IsByteAt pairs (base + i) (get_or bytes i 0)) (sym said)
          (subst (λ (l : List ℕ). IsByteAt (held base words) (base + i) (get_or l i 0)) whole
          (held_at base words i
          (subst (λ (l : List ℕ). i < length l) (sym whole) less)));
    }

-- ---- how the text grows

-- the rows of a run and of the words behind it, that are still to come
abbrev pub sparse_left : ℕ → ℕ → List ℕ → List ℕ → List ℕ
sparse_left size place run behind =
    flat_map record_line
    (flat_map run_records
    (joined place run (runs (place + length run) (words_in (length behind) size behind)))
    ++ end_record ∷ [])

plus_none : (n : ℕ) → n ≡ n + 0
plus_none n = omega arith

-- an empty run has no rows
empty_run : (place : ℕ) (found : List ByteRun)
    → flat_map run_records (joined place [] found) ≡ flat_map run_records found
empty_run place [] = refl
empty_run place (run ∷ found) =
    elim (cases_eq run.place (place + 0)) [
      | inl here ↦ rw (eq-eqb run.place (place + 0) here)
          (ap (λ (p : ℕ). run_records (record { place = p; bytes = run.bytes })
          ++ flat_map run_records found) (plus_none place ∙ sym here))
      | inr there ↦ rw (ne_eqb run.place (place + 0) there) refl
    ]

-- the first run begins there or later
abbrev IsFrom : ℕ → List ByteRun → Type 0
IsFrom place [] = Unit {0}
IsFrom place (run ∷ found) = place ≤ run.place

from_later : (place other : ℕ) (found : List ByteRun) → place ≤ other → IsFrom other found
    → IsFrom place found
from_later place other [] less from = tt
from_later place other (run ∷ found) less from = omega (arith, less, from)

joined_from : (place : ℕ) (bytes : List ℕ) (found : List ByteRun) → IsFrom place (joined place bytes found)
joined_from place bytes [] = omega arith
joined_from place bytes (run ∷ found) =
    elim (cases_eq run.place (place + length bytes)) [
      | inl here ↦ rw (eq-eqb run.place (place + length bytes) here) (omega arith)
      | inr there ↦ rw (ne_eqb run.place (place + length bytes) there) (omega arith)
    ]

runs_from : (place : ℕ) (words : List (List ℕ)) → IsFrom place (runs place words)
runs_from place [] = tt
runs_from place (word ∷ words) =
    elim (cases_Bool (is_erased_word word)) [
      | inl erased ↦ rw erased
          (from_later place (place + length word) (runs (place + length word) words) (omega arith)
          (runs_from (place + length word) words))
      | inr other ↦ rw other (joined_from place word (runs (place + length word) words))
    ]

-- a run ends at an erased word
far_joined : (place other : ℕ) (bytes : List ℕ) (found : List ByteRun) → place + length bytes < other
    → IsFrom other found → joined place bytes found ≡ record { place = place; bytes = bytes } ∷ found
far_joined place other bytes [] less from = refl
far_joined place other bytes (run ∷ found) less from =
    rw (ne_eqb run.place (place + length bytes) (λ e. omega (arith, e, less, from))) refl

-- and goes on with another
joined_twice : (place : ℕ) (bytes word : List ℕ) (found : List ByteRun)
    → joined place bytes (joined (place + length bytes) word found)
    ≡ joined place (bytes ++ word) found
joined_twice place bytes word [] =
    rw (eq-eqb (place + length bytes) (place + length bytes) refl) refl
joined_twice place bytes word (run ∷ found) =
    let same : place + length bytes + length word ≡ place + length (bytes ++ word) =
    omega (arith, length-append bytes word) in
    elim (cases_eq run.place (place + length bytes + length word)) [
      | inl here ↦ rw (
        eq-eqb run.place (place + length bytes + length word) here,
        eq-eqb run.place (place + length (bytes ++ word)) (here ∙ same),
        eq-eqb (place + length bytes) (place + length bytes) refl,
      ) (ap (λ (l : List ℕ). record { place = place; bytes = l } ∷ found)
          (sym (append_assoc bytes word run.bytes)))
      | inr there ↦ rw (
        ne_eqb run.place (place + length bytes + length word) there,
        ne_eqb run.place (place + length (bytes ++ word)) (λ e. there (e ∙ sym same)),
        eq-eqb (place + length bytes) (place + length bytes) refl,
      ) refl
    ]

words_enough : (most other size : ℕ) (bytes : List ℕ) → 0 < size → length bytes ≤ most
    → length bytes ≤ other → words_in most size bytes ≡ words_in other size bytes
words_enough zero zero size bytes some few less = refl
words_enough zero (suc other) size [] some few less = refl
words_enough zero (suc other) size (byte ∷ bytes) some few less = absurd (omega arith)
words_enough (suc most) zero size [] some few less = refl
words_enough (suc most) zero size (byte ∷ bytes) some few less = absurd (omega arith)
words_enough (suc most) (suc other) size [] some few less = refl
words_enough (suc most) (suc other) size (byte ∷ bytes) some few less =
    let dropped : length (drop size (byte ∷ bytes)) ≡ length (byte ∷ bytes) - size =
    length-drop size (byte ∷ bytes) in
    ap (λ l. take size (byte ∷ bytes) ∷ l)
    (words_enough most other size (drop size (byte ∷ bytes)) some (omega arith) (omega arith))

take_least : (size count : ℕ) (xs : List ℕ) → count ≡ min size (length xs)
    → take size xs ≡ take count xs
take_least size count xs count_is =
    elim (cases_lt (length xs) size) [
      | inl less ↦ take_all size xs (omega (arith, less))
          ∙ sym (take_all count xs (omega (arith, less, count_is)))
      | inr most ↦ let same : size ≡ count = omega (arith, most, count_is) in
          ap (λ (n : ℕ). take n xs) same
    ]

drop_least : (size count : ℕ) (xs : List ℕ) → count ≡ min size (length xs)
    → drop size xs ≡ drop count xs
drop_least size count xs count_is =
    elim (cases_lt (length xs) size) [
      | inl less ↦
          nil_from_length (drop size xs) (omega (arith, length-drop size xs, less))
          ∙ sym
          (nil_from_length (drop count xs) (omega (arith, length-drop count xs, less, count_is)))
      | inr most ↦ let same : size ≡ count = omega (arith, most, count_is) in
          ap (λ (n : ℕ). drop n xs) same
    ]

-- the words of bytes, the first of which is met
pub record IsMet (size : ℕ) (behind word others : List ℕ) : Type 0 where
  pub some : 0 < length word
  pub parts : words_in (length behind) size behind ≡ word ∷ words_in (length others) size others

word_met : (size count : ℕ) (behind word others : List ℕ) → 0 < size → 0 < length behind
    → count ≡ min size (length behind) → word ≡ take count behind → others ≡ drop count behind
    → IsMet size behind word others
word_met size count [] word others some more count_is word_is others_is = absurd (omega arith)
word_met size count (byte ∷ bytes) word others some more count_is word_is others_is =
    let bytes_left : length others ≤ length bytes =
    omega (
      arith,
      ap length others_is,
      length-drop count (byte ∷ bytes),
      count_is,
      some,
    ) in
    record {
      some =
          omega (arith, ap length word_is, length-take count (byte ∷ bytes), count_is, some);
      parts =
          ap (λ (l : List ℕ). l ∷ words_in (length bytes) size (drop size (byte ∷ bytes)))
          (take_least size count (byte ∷ bytes) count_is ∙ sym word_is)
          ∙ ap (λ (l : List ℕ). word ∷ words_in (length bytes) size l)
          (drop_least size count (byte ∷ bytes) count_is ∙ sym others_is)
          ∙ ap (λ (l : List (List ℕ)). word ∷ l)
          (words_enough (length bytes) (length others) size others some bytes_left (omega arith));
    }

drop_both : (n m : ℕ) (xs : List ℕ) → drop (n + m) xs ≡ drop m (drop n xs)
drop_both zero m xs = let same : 0 + m ≡ m = omega arith in ap (λ (k : ℕ). drop k xs) same
drop_both (suc n) m [] = drop-nil (suc n + m) ∙ sym (drop-nil m)
drop_both (suc n) m (x ∷ xs) =
    let same : suc n + m ≡ suc (n + m) = omega arith in
    ap (λ (k : ℕ). drop k (x ∷ xs)) same ∙ drop_both n m xs

-- the lines of records and of the end
abbrev lines_to_end : List Record → List ℕ
lines_to_end records = flat_map record_line (records ++ end_record ∷ [])

lines_behind : (xs ys : List Record)
    → lines_to_end (xs ++ ys) ≡ flat_map record_line xs ++ lines_to_end ys
lines_behind xs ys =
    ap (flat_map record_line) (append_assoc xs ys (end_record ∷ []))
    ∙ flat_map-append record_line xs (ys ++ end_record ∷ [])

left_after : (size place : ℕ) (others : List ℕ)
    → sparse_left size place [] others
    ≡ lines_to_end (flat_map run_records (runs place (words_in (length others) size others)))
left_after size place others =
    ap lines_to_end
    (empty_run place (runs (place + 0) (words_in (length others) size others))
    ∙ ap (λ (p : ℕ). flat_map run_records (runs p (words_in (length others) size others)))
    (sym (plus_none place)))

erased_left : (size place : ℕ) (run behind word others : List ℕ) → IsMet size behind word others
    → is_erased_word word ≡ true
    → sparse_left size place run behind
    ≡ flat_map record_line (rows (length run) None place run)
    ++ sparse_left size (place + length run + length word) [] others
erased_left size place run behind word others met erased =
    let after : ℕ = place + length run + length word in
    let words = words_in (length others) size others in
    let passed : runs (place + length run) (words_in (length behind) size behind)
    ≡ runs after words =
    ap (runs (place + length run)) met.parts ∙ rw erased refl in
    let apart : joined place run (runs after words)
    ≡ record { place = place; bytes = run } ∷ runs after words =
    far_joined place after run (runs after words) (omega (arith, met.some)) (runs_from after words)
    in
    ap (λ (l : List ByteRun). lines_to_end (flat_map run_records l))
    (ap (joined place run) passed ∙ apart)
    ∙ lines_behind (rows (length run) None place run) (flat_map run_records (runs after words))
    ∙ ap (λ (l : List ℕ). flat_map record_line (rows (length run) None place run) ++ l)
    (sym (left_after size after others))

held_left : (size place : ℕ) (run behind word others : List ℕ) → IsMet size behind word others
    → is_erased_word word ≡ false
    → sparse_left size place run behind ≡ sparse_left size place (run ++ word) others
held_left size place run behind word others met other =
    let after : ℕ = place + length run + length word in
    let words = words_in (length others) size others in
    let found : runs (place + length run) (words_in (length behind) size behind)
    ≡ joined (place + length run) word (runs after words) =
    ap (runs (place + length run)) met.parts ∙ rw other refl in
    let same : after ≡ place + length (run ++ word) = omega (arith, length-append run word) in
    ap (λ (l : List ByteRun). lines_to_end (flat_map run_records l))
    (ap (joined place run) found ∙ joined_twice place run word (runs after words)
    ∙ ap (λ (p : ℕ). joined place (run ++ word) (runs p words)) same)

-- ---- the steps of the writer

module _ (size place met count : ℕ) (rest run behind word others : List ℕ) (some : 0 < size)
    (less : met < length rest) (run_is : run ≡ take met rest) (behind_is : behind ≡ drop met rest)
    (count_is : count ≡ min size (length behind)) (word_is : word ≡ take count behind)
    (others_is : others ≡ drop count behind) where
  is_met : IsMet size behind word others
  is_met =
      word_met size count behind word others some
      (omega (arith, ap length behind_is, length-drop met rest, less)) count_is word_is others_is

  run_length : length run ≡ met
  run_length = ap length run_is ∙ length-take-le met rest (omega (arith, less))

  -- at an erased word the run is written
  pub sparse_erased : (out new total : List ℕ) → is_erased_word word ≡ true
      → out ++ sparse_left size place (take met rest) (drop met rest) ≡ total
      → new ≡ out ++ flat_map record_line (rows (length run) None place run)
      → new ++ sparse_left size (place + (met + length word)) [] others ≡ total
  sparse_erased out new total erased so_far new_is =
      let here : place + (met + length word) ≡ place + length run + length word =
      omega (arith, run_length) in
      let written = flat_map record_line (rows (length run) None place run) in
      let left = sparse_left size (place + length run + length word) [] others in
      ap (λ (l : List ℕ). l ++ sparse_left size (place + (met + length word)) [] others) new_is
      ∙ ap (λ (p : ℕ). (out ++ written) ++ sparse_left size p [] others) here
      ∙ append_assoc out written left
      ∙ ap (λ (l : List ℕ). out ++ l)
      (sym (erased_left size place run behind word others is_met erased))
      ∙ ap (λ (l : List ℕ). out ++ sparse_left size place l behind) run_is
      ∙ ap (λ (l : List ℕ). out ++ sparse_left size place (take met rest) l) behind_is
      ∙ so_far

  -- another word is of the run
  pub sparse_held : (out total : List ℕ) → is_erased_word word ≡ false
      → out ++ sparse_left size place (take met rest) (drop met rest) ≡ total
      → out
      ++ sparse_left size place (take (met + length word) rest) (drop (met + length word) rest)
      ≡ total
  sparse_held out total other so_far =
      let long : length word ≡ count =
      ap length word_is ∙ length-take-le count behind (omega (arith, count_is)) in
      let longer : take (met + length word) rest ≡ run ++ word =
      ap (λ (n : ℕ). take (met + n) rest) long ∙ take-add met count rest
      ∙ ap (λ (l : List ℕ). l ++ take count (drop met rest)) (sym run_is)
      ∙ ap (λ (l : List ℕ). run ++ take count l) (sym behind_is)
      ∙ ap (λ (l : List ℕ). run ++ l) (sym word_is) in
      let shorter : drop (met + length word) rest ≡ others =
      ap (λ (n : ℕ). drop (met + n) rest) long ∙ drop_both met count rest
      ∙ ap (drop count) (sym behind_is) ∙ sym others_is in
      ap (λ (l : List ℕ). out ++ sparse_left size place l (drop (met + length word) rest)) longer
      ∙ ap (λ (l : List ℕ). out ++ sparse_left size place (run ++ word) l) shorter
      ∙ ap (λ (l : List ℕ). out ++ l)
      (sym (held_left size place run behind word others is_met other))
      ∙ ap (λ (l : List ℕ). out ++ sparse_left size place l behind) run_is
      ∙ ap (λ (l : List ℕ). out ++ sparse_left size place (take met rest) l) behind_is
      ∙ so_far

-- behind the last word the run is written, and the end
pub sparse_written : (size base place met : ℕ) (rest bytes out rows_out new : List ℕ)
    → length rest ≤ met
    → out ++ sparse_left size place (take met rest) (drop met rest)
    ≡ sparse_left size base [] bytes
    → rows_out ≡ out ++ flat_map record_line (rows (length rest) None place rest)
    → new ≡ rows_out ++ record_line end_record → new ≡ sparse_text size base bytes
unfolding sparse_text
sparse_written size base place met rest bytes out rows_out new all so_far rows_are new_is =
    let records = rows (length rest) None place rest in
    let last : sparse_left size place (take met rest) (drop met rest)
    ≡ lines_to_end (records ++ []) =
    ap (λ (l : List ℕ). sparse_left size place l (drop met rest)) (take_all met rest all)
    ∙ ap (λ (l : List ℕ). sparse_left size place rest l)
    (nil_from_length (drop met rest) (omega (arith, length-drop met rest, all))) in
    new_is
    ∙ ap (λ (l : List ℕ). l ++ record_line end_record) rows_are
    ∙ append_assoc out (flat_map record_line records) (record_line end_record)
    ∙ ap (λ (l : List ℕ). out ++ (flat_map record_line records ++ l))
    (sym (append-nil (record_line end_record)))
    ∙ ap (λ (l : List ℕ). out ++ l) (sym (lines_behind records []))
    ∙ ap (λ (l : List ℕ). out ++ l) (sym last)
    ∙ so_far
    ∙ left_after size base bytes
