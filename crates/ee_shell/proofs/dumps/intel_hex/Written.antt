-- A text that is written reads back.
use Rattle.std.proofs.Common.{◌≡◌, ◌≢◌, ℕ, zero, suc, ◌+◌, ◌-◌, ◌*◌, ◌/◌, ◌%◌, ◌<◌, ◌≤◌, List, [], ◌∷◌, ◌++◌, length, get_or, set, take, drop, refl, sym, ap, ◌∙◌, subst, arith, inl, inr, Option, Some, None, rules}
use Rattle.std.proofs.lemmas.Grind.{common_steps}
use Rattle.std.specs.Prelude.{IfSome}
use Rattle.std.specs.List.{AllByRecursion, flat_map, sum}
use Rattle.std.proofs.lemmas.Bool.{ne_eqb, eq-eqb, cases_eq, cases_lt, le-leb}
use Rattle.std.proofs.lemmas.List.{append-nil, nil_from_length, take_more, take_more_set, length-take, length-take-le, length-drop, take-append-drop, get_or-take, get_or-drop, get_or_past}
use Rattle.std.proofs.lemmas.List.Concat.{flat_map-append}
use Rattle.std.proofs.lemmas.List.Sums.{sum_by-append}
use Rattle.hex.specs.Hex.{IsBytes, encode_upper, encode_with, upper_digits}
use Rattle.hex.proofs.HexLemmas.{decode_of-encode_upper}
use Rattle.hex.proofs.Pairs.{take-two_writes}
use Rattle.ee_text.specs.Field.{Lacks}
use Rattle.ee_text.proofs.Public.{Lacks-parts, Lacks-cons, lacks_at}
use Rattle.ee_shell.specs.Dumps.intel_hex.Record.{Record, AreLinesOf, IsLineOf, IsRecord, SpellsRecord, line_without_return, check_byte, front_bytes, record_bytes}
use Rattle.ee_shell.specs.Dumps.intel_hex.Text.{AgreeWithin, IsHexOf, Says, all_placed, numbered_bytes, upper_after}
use Rattle.ee_shell.specs.Dumps.intel_hex.Written.{data_record, end_record, hex_text, record_line, row_length, rows, upper_record, upper_told}
use Rattle.ee_shell.proofs.dumps.intel_hex.Records.{check_small}

plus_zero : (n : ℕ) → n ≡ n + 0
plus_zero n = omega arith

plus_suc : (n count : ℕ) → n + 1 + count ≡ n + suc count
plus_suc n count = omega arith

-- ---- one record

bytes_cons : (b : ℕ) (xs : List ℕ) → b < 256 → IsBytes xs → IsBytes (b ∷ xs)
bytes_cons b xs small all zero = small
bytes_cons b xs small all (suc i) = all i

bytes_last : (xs : List ℕ) (b : ℕ) → IsBytes xs → b < 256 → IsBytes (xs ++ b ∷ [])
bytes_last [] b all small = bytes_cons b [] small all
bytes_last (x ∷ xs) b all small =
    bytes_cons x (xs ++ b ∷ []) (all 0) (bytes_last xs b (λ i. all (suc i)) small)

-- a record that can be written
pub record IsWritten (r : Record) : Type 0 where
  pub proper : IsRecord r
  pub kind_fits : r.kind < 256

record_is_bytes : (r : Record) → IsWritten r → IsBytes (record_bytes r)
unfolding record_bytes
record_is_bytes r fits =
    let high : r.address / 256 < 256 = omega (arith, fits.proper.address_fits) in
    let low : r.address % 256 < 256 = omega arith in
    bytes_last (front_bytes r) (check_byte (sum (front_bytes r)))
    (bytes_cons (length r.bytes) ((r.address / 256) ∷ (r.address % 256) ∷ r.kind ∷ r.bytes)
    fits.proper.few
    (bytes_cons (r.address / 256) ((r.address % 256) ∷ r.kind ∷ r.bytes) high
    (bytes_cons (r.address % 256) (r.kind ∷ r.bytes) low
    (bytes_cons r.kind r.bytes fits.kind_fits fits.proper.bytes))))
    (check_small (sum (front_bytes r)))

lacks_in_digits : (c : ℕ) (t xs : List ℕ) → Lacks c t → 0 ≢ c → Lacks c (encode_with t xs)
unfolding encode_with
lacks_in_digits c t [] lacks other = refl
lacks_in_digits c t (b ∷ rest) lacks other =
    search (rules, lacks_at, (lacks_in_digits c t rest lacks other))

line_lacks : (c : ℕ) (xs : List ℕ) → Lacks c upper_digits → 0 ≢ c → 58 ≢ c
    → Lacks c (58 ∷ encode_upper xs)
line_lacks c xs lacks other colon =
    Lacks-cons c 58 (encode_upper xs) colon (lacks_in_digits c upper_digits xs lacks other)

pub bare-lacks : (line : List ℕ) → Lacks 13 line → line_without_return line ≡ line
unfolding line_without_return
bare-lacks [] lacks = refl
bare-lacks (b ∷ []) lacks = rw (ne_eqb b 13 (Lacks-parts 13 b [] lacks).0) refl
bare-lacks (b ∷ c ∷ line) lacks =
    ap (λ l. b ∷ l) (bare-lacks (c ∷ line) (Lacks-parts 13 b (c ∷ line) lacks).1)

-- its line spells it
pub line_again : (r : Record) (more : List ℕ) → IsWritten r → IsLineOf r (record_line r ++ more) more
line_again r more fits =
    let line : List ℕ = 58 ∷ encode_upper (record_bytes r) in
    let same : line_without_return line ≡ line =
    bare-lacks line
    (line_lacks 13 (record_bytes r) refl (λ e. omega arith) (λ e. omega arith)) in
    let spelled : SpellsRecord line r = record {
      proper = fits.proper;
      digits = encode_upper (record_bytes r);
      line_is = refl;
      digits_are = decode_of-encode_upper (record_bytes r) (record_is_bytes r fits);
    } in
    record {
      line = line;
      in_line = line_lacks 10 (record_bytes r) refl (λ e. omega arith) (λ e. omega arith);
      text_is = refl;
      spelled = subst (λ l. SpellsRecord l r) (sym same) spelled;
    }

pub lines_again : (records : List Record) (more : List ℕ) → AllByRecursion IsWritten records
    → AreLinesOf records (flat_map record_line records ++ more) more
lines_again [] more fit = refl
lines_again (r ∷ records) more fit =
    grind (arith, common_steps, line_again, (lines_again records more fit.1))

-- ---- all records

row_some : (place count : ℕ) → 0 < row_length place (suc count)
row_some place count = omega arith

pub row_fits : (place count : ℕ) → row_length place count ≤ count
row_fits place count = omega arith

pub row_short : (place count : ℕ) → row_length place count ≤ 16
row_short place count = omega arith

row_below : (place count : ℕ) → place % 65536 + row_length place count ≤ 65536
row_below place count = omega arith

pub is_bytes_take : (n : ℕ) (xs : List ℕ) → IsBytes xs → IsBytes (take n xs)
is_bytes_take n xs all = search (rules, cases_lt, get_or-take, get_or_past, length-take)

pub is_bytes_drop : (n : ℕ) (xs : List ℕ) → IsBytes xs → IsBytes (drop n xs)
is_bytes_drop n xs all = λ i. subst (λ b. b < 256) (sym (get_or-drop n xs i 0)) (all (n + i))

-- what holds of the records that are written but the last
pub record IsInside (r : Record) : Type 0 where
  pub written : IsWritten r
  pub no_end : r.kind ≢ 1

upper_inside : (half : ℕ) → half < 65536 → IsInside (upper_record half)
upper_inside half fits = search (rules, bytes_cons)

data_inside : (place : ℕ) (bytes : List ℕ) → IsBytes bytes → length bytes ≤ 16
    → place % 65536 + length bytes ≤ 65536 → IsInside (data_record place bytes)
data_inside place bytes all short below =
    record {
      written = record {
        proper = record {
          address_fits = omega arith;
          few = omega arith;
          bytes = all;
          fits = le-leb (place % 65536 + length bytes) 65536 below;
        };
        kind_fits = omega arith;
      };
      no_end = λ e. omega arith;
    }

told_inside : (told : Option ℕ) (half : ℕ) (records : List Record) → half < 65536
    → AllByRecursion IsInside records → AllByRecursion IsInside (upper_told told half ++ records)
told_inside None half records fits all = (upper_inside half fits, all)
told_inside (Some last) half records fits all =
    search (rules, cases_eq, eq-eqb, ne_eqb, upper_inside)

pub rows_inside : (most : ℕ) (told : Option ℕ) (place : ℕ) (bytes : List ℕ) → IsBytes bytes
    → place + length bytes ≤ 4294967296 → AllByRecursion IsInside (rows most told place bytes)
rows_inside zero told place bytes all fits = tt
rows_inside (suc most) told place [] all fits = tt
rows_inside (suc most) told place (byte ∷ bytes) all fits =
    let row = row_length place (length (byte ∷ bytes)) in
    let within : row ≤ length (byte ∷ bytes) = row_fits place (length (byte ∷ bytes)) in
    let taken : length (take row (byte ∷ bytes)) ≡ row = length-take-le row (byte ∷ bytes) within in
    let dropped : length (drop row (byte ∷ bytes)) ≡ length (byte ∷ bytes) - row =
    length-drop row (byte ∷ bytes) in
    told_inside told (place / 65536)
    (data_record place (take row (byte ∷ bytes))
    ∷ rows most (Some (place / 65536)) (place + row) (drop row (byte ∷ bytes)))
    (omega arith) (
      data_inside place (take row (byte ∷ bytes)) (is_bytes_take row (byte ∷ bytes) all)
          (omega (arith, row_short place (length (byte ∷ bytes))))
          (omega (arith, row_below place (length (byte ∷ bytes)))),
      rows_inside most (Some (place / 65536)) (place + row) (drop row (byte ∷ bytes))
          (is_bytes_drop row (byte ∷ bytes) all) (omega arith),
    )

pub all_written : (records : List Record) → AllByRecursion IsInside records
    → AllByRecursion IsWritten records
all_written [] all = tt
all_written (r ∷ records) all = (all.0.written, all_written records all.1)

pub all_no_end : (records : List Record) → AllByRecursion IsInside records
    → AllByRecursion (λ r. r.kind ≢ 1) records
all_no_end [] all = tt
all_no_end (r ∷ records) all = (all.0.no_end, all_no_end records all.1)

-- ---- what they say

pub numbered_parts : (place : ℕ) (xs ys : List ℕ)
    → numbered_bytes place (xs ++ ys)
    ≡ numbered_bytes place xs ++ numbered_bytes (place + length xs) ys
numbered_parts place [] ys = ap (λ p. numbered_bytes p ys) (plus_zero place)
numbered_parts place (x ∷ xs) ys =
    ap (λ l. (place, x) ∷ l)
    (numbered_parts (place + 1) xs ys
    ∙ ap (λ p. numbered_bytes (place + 1) xs ++ numbered_bytes p ys)
    (plus_suc place (length xs)))

upper_behind_upper : (upper half : ℕ) → upper_after upper (upper_record half) ≡ half * 65536
upper_behind_upper upper half =
    let same : half / 256 * 256 + half % 256 ≡ half = omega arith in ap (λ h. h * 65536) same

told_placed : (told : Option ℕ) (half upper : ℕ) (records : List Record)
    → IfSome told (λ last. upper ≡ last * 65536)
    → all_placed upper (upper_told told half ++ records) ≡ all_placed (half * 65536) records
told_placed None half upper records is =
    ap (λ u. all_placed u records) (upper_behind_upper upper half)
told_placed (Some last) half upper records is =
    search (rules, cases_eq, eq-eqb, ne_eqb, upper_behind_upper)

pub rows_placed : (most : ℕ) (told : Option ℕ) (place upper : ℕ) (bytes : List ℕ) → length bytes ≤ most
    → IfSome told (λ last. upper ≡ last * 65536)
    → all_placed upper (rows most told place bytes) ≡ numbered_bytes place bytes
rows_placed zero told place upper [] few is = refl
rows_placed zero told place upper (byte ∷ bytes) few is = absurd (omega arith)
rows_placed (suc most) told place upper [] few is = refl
rows_placed (suc most) told place upper (byte ∷ bytes) few is =
    let half = place / 65536 in
    let row = row_length place (length (byte ∷ bytes)) in
    let front = take row (byte ∷ bytes) in
    let behind = drop row (byte ∷ bytes) in
    let within : row ≤ length (byte ∷ bytes) = row_fits place (length (byte ∷ bytes)) in
    let taken : length front ≡ row = length-take-le row (byte ∷ bytes) within in
    let dropped : length behind ≤ most =
    omega (arith, length-drop row (byte ∷ bytes), row_some place (length bytes)) in
    let here : half * 65536 + place % 65536 ≡ place = omega arith in
    told_placed told half upper
    (data_record place front ∷ rows most (Some half) (place + row) behind) is
    ∙ ap
    (λ p. numbered_bytes p front
    ++ all_placed (half * 65536) (rows most (Some half) (place + row) behind)) here
    ∙ ap (λ l. numbered_bytes place front ++ l)
    (rows_placed most (Some half) (place + row) (half * 65536) behind dropped refl)
    ∙ ap (λ n. numbered_bytes place front ++ numbered_bytes (place + n) behind) (sym taken)
    ∙ sym (numbered_parts place front behind)
    ∙ ap (numbered_bytes place) (take-append-drop row (byte ∷ bytes))

-- what is said of a place is its byte
pub record IsSaid (place : ℕ) (bytes : List ℕ) (at byte : ℕ) : Type 0 where
  pub from : place ≤ at
  pub is : get_or bytes (at - place) 0 ≡ byte

pub numbered_says : (place : ℕ) (bytes : List ℕ) (at byte : ℕ)
    → Says (numbered_bytes place bytes) at byte → IsSaid place bytes at byte
numbered_says place [] at byte says = absurd says
numbered_says place (x ∷ xs) at byte (inl here) = search rules
numbered_says place (x ∷ xs) at byte (inr there) =
    search (rules, (numbered_says (place + 1) xs at byte there))

pub numbered_at : (place : ℕ) (bytes : List ℕ) (i : ℕ) → i < length bytes
    → Says (numbered_bytes place bytes) (place + i) (get_or bytes i 0)
numbered_at place [] i less = absurd (omega arith)
numbered_at place (x ∷ xs) zero less = inl (plus_zero place, refl)
numbered_at place (x ∷ xs) (suc i) less =
    search (rules, (numbered_at (place + 1) xs i (omega arith)))

numbered_agrees : (base size place : ℕ) (bytes : List ℕ)
    → AgreeWithin base size (numbered_bytes place bytes)
numbered_agrees base size place bytes = λ at byte other low high first second.
    sym (numbered_says place bytes at byte first).is
    ∙ (numbered_says place bytes at other second).is

-- ---- the text

pub end_is_written : IsWritten end_record
end_is_written = search rules

pub texts_read_back_lem : (base : ℕ) (bytes : List ℕ) → IsBytes bytes
    → base + length bytes ≤ 4294967296 → IsHexOf (hex_text base bytes) base (length bytes) bytes
unfolding hex_text
texts_read_back_lem base bytes all fits =
    let records = rows (length bytes) None base bytes in
    let inside = rows_inside (length bytes) None base bytes all fits in
    let said : all_placed 0 records ≡ numbered_bytes base bytes =
    rows_placed (length bytes) None base 0 bytes (omega arith) tt in
    let closing = flat_map record_line (end_record ∷ []) in
    let text_is : flat_map record_line (records ++ end_record ∷ [])
    ≡ flat_map record_line records ++ closing =
    flat_map-append record_line records (end_record ∷ []) in
    record {
      records = records;
      closing = closing;
      front = record {
        lines =
            subst (λ t. AreLinesOf records t closing) (sym text_is)
            (lines_again records closing (all_written records inside));
        no_end = all_no_end records inside;
        agree =
            subst (AgreeWithin base (length bytes)) (sym said)
            (numbered_agrees base (length bytes) base bytes);
      };
      closes =
          record { last = end_record; line = line_again end_record [] end_is_written; ends = refl };
      as_long = refl;
      bytes_are =
          λ i less. inl
          (subst (λ p. Says p (base + i) (get_or bytes i 0)) (sym said)
          (numbered_at base bytes i less));
    }

-- ---- how the text grows

-- a bound on the rows that is large enough is as good as another
pub rows_enough : (most other : ℕ) (told : Option ℕ) (place : ℕ) (bytes : List ℕ)
    → length bytes ≤ most → length bytes ≤ other
    → rows most told place bytes ≡ rows other told place bytes
rows_enough zero zero told place bytes few less = refl
rows_enough zero (suc other) told place [] few less = refl
rows_enough zero (suc other) told place (byte ∷ bytes) few less = absurd (omega arith)
rows_enough (suc most) zero told place [] few less = refl
rows_enough (suc most) zero told place (byte ∷ bytes) few less = absurd (omega arith)
rows_enough (suc most) (suc other) told place [] few less = refl
rows_enough (suc most) (suc other) told place (byte ∷ bytes) few less =
    let row = row_length place (length (byte ∷ bytes)) in
    let behind = drop row (byte ∷ bytes) in
    let some = row_some place (length bytes) in
    let dropped : length behind ≡ length (byte ∷ bytes) - row = length-drop row (byte ∷ bytes) in
    ap (λ l. upper_told told (place / 65536) ++ data_record place (take row (byte ∷ bytes)) ∷ l)
    (rows_enough most other (Some (place / 65536)) (place + row) behind (omega arith) (omega arith))

-- the rows that are still to come
abbrev pub text_left : Option ℕ → ℕ → List ℕ → List ℕ
text_left told place bytes = flat_map record_line (rows (length bytes) told place bytes)

flat_more : (xs : List Record) (y : Record) (ys : List Record)
    → flat_map record_line (xs ++ y ∷ ys)
    ≡ (flat_map record_line xs ++ record_line y) ++ flat_map record_line ys
flat_more xs y ys = grind (arith, common_steps, flat_map-append)

-- one row more
pub one_row_more : (out told_out new total bytes row behind : List ℕ) (told : Option ℕ)
    (place half address count : ℕ)
    → 0 < length bytes → out ++ text_left told place bytes ≡ total → half ≡ place / 65536
    → address ≡ place % 65536 → count ≡ row_length place (length bytes) → row ≡ take count bytes
    → behind ≡ drop count bytes → told_out ≡ out ++ flat_map record_line (upper_told told half)
    → new ≡ told_out ++ record_line (record { address = address; kind = 0; bytes = row })
    → new ++ text_left (Some half) (place + length row) behind ≡ total
one_row_more out told_out new total [] row behind told place half address count some so_far half_is
    address_is count_is row_is behind_is told_is new_is =
    absurd (omega arith)
one_row_more out told_out new total (byte ∷ bytes) row behind told place half address count some
    so_far half_is address_is count_is row_is behind_is told_is new_is =
    grind (
      arith,
      common_steps,
      flat_more,
      length-drop,
      length-take-le,
      row_fits,
      row_some,
      rows_enough,
    )

-- the rows are written
pub all_written_so : (out bytes total : List ℕ) (told : Option ℕ) (place : ℕ)
    → out ++ text_left told place bytes ≡ total → length bytes ≡ 0 → out ≡ total
all_written_so out bytes total told place so_far none =
    search (rules, append-nil, nil_from_length)

-- the text is written
pub text_written : (base : ℕ) (bytes out new : List ℕ) → out ≡ text_left None base bytes
    → new ≡ out ++ record_line end_record → new ≡ hex_text base bytes
unfolding hex_text
text_written base bytes out new rows_are new_is =
    new_is ∙ ap (λ l. l ++ record_line end_record) rows_are
    ∙ ap (λ l. text_left None base bytes ++ l) (sym (append-nil (record_line end_record)))
    ∙ sym (flat_map-append record_line (rows (length bytes) None base bytes) (end_record ∷ []))

-- ---- how a record's line grows

encode_with-append : (t xs ys : List ℕ)
    → encode_with t (xs ++ ys) ≡ encode_with t xs ++ encode_with t ys
unfolding encode_with
encode_with-append t [] ys = refl
encode_with-append t (x ∷ xs) ys =
    ap (λ l. get_or t (x / 16) 0 ∷ get_or t (x % 16) 0 ∷ l) (encode_with-append t xs ys)

-- the digits of one byte more
pub digits_more : (bytes old line : List ℕ) (from at i high low : ℕ) → i < length bytes
    → at + 1 < length line → at ≡ from + 2 * i
    → take at line ≡ take from old ++ encode_upper (take i bytes)
    → high ≡ get_or upper_digits (get_or bytes i 0 / 16) 0
    → low ≡ get_or upper_digits (get_or bytes i 0 % 16) 0
    → take (at + 2) (set (set line at high) (at + 1) low)
    ≡ take from old ++ encode_upper (take (i + 1) bytes)
unfolding encode_with
digits_more bytes old line from at i high low less fits at_is so_far high_is low_is =
    grind (arith, common_steps, encode_with-append, take_more, take-two_writes)

pub no_digits : (front : List ℕ) → front ≡ front ++ encode_upper []
unfolding encode_with
no_digits front = sym (append-nil front)

-- a whole line
pub line_written : (r : Record) (front start one two three old new : List ℕ) (check : ℕ)
    → front_bytes r ≡ front ++ r.bytes → check ≡ check_byte (sum front + sum r.bytes)
    → length front ≡ 4 → 9 + 2 * length r.bytes + 2 < length three → take 1 start ≡ 58 ∷ []
    → take (1 + 2 * length front) one ≡ take 1 start ++ encode_upper front
    → take (9 + 2 * length r.bytes) two ≡ take 9 one ++ encode_upper r.bytes
    → take (9 + 2 * length r.bytes + 2) three
    ≡ take (9 + 2 * length r.bytes) two ++ encode_upper (check ∷ [])
    → new ≡ old ++ take (9 + 2 * length r.bytes + 3) (set three (9 + 2 * length r.bytes + 2) 10)
    → new ≡ old ++ record_line r
unfolding record_bytes
line_written r front start one two three old new check whole check_is four fits a b c d new_is =
    let total : sum (front_bytes r) ≡ sum front + sum r.bytes =
    ap sum whole ∙ sum_by-append (λ x. x) front r.bytes in
    let last : check ≡ check_byte (sum (front_bytes r)) = check_is ∙ ap check_byte (sym total) in
    let bytes : record_bytes r ≡ (front ++ r.bytes) ++ check ∷ [] =
    ap (λ l. l ++ check_byte (sum (front_bytes r)) ∷ []) whole
    ∙ ap (λ k. (front ++ r.bytes) ++ k ∷ []) (sym last) in
    let digits : encode_upper (record_bytes r)
    ≡ (encode_upper front ++ encode_upper r.bytes) ++ encode_upper (check ∷ []) =
    ap encode_upper bytes ∙ encode_with-append upper_digits (front ++ r.bytes) (check ∷ [])
    ∙ ap (λ l. l ++ encode_upper (check ∷ []))
    (encode_with-append upper_digits front r.bytes) in
    let end : 9 + 2 * length r.bytes + 3 ≡ 9 + 2 * length r.bytes + 2 + 1 = omega arith in
    let closed : take (9 + 2 * length r.bytes + 3) (set three (9 + 2 * length r.bytes + 2) 10)
    ≡ take (9 + 2 * length r.bytes + 2) three ++ 10 ∷ [] =
    ap (λ n. take n (set three (9 + 2 * length r.bytes + 2) 10)) end
    ∙ take_more_set three (9 + 2 * length r.bytes + 2) 10 fits in
    let written : take (9 + 2 * length r.bytes + 2) three ≡ 58 ∷ encode_upper (record_bytes r) =
    d
    ∙ ap (λ l. l ++ encode_upper (check ∷ []))
    (c
    ∙ ap (λ l. l ++ encode_upper r.bytes)
    (ap (λ n. take (1 + 2 * n) one) (sym four) ∙ b
    ∙ ap (λ l. l ++ encode_upper front) a))
    ∙ ap (λ l. 58 ∷ l) (sym digits) in
    new_is ∙ ap (λ l. old ++ l) (closed ∙ ap (λ l. l ++ 10 ∷ []) written)
