-- What the reader of a line finds.
use Rattle.std.proofs.Common.{◌≡◌, ◌≢◌, ℕ, suc, ◌+◌, ◌-◌, ◌/◌, ◌%◌, ◌<◌, List, [], ◌∷◌, ◌++◌, length, length-append, get_or, take, refl, sym, ap, ◌∙◌, subst, arith, Option, Some, None, Result, Ok, Err, rules}
use Rattle.std.specs.Option.{option_and_then}
use Rattle.std.proofs.lemmas.Bool.{ne_eqb}
use Rattle.std.proofs.lemmas.List.{get_or_at, nil_from_length, take_at}
use Rattle.std.proofs.lemmas.Option.{none-some}
use Rattle.hex.specs.Hex.{decode_of}
use Rattle.hex.proofs.HexLemmas.{decode_of-ok}
use Rattle.ee_text.specs.Line.{IsLine, line_of}
use Rattle.ee_shell.specs.Dumps.intel_hex.Record.{Record, line_without_return}
use Rattle.ee_shell.specs.Dumps.intel_hex.Met.{Meets}
use Rattle.ee_shell.specs.declared.dumps.intel_hex.reading.Met.{Met}
use Rattle.ee_shell.specs.Dumps.intel_hex.Reading.{RecordStep, Stops, Ends, Goes, after_record, bytes_in, cells_at_end, cells_of_lines, lines_in, record_in, record_of, step_of_record}
use Rattle.ee_shell.proofs.dumps.intel_hex.Lines.{closed-more, lines_in-line}
use Rattle.ee_shell.proofs.dumps.intel_hex.Judging.{judged-line, judged-rest}
use Rattle.ee_shell.proofs.dumps.intel_hex.Records.{bytes_in-digits, digits_of, too_long}

-- ---- the end of a line

bare_front : (front : List ℕ) → line_without_return (front ++ 13 ∷ []) ≡ front
unfolding line_without_return
bare_front [] = refl
bare_front (b ∷ []) = refl
bare_front (b ∷ c ∷ front) = ap (λ l. b ∷ l) (bare_front (c ∷ front))

-- a line with no carriage return at its end
pub bare_other : (line : List ℕ) → (0 < length line → get_or line (length line - 1) 0 ≢ 13)
    → line_without_return line ≡ line
unfolding line_without_return
bare_other [] other = refl
bare_other (b ∷ []) other = rw (ne_eqb b 13 (other (omega arith))) refl
bare_other (b ∷ c ∷ line) other =
    let at : length (b ∷ c ∷ line) - 1 ≡ suc (length (c ∷ line) - 1) = omega arith in
    ap (λ l. b ∷ l)
    (bare_other (c ∷ line)
    (λ some e. other (omega arith) (ap (λ k. get_or (b ∷ c ∷ line) k 0) at ∙ e)))

-- the same by the line's last byte
pub bare_cut : (line front : List ℕ) (last : ℕ) → line ≡ front ++ last ∷ [] → last ≡ 13
    → front ≡ line_without_return line
bare_cut line front last line_is same =
    sym (ap line_without_return (line_is ∙ ap (λ b. front ++ b ∷ []) same) ∙ bare_front front)

pub bare_kept : (line front : List ℕ) (last : ℕ) → line ≡ front ++ last ∷ [] → last ≢ 13
    → line ≡ line_without_return line
bare_kept line front last line_is other = search (rules, bare_other, get_or_at, length-append)

pub bare_empty : (line : List ℕ) → line ≡ [] → line ≡ line_without_return line
unfolding line_without_return
bare_empty line empty = empty ∙ sym (ap line_without_return empty)

-- ---- its digits

pub no_colon : (line digits : List ℕ) (first : ℕ) → line ≡ first ∷ digits → first ≢ 58
    → bytes_in line ≡ None
no_colon line digits first line_is other = ap bytes_in line_is ∙ (rw (ne_eqb first 58 other) refl)

-- so many digits are more bytes than a record has
pub long_digits : (line digits bytes : List ℕ) (first : ℕ) → line ≡ first ∷ digits
    → 260 < length digits / 2 → bytes_in line ≡ Some bytes → 260 < length bytes
long_digits line digits bytes first line_is long found = search (rules, decode_of-ok, digits_of)

pub digits_found : (line digits bytes behind : List ℕ) (first count : ℕ) → line ≡ first ∷ digits
    → first ≡ 58 → decode_of digits ≡ Ok bytes → length bytes ≡ count
    → bytes_in line ≡ Some (take count (bytes ++ behind))
digits_found line digits bytes behind first count line_is colon found long =
    bytes_in-digits line digits bytes (line_is ∙ ap (λ b. b ∷ digits) colon) found
    ∙ ap Some (sym (take_at bytes behind count long))

-- an odd number of digits, or others than digits, are none
pub odd_digits : (line digits bytes : List ℕ) (first : ℕ) → line ≡ first ∷ digits
    → length digits % 2 ≢ 0 → bytes_in line ≡ Some bytes → 260 < length bytes
odd_digits line digits bytes first line_is odd found = search (rules, decode_of-ok, digits_of)

pub bad_digits : (line digits bytes : List ℕ) (first : ℕ) → line ≡ first ∷ digits
    → ((others : List ℕ) → decode_of digits ≢ Ok others) → bytes_in line ≡ Some bytes
    → 260 < length bytes
bad_digits line digits bytes first line_is bad found = search (rules, digits_of)

pub no_colon_long : (line digits : List ℕ) (first : ℕ) → line ≡ first ∷ digits → first ≢ 58
    → (bytes : List ℕ) → bytes_in line ≡ Some bytes → 260 < length bytes
no_colon_long line digits first line_is other bytes some =
    absurd (none-some bytes (sym (no_colon line digits first line_is other) ∙ some))

-- ---- the record in it

long_or_none : (text : List ℕ) (found : Option (List ℕ))
    → ((bytes : List ℕ) → bytes_in text ≡ Some bytes → 260 < length bytes) → bytes_in text ≡ found
    → option_and_then record_of (bytes_in text) ≡ None
long_or_none text None long is = ap (option_and_then record_of) is
long_or_none text (Some bytes) long is = search (rules, decode_of-ok, digits_of, too_long)

pub record_in-none : (line text : List ℕ) → text ≡ line_without_return line
    → ((bytes : List ℕ) → bytes_in text ≡ Some bytes → 260 < length bytes) → record_in line ≡ None
unfolding record_in
record_in-none line text text_is long =
    long_or_none (line_without_return line) (bytes_in (line_without_return line))
    (λ bytes e. long bytes (ap bytes_in text_is ∙ e)) refl

pub record_in-some : (line text bytes : List ℕ) → text ≡ line_without_return line
    → bytes_in text ≡ Some bytes → record_in line ≡ record_of bytes
unfolding record_in
record_in-some line text bytes text_is found =
    ap (option_and_then record_of) (ap bytes_in (sym text_is) ∙ found)

pub no_bytes : (base upper : ℕ) (cells : List (Option ℕ)) (line text : List ℕ)
    → text ≡ line_without_return line
    → ((bytes : List ℕ) → bytes_in text ≡ Some bytes → 260 < length bytes)
    → step_of_record base upper cells (record_in line) ≡ Stops
no_bytes base upper cells line text text_is long =
    ap (step_of_record base upper cells) (record_in-none line text text_is long)

pub no_row : (base upper : ℕ) (cells : List (Option ℕ)) (line text bytes : List ℕ)
    → text ≡ line_without_return line → bytes_in text ≡ Some bytes → None ≡ record_of bytes
    → step_of_record base upper cells (record_in line) ≡ Stops
no_row base upper cells line text bytes text_is found none =
    ap (step_of_record base upper cells) (record_in-some line text bytes text_is found ∙ sym none)

pub one_row : (base upper above : ℕ) (cells new : List (Option ℕ)) (line text bytes : List ℕ)
    (r : Record) (met : Met)
    → text ≡ line_without_return line → bytes_in text ≡ Some bytes → Some r ≡ record_of bytes
    → Meets met cells above new (step_of_record base upper cells (Some r))
    → Meets met cells above new (step_of_record base upper cells (record_in line))
one_row base upper above cells new line text bytes r met text_is found is meets =
    subst (λ (o : Option Record). Meets met cells above new (step_of_record base upper cells o))
    (is ∙ sym (record_in-some line text bytes text_is found)) meets

-- ---- one line more

pub line_met : (base n upper : ℕ) (cells : List (Option ℕ)) (text line behind : List ℕ)
    (step : RecordStep)
    → text ≡ line_of line ++ behind → IsLine line
    → step_of_record base upper cells (record_in line) ≡ step
    → cells_of_lines base n upper cells (lines_in text)
    ≡ after_record n cells (lines_in behind)
    (λ above new. cells_of_lines base (n + 1) above new (lines_in behind)) step
line_met base n upper cells text line behind step text_is in_line is =
    ap (cells_of_lines base n upper cells) (lines_in-line text line behind in_line text_is)
    ∙ judged-line base n upper cells line behind
    ∙ ap
    (after_record n cells (lines_in behind)
    (λ above new. cells_of_lines base (n + 1) above new (lines_in behind))) is

-- what all lines come to, from what the lines that are left do: a record was taken
pub line_taken : (base same n upper above : ℕ) (cells new : List (Option ℕ))
    (text line behind : List ℕ) (total : Result (List (Option ℕ)) ℕ)
    → cells_of_lines base n upper cells (lines_in text) ≡ total → text ≡ line_of line ++ behind
    → IsLine line → step_of_record base upper cells (record_in line) ≡ Goes above new → same ≡ base
    → cells_of_lines same (n + 1) above new (lines_in behind) ≡ total
line_taken base same n upper above cells new text line behind total left text_is in_line step
    same_is =
    ap (λ b. cells_of_lines b (n + 1) above new (lines_in behind)) same_is
    ∙ sym (line_met base n upper cells text line behind (Goes above new) text_is in_line step)
    ∙ left

-- the end came, and nothing behind it
pub line_ended : (base n upper : ℕ) (cells new : List (Option ℕ)) (text line behind : List ℕ)
    (total : Result (List (Option ℕ)) ℕ)
    → cells_of_lines base n upper cells (lines_in text) ≡ total → text ≡ line_of line ++ behind
    → IsLine line → step_of_record base upper cells (record_in line) ≡ Ends → new ≡ cells
    → length behind ≡ 0 → total ≡ Ok new
line_ended base n upper cells new text line behind total left text_is in_line step same none =
    sym left ∙ line_met base n upper cells text line behind Ends text_is in_line step
    ∙ ap (λ l. cells_at_end (n + 1) cells (lines_in l)) (nil_from_length behind none)
    ∙ ap Ok (sym same)

-- or more
pub line_behind : (base n upper : ℕ) (cells : List (Option ℕ)) (text line behind : List ℕ)
    (total : Result (List (Option ℕ)) ℕ)
    → cells_of_lines base n upper cells (lines_in text) ≡ total → text ≡ line_of line ++ behind
    → IsLine line → step_of_record base upper cells (record_in line) ≡ Ends → length behind ≢ 0
    → total ≡ Err (n + 1)
line_behind base n upper cells text line behind total left text_is in_line step more =
    sym left ∙ line_met base n upper cells text line behind Ends text_is in_line step
    ∙ closed-more (n + 1) cells behind (λ e. more (ap length e))

-- a bad line
pub line_bad : (base n upper : ℕ) (cells : List (Option ℕ)) (text line behind : List ℕ)
    (total : Result (List (Option ℕ)) ℕ)
    → cells_of_lines base n upper cells (lines_in text) ≡ total → text ≡ line_of line ++ behind
    → IsLine line → step_of_record base upper cells (record_in line) ≡ Stops → total ≡ Err n
line_bad base n upper cells text line behind total left text_is in_line step =
    sym left ∙ line_met base n upper cells text line behind Stops text_is in_line step

-- or none
pub line_missing : (base n upper : ℕ) (cells : List (Option ℕ)) (text : List ℕ)
    (total : Result (List (Option ℕ)) ℕ)
    → cells_of_lines base n upper cells (lines_in text) ≡ total → IsLine text → total ≡ Err n
line_missing base n upper cells text total left lacks =
    sym left ∙ judged-rest base n upper cells text lacks

-- for the reader of lines
pub ruleset reading = (line_taken, line_ended, line_behind, line_bad, line_missing)
