-- A line spells one record, the one that is read from it.
use Rattle.std.proofs.Common.{◌≡◌, ◌≢◌, ℕ, suc, ◌+◌, ◌*◌, ◌%◌, ◌<◌, true, List, [], ◌∷◌, ◌++◌, length, get_or, take, refl, sym, ap, ◌∙◌, subst, arith, length-append, inl, inr, Some, None, Result, Ok, Err, rules}
use Rattle.std.proofs.lemmas.Grind.{common_steps}
use Rattle.std.specs.Prelude.{◌==◌, ◌&&◌}
use Rattle.std.specs.List.{sum}
use Rattle.std.proofs.lemmas.Bool.{ne_eqb, eq-eqb, eqb-true, cases_eq, cases_lt, and_parts}
use Rattle.std.proofs.lemmas.List.{take_all, take_at, take_more, length-take-le, get_or-take, get_or_past}
use Rattle.std.proofs.lemmas.List.Sums.{sum_by_push}
use Rattle.std.proofs.lemmas.Option.{cond_some, none-some, same_Some, option_and_then_some}
use Rattle.hex.specs.Hex.{IsBytes, decode_of}
use Rattle.hex.specs.declared.error.FromHexError.{FromHexError}
use Rattle.hex.proofs.HexLemmas.{decode_of-ok}
use Rattle.ee_text.proofs.Public as feeds
use Rattle.ee_shell.specs.Dumps.intel_hex.Record.{Record, IsRecord, IsLineOf, SpellsRecord, line_without_return, check_byte, fits_kind, front_bytes, record_bytes}
use Rattle.ee_shell.specs.Dumps.intel_hex.Reading.{bytes_decoded, bytes_in, record_in, record_of}

decoded : (r : Result (List ℕ) FromHexError) (bytes : List ℕ) → bytes_decoded r ≡ Some bytes
    → r ≡ Ok bytes
decoded (Ok xs) bytes e = ap Ok (same_Some xs bytes e)
decoded (Err x) bytes e = absurd (none-some bytes e)

-- a colon and digits that are these bytes
pub record AreDigitsOf (line bytes : List ℕ) : Type 0 where
  pub digits : List ℕ
  pub line_is : line ≡ 58 ∷ digits
  pub digits_are : decode_of digits ≡ Ok bytes

pub digits_of : (line bytes : List ℕ) → bytes_in line ≡ Some bytes → AreDigitsOf line bytes
digits_of [] bytes e = absurd (none-some bytes e)
digits_of (c ∷ digits) bytes e = search (rules, cases_eq, decoded, eq-eqb, ne_eqb, none-some)

pub bytes_in-digits : (line digits bytes : List ℕ) → line ≡ 58 ∷ digits
    → decode_of digits ≡ Ok bytes → bytes_in line ≡ Some bytes
bytes_in-digits line digits bytes line_is digits_are =
    ap bytes_in line_is ∙ ap bytes_decoded digits_are

check_is : (total last : ℕ) → last < 256 → (total + last) % 256 ≡ 0 → last ≡ check_byte total
check_is total last small zero_sum = omega arith

pub check_sums : (total : ℕ) → (total + check_byte total) % 256 ≡ 0
check_sums total = omega arith

pub check_small : (total : ℕ) → check_byte total < 256
check_small total = omega arith

pub sum-last : (xs : List ℕ) (last : ℕ) → sum (xs ++ last ∷ []) ≡ sum xs + last
sum-last xs last = sum_by_push (λ x. x) xs last

-- bytes that are a record's
pub record AreBytesOf (bytes : List ℕ) (r : Record) : Type 0 where
  pub proper : IsRecord r
  pub bytes_are : bytes ≡ record_bytes r

-- the record of a count, an address, a type, and what stands behind
abbrev pub record_from : ℕ → ℕ → ℕ → ℕ → List ℕ → Record
record_from count high low kind behind =
    record { address = high * 256 + low; kind = kind; bytes = take count behind }

front_is : (count high low kind last : ℕ) (data_bytes behind : List ℕ) → high < 256 → low < 256
    → length data_bytes ≡ count → behind ≡ data_bytes ++ last ∷ []
    → count ∷ high ∷ low ∷ kind ∷ behind
    ≡ front_bytes (record { address = high * 256 + low; kind = kind; bytes = data_bytes })
    ++ last ∷ []
front_is count high low kind last data_bytes behind h l count_is behind_is = search rules

record_made : (count high low kind : ℕ) (behind : List ℕ)
    → IsBytes (count ∷ high ∷ low ∷ kind ∷ behind) → length behind ≡ count + 1
    → sum (count ∷ high ∷ low ∷ kind ∷ behind) % 256 ≡ 0
    → fits_kind kind (high * 256 + low) count ≡ true
    → AreBytesOf (count ∷ high ∷ low ∷ kind ∷ behind) (record_from count high low kind behind)
unfolding record_bytes
record_made count high low kind behind bytes long zero_sum fits =
    let r : Record = record_from count high low kind behind in
    let few : count < 256 = bytes 0 in
    let high_fits : high < 256 = bytes 1 in
    let low_fits : low < 256 = bytes 2 in
    let taken : length (take count behind) ≡ count = length-take-le count behind (omega arith) in
    let last = get_or behind count 0 in
    let last_fits : last < 256 = bytes (suc (suc (suc (suc count)))) in
    let whole : behind ≡ take count behind ++ last ∷ [] =
    sym (take_all (count + 1) behind (omega arith)) ∙ take_more behind count 0 (omega arith) in
    let cells : count ∷ high ∷ low ∷ kind ∷ behind ≡ front_bytes r ++ last ∷ [] =
    front_is count high low kind last (take count behind) behind high_fits low_fits taken
    whole in
    let total : (sum (front_bytes r) + last) % 256 ≡ 0 =
    ap (λ s. s % 256) (sym (sum-last (front_bytes r) last) ∙ ap sum (sym cells)) ∙ zero_sum in
    let check : last ≡ check_byte (sum (front_bytes r)) =
    check_is (sum (front_bytes r)) last last_fits total in
    record {
      proper = record {
        address_fits = omega arith;
        few = omega arith;
        bytes = λ i. elim (cases_lt i count) [
          | inl less ↦ subst (λ b. b < 256) (sym (get_or-take count behind i 0 less))
              (bytes (suc (suc (suc (suc i)))))
          | inr more ↦ omega (arith, get_or_past (take count behind) i 0 (omega arith))
        ];
        fits = subst (λ n. fits_kind kind (high * 256 + low) n ≡ true) (sym taken) fits;
      };
      bytes_are = cells ∙ ap (λ b. front_bytes r ++ b ∷ []) check;
    }

-- what is read from bytes has these bytes
pub bytes_of_record : (bytes : List ℕ) (r : Record) → IsBytes bytes → record_of bytes ≡ Some r
    → AreBytesOf bytes r
bytes_of_record [] r bytes e = absurd (none-some r e)
bytes_of_record (count ∷ []) r bytes e = absurd (none-some r e)
bytes_of_record (count ∷ high ∷ []) r bytes e = absurd (none-some r e)
bytes_of_record (count ∷ high ∷ low ∷ []) r bytes e = absurd (none-some r e)
bytes_of_record (count ∷ high ∷ low ∷ kind ∷ behind) r bytes e =
    let parts =
    cond_some
    (length behind == count + 1
    && (sum (count ∷ high ∷ low ∷ kind ∷ behind) % 256 == 0
    && fits_kind kind (high * 256 + low) count))
    (record_from count high low kind behind) r e in
    let first =
    and_parts (length behind == count + 1)
    (sum (count ∷ high ∷ low ∷ kind ∷ behind) % 256 == 0
    && fits_kind kind (high * 256 + low) count) parts.0 in
    let second =
    and_parts (sum (count ∷ high ∷ low ∷ kind ∷ behind) % 256 == 0)
    (fits_kind kind (high * 256 + low) count) first.1 in
    subst (AreBytesOf (count ∷ high ∷ low ∷ kind ∷ behind)) parts.1
    (record_made count high low kind behind bytes (eqb-true (length behind) (count + 1) first.0)
    (eqb-true (sum (count ∷ high ∷ low ∷ kind ∷ behind) % 256) 0 second.0) second.1)

pub record_found : (count high low kind : ℕ) (behind : List ℕ) → length behind ≡ count + 1
    → sum (count ∷ high ∷ low ∷ kind ∷ behind) % 256 ≡ 0
    → fits_kind kind (high * 256 + low) count ≡ true
    → record_of (count ∷ high ∷ low ∷ kind ∷ behind) ≡ Some (record_from count high low kind behind)
record_found count high low kind behind long zero_sum fits =
    rw (
      eq-eqb (length behind) (count + 1) long,
      eq-eqb (sum (count ∷ high ∷ low ∷ kind ∷ behind) % 256) 0 zero_sum,
      fits,
    ) refl

-- and a record's bytes are read as it
pub record_again : (r : Record) → IsRecord r → record_of (record_bytes r) ≡ Some r
unfolding record_bytes
record_again r proper =
    grind (arith, common_steps, check_sums, length-append, record_found, sum-last, take_at)

-- no record has more bytes than the reader holds
pub too_long : (bytes : List ℕ) → IsBytes bytes → 260 < length bytes → record_of bytes ≡ None
too_long [] bytes long = absurd (omega arith)
too_long (count ∷ []) bytes long = absurd (omega arith)
too_long (count ∷ high ∷ []) bytes long = absurd (omega arith)
too_long (count ∷ high ∷ low ∷ []) bytes long = absurd (omega arith)
too_long (count ∷ high ∷ low ∷ kind ∷ behind) bytes long =
    let few : count < 256 = bytes 0 in
    let other : length behind ≢ count + 1 = λ e. omega arith in
    rw (ne_eqb (length behind) (count + 1) other) refl

-- ---- lines

-- the record that is read from a line is spelled there
pub record_spelled : (line : List ℕ) (r : Record) → record_in line ≡ Some r
    → SpellsRecord (line_without_return line) r
unfolding record_in
record_spelled line r e =
    option_and_then_some record_of (bytes_in (line_without_return line)) r e (λ bytes found made.
    let digits = digits_of (line_without_return line) bytes found in
    let own = bytes_of_record bytes r (decode_of-ok digits.digits bytes digits.digits_are).3 made in
    record {
      proper = own.proper;
      digits = digits.digits;
      line_is = digits.line_is;
      digits_are = digits.digits_are ∙ ap Ok own.bytes_are;
    })

-- and the one that is spelled there is read
pub spelled_record : (line : List ℕ) (r : Record) → SpellsRecord (line_without_return line) r
    → record_in line ≡ Some r
unfolding record_in
spelled_record line r spelled = search (rules, bytes_in-digits, record_again)

-- a text has one first line and one record there
pub record IsSame (r other : Record) (rest more : List ℕ) : Type 0 where
  pub record_is : r ≡ other
  pub rest_is : rest ≡ more

pub one_record : (r other : Record) (text rest more : List ℕ) → IsLineOf r text rest
    → IsLineOf other text more → IsSame r other rest more
one_record r other text rest more first second =
    let same =
    feeds.first_line first.line second.line rest more first.in_line second.in_line
    (sym first.text_is ∙ second.text_is) in
    let found : record_in second.line ≡ Some r =
    ap record_in (sym same.0) ∙ spelled_record first.line r first.spelled in
    record {
      record_is =
          same_Some r other (sym found ∙ spelled_record second.line other second.spelled);
      rest_is = same.1;
    }
