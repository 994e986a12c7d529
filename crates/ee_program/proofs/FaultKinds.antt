-- Numbers leave nothing without their digits, so each fault's line has the words of one of the kinds.
use Rattle.std.proofs.Common.{◌≡◌, ◌∙◌, ◌<◌, ◌+◌, ◌/◌, ◌%◌, ◌==◌, ℕ, zero, suc, Bool, true, false, List, [], ◌∷◌, ◌++◌, length, Option, Some, None, IfNone, inl, inr, refl, sym, ap, arith, not, codes, decimal}
use Rattle.std.specs.Prelude.{nat_lt}
use Rattle.std.specs.List.{All, filter}
use Rattle.std.specs.Fmt.{digit_glyph, digits, digits_onto}
use Rattle.std.proofs.lemmas.Bool.{cases_Bool}
use Rattle.std.proofs.lemmas.Grind.{common_steps}
use Rattle.std.proofs.lemmas.List.Elements.{filter-append}
use Rattle.std.proofs.lemmas.Nat.{mod_below}
use Rattle.ee_text.specs.Line.{line_of}
use Rattle.ee_interface.specs.declared.fault.File.TheVariants.{Image, Before, Script, Certificate, Settings, Dump, Values}
use Rattle.ee_interface.specs.declared.fault.Fault.{Fault}
use Rattle.ee_interface.specs.declared.fault.Fault.TheVariants.{CannotRead, TooLong, CannotWriteImage, ImageChanged, CannotWriteDump, CannotWriteOutput, OutputIsWritten, BadLine, BadShape, Unformatted, NoLiveSet, TwoLive, Foreign, SettingsText, BadName, BadField, BadRange, SameAddress, UnknownName, OutOfRange, Full, Spent, Absent, HoldsValues, NothingToRescue, NotFitting, WrongStart, NotRising, WrongFrom, NotForced, OtherShape, Backwards, NoSizeEnough, DumpLength, DumpOfWords, DumpOfPairs, DumpOfCoded, LowPair, Misplaced, TornWord, Uncoded, Base, ValuesText, BadValue, UnknownValue, ValueOutOfRange, FullAt, SpentAt, ValuesDiffer, Memory, DumpUnused, DumpNoCrc, DumpFull, RecordName}
use Rattle.ee_interface.specs.CommandLine.Operands.{is_decimal_digit}
use Rattle.ee_program.specs.Explain.Telling.{IsToldBy, line_words, without_digits}
use Rattle.ee_program.specs.declared.explain.telling.TheConstants.{KINDS}

glyph_left_out : (d : ℕ) (text : List ℕ) → d < 10
    → without_digits (digit_glyph false d ∷ text) ≡ without_digits text
glyph_left_out d text below = grind (arith, common_steps)

digits_left_out : (k n : ℕ) (text : List ℕ)
    → without_digits (digits_onto k 10 false n text) ≡ without_digits text
digits_left_out zero n text = refl
digits_left_out (suc k) n text =
    let one = glyph_left_out (n % 10) text (mod_below n 10 (omega arith)) in
    elim (cases_Bool (n / 10 == 0)) [
      | inl last ↦ rw last one
      | inr more ↦
          rw more (digits_left_out k (n / 10) (digit_glyph false (n % 10) ∷ text) ∙ one)
    ]

number_left_out : (n : ℕ) → without_digits (decimal n) ≡ []
unfolding digits
number_left_out n = digits_left_out 64 n []

parted : (front back : List ℕ)
    → without_digits (front ++ back) ≡ without_digits front ++ without_digits back
parted front back = filter-append (λ byte. not (is_decimal_digit byte)) front back

-- ---- a number in a text, and another in its place

skipped : (n : ℕ) (back : List ℕ) → without_digits (decimal n ++ back) ≡ without_digits back
skipped n back =
    parted (decimal n) back ∙ ap (λ t. t ++ without_digits back) (number_left_out n)

behind : (front back other : List ℕ) → without_digits back ≡ without_digits other
    → without_digits (front ++ back) ≡ without_digits (front ++ other)
behind front back other same =
    parted front back ∙ ap (λ t. without_digits front ++ t) same ∙ sym (parted front other)

ended : (text other : List ℕ) → without_digits text ≡ without_digits other
    → without_digits (line_of text) ≡ without_digits (line_of other)
ended text other same =
    parted text (10 ∷ []) ∙ ap (λ t. t ++ without_digits (10 ∷ [])) same
    ∙ sym (parted other (10 ∷ []))

middle : (n m : ℕ) (back other : List ℕ) → without_digits back ≡ without_digits other
    → without_digits (decimal n ++ back) ≡ without_digits (decimal m ++ other)
middle n m back other same = skipped n back ∙ same ∙ sym (skipped m other)

last : (n m : ℕ) → without_digits (decimal n) ≡ without_digits (decimal m)
last n m = number_left_out n ∙ sym (number_left_out m)

beside : (text other back again : List ℕ) → without_digits text ≡ without_digits other
    → without_digits back ≡ without_digits again
    → without_digits (text ++ back) ≡ without_digits (other ++ again)
beside text other back again same alike =
    parted text back ∙ ap (λ t. t ++ without_digits back) same
    ∙ ap (λ t. without_digits other ++ t) alike ∙ sym (parted other again)

abbrev pair : ℕ → ℕ → List ℕ
pair n k = (decimal n ++ codes " ") ++ decimal k

two : (n k m l : ℕ) → without_digits (pair n k) ≡ without_digits (pair m l)
two n k m l =
    beside (decimal n ++ codes " ") (decimal m ++ codes " ") (decimal k) (decimal l)
    (middle n m (codes " ") (codes " ") refl) (last k l)

abbrev triple : List ℕ → ℕ → ℕ → ℕ → List ℕ
triple words n k j = (((decimal n ++ words) ++ decimal k) ++ codes " ") ++ decimal j

three : (words : List ℕ) (n k j m l i : ℕ)
    → without_digits (triple words n k j) ≡ without_digits (triple words m l i)
three words n k j m l i =
    beside (((decimal n ++ words) ++ decimal k) ++ codes " ")
    (((decimal m ++ words) ++ decimal l) ++ codes " ") (decimal j) (decimal i)
    (beside ((decimal n ++ words) ++ decimal k) ((decimal m ++ words) ++ decimal l) (codes " ")
    (codes " ")
    (beside (decimal n ++ words) (decimal m ++ words) (decimal k) (decimal l)
    (middle n m words words refl) (last k l))
    refl)
    (last j i)

line_end : (front : List ℕ) (n m : ℕ)
    → without_digits (line_of (front ++ decimal n)) ≡ without_digits (line_of (front ++ decimal m))
line_end front n m =
    ended (front ++ decimal n) (front ++ decimal m)
    (behind front (decimal n) (decimal m) (last n m))

line_middle : (front : List ℕ) (n m : ℕ) (back : List ℕ)
    → without_digits (line_of (front ++ (decimal n ++ back)))
    ≡ without_digits (line_of (front ++ (decimal m ++ back)))
line_middle front n m back =
    ended (front ++ (decimal n ++ back)) (front ++ (decimal m ++ back))
    (behind front (decimal n ++ back) (decimal m ++ back) (middle n m back back refl))

line_two : (front : List ℕ) (n k m l : ℕ)
    → without_digits (line_of (front ++ pair n k)) ≡ without_digits (line_of (front ++ pair m l))
line_two front n k m l =
    ended (front ++ pair n k) (front ++ pair m l)
    (behind front (pair n k) (pair m l) (two n k m l))

line_three : (front words : List ℕ) (n k j m l i : ℕ)
    → without_digits (line_of (front ++ triple words n k j))
    ≡ without_digits (line_of (front ++ triple words m l i))
line_three front words n k j m l i =
    ended (front ++ triple words n k j) (front ++ triple words m l i)
    (behind front (triple words n k j) (triple words m l i) (three words n k j m l i))

-- ---- each fault

pub each_kind : (words : List ℕ) → All (λ fault. line_words fault ≡ words → ⊥) KINDS.now
    → (fault : Fault) → line_words fault ≡ words → ⊥
each_kind words none (CannotRead Image) told =
    none 0 Memory (omega arith) told
each_kind words none (CannotRead Before) told =
    none 1 Memory (omega arith) told
each_kind words none (CannotRead Script) told =
    none 2 Memory (omega arith) told
each_kind words none (CannotRead Certificate) told =
    none 3 Memory (omega arith) told
each_kind words none (CannotRead Settings) told =
    none 4 Memory (omega arith) told
each_kind words none (CannotRead Dump) told =
    none 5 Memory (omega arith) told
each_kind words none (CannotRead Values) told =
    none 6 Memory (omega arith) told
each_kind words none (TooLong Image) told =
    none 7 Memory (omega arith) told
each_kind words none (TooLong Before) told =
    none 8 Memory (omega arith) told
each_kind words none (TooLong Script) told =
    none 9 Memory (omega arith) told
each_kind words none (TooLong Certificate) told =
    none 10 Memory (omega arith) told
each_kind words none (TooLong Settings) told =
    none 11 Memory (omega arith) told
each_kind words none (TooLong Dump) told =
    none 12 Memory (omega arith) told
each_kind words none (TooLong Values) told =
    none 13 Memory (omega arith) told
each_kind words none CannotWriteImage told =
    none 14 Memory (omega arith) told
each_kind words none ImageChanged told =
    none 15 Memory (omega arith) told
each_kind words none CannotWriteDump told =
    none 16 Memory (omega arith) told
each_kind words none CannotWriteOutput told =
    none 17 Memory (omega arith) told
each_kind words none OutputIsWritten told =
    none 18 Memory (omega arith) told
each_kind words none (BadLine Image line) told =
    none 19 Memory (omega arith) (line_end (codes "ee: image line ") 0 line ∙ told)
each_kind words none (BadLine Before line) told =
    none 20 Memory (omega arith) (line_end (codes "ee: before line ") 0 line ∙ told)
each_kind words none (BadLine Script line) told =
    none 21 Memory (omega arith) (line_end (codes "ee: script line ") 0 line ∙ told)
each_kind words none (BadLine Certificate line) told =
    none 22 Memory (omega arith) (line_end (codes "ee: certificate line ") 0 line ∙ told)
each_kind words none (BadLine Settings line) told =
    none 23 Memory (omega arith) (line_end (codes "ee: settings line ") 0 line ∙ told)
each_kind words none (BadLine Dump line) told =
    none 24 Memory (omega arith) (line_end (codes "ee: dump line ") 0 line ∙ told)
each_kind words none (BadLine Values line) told =
    none 25 Memory (omega arith) (line_end (codes "ee: values line ") 0 line ∙ told)
each_kind words none (BadShape Image) told =
    none 26 Memory (omega arith) told
each_kind words none (BadShape Before) told =
    none 27 Memory (omega arith) told
each_kind words none (BadShape Script) told =
    none 28 Memory (omega arith) told
each_kind words none (BadShape Certificate) told =
    none 29 Memory (omega arith) told
each_kind words none (BadShape Settings) told =
    none 30 Memory (omega arith) told
each_kind words none (BadShape Dump) told =
    none 31 Memory (omega arith) told
each_kind words none (BadShape Values) told =
    none 32 Memory (omega arith) told
each_kind words none Unformatted told =
    none 33 Memory (omega arith) told
each_kind words none NoLiveSet told =
    none 34 Memory (omega arith) told
each_kind words none TwoLive told =
    none 35 Memory (omega arith) told
each_kind words none (Foreign first second) told =
    none 36 Memory (omega arith) (line_two (codes "ee: image foreign word ") 0 0 first second ∙ told)
each_kind words none SettingsText told =
    none 37 Memory (omega arith) told
each_kind words none (BadName entry) told =
    none 38 Memory (omega arith) (line_middle (codes "ee: settings entry ") 0 entry (codes " bad name") ∙ told)
each_kind words none (BadField entry) told =
    none 39 Memory (omega arith) (line_middle (codes "ee: settings entry ") 0 entry (codes " bad field") ∙ told)
each_kind words none (BadRange entry) told =
    none 40 Memory (omega arith) (line_middle (codes "ee: settings entry ") 0 entry (codes " bad range") ∙ told)
each_kind words none (SameAddress entry) told =
    none 41 Memory (omega arith) (line_middle (codes "ee: settings entry ") 0 entry (codes " same address") ∙ told)
each_kind words none UnknownName told =
    none 42 Memory (omega arith) told
each_kind words none (OutOfRange first second) told =
    none 43 Memory (omega arith) (line_two (codes "ee: out of range ") 0 0 first second ∙ told)
each_kind words none Full told =
    none 44 Memory (omega arith) told
each_kind words none Spent told =
    none 45 Memory (omega arith) told
each_kind words none Absent told =
    none 46 Memory (omega arith) told
each_kind words none HoldsValues told =
    none 47 Memory (omega arith) told
each_kind words none NothingToRescue told =
    none 48 Memory (omega arith) told
each_kind words none (NotFitting number) told =
    none 49 Memory (omega arith) (line_end (codes "ee: not fitting ") 0 number ∙ told)
each_kind words none WrongStart told =
    none 50 Memory (omega arith) told
each_kind words none (NotRising number) told =
    none 51 Memory (omega arith) (line_end (codes "ee: not rising ") 0 number ∙ told)
each_kind words none (WrongFrom number) told =
    none 52 Memory (omega arith) (line_end (codes "ee: wrong from ") 0 number ∙ told)
each_kind words none (NotForced number) told =
    none 53 Memory (omega arith) (line_end (codes "ee: not forced ") 0 number ∙ told)
each_kind words none OtherShape told =
    none 54 Memory (omega arith) told
each_kind words none (Backwards number) told =
    none 55 Memory (omega arith) (line_end (codes "ee: wear backwards ") 0 number ∙ told)
each_kind words none NoSizeEnough told =
    none 56 Memory (omega arith) told
each_kind words none DumpLength told =
    none 57 Memory (omega arith) told
each_kind words none DumpOfWords told =
    none 58 Memory (omega arith) told
each_kind words none DumpOfPairs told =
    none 59 Memory (omega arith) told
each_kind words none (DumpOfCoded first second) told =
    none 60 Memory (omega arith) (line_two (codes "ee: dump of coded words ") 0 0 first second ∙ told)
each_kind words none (LowPair first second) told =
    none 61 Memory (omega arith) (line_two (codes "ee: dump pair ") 0 0 first second ∙ told)
each_kind words none (Misplaced first second) told =
    none 62 Memory (omega arith) (line_two (codes "ee: dump shape ") 0 0 first second ∙ told)
each_kind words none (TornWord first second) told =
    none 63 Memory (omega arith) (line_two (codes "ee: torn word ") 0 0 first second ∙ told)
each_kind words none (Uncoded first second) told =
    none 64 Memory (omega arith) (line_two (codes "ee: uncoded word ") 0 0 first second ∙ told)
each_kind words none Base told =
    none 65 Memory (omega arith) told
each_kind words none ValuesText told =
    none 66 Memory (omega arith) told
each_kind words none (BadValue entry) told =
    none 67 Memory (omega arith) (line_middle (codes "ee: values entry ") 0 entry (codes " bad field") ∙ told)
each_kind words none (UnknownValue entry) told =
    none 68 Memory (omega arith) (line_middle (codes "ee: values entry ") 0 entry (codes " unknown name") ∙ told)
each_kind words none (ValueOutOfRange entry min max) told =
    none 69 Memory (omega arith) (line_three (codes "ee: values entry ") (codes " out of range ") 0 0 0 entry min max ∙ told)
each_kind words none (FullAt entry) told =
    none 70 Memory (omega arith) (line_middle (codes "ee: values entry ") 0 entry (codes " full") ∙ told)
each_kind words none (SpentAt entry) told =
    none 71 Memory (omega arith) (line_middle (codes "ee: values entry ") 0 entry (codes " spent") ∙ told)
each_kind words none ValuesDiffer told =
    none 72 Memory (omega arith) told
each_kind words none Memory told =
    none 73 Memory (omega arith) told
each_kind words none DumpUnused told =
    none 74 Memory (omega arith) told
each_kind words none DumpNoCrc told =
    none 75 Memory (omega arith) told
each_kind words none DumpFull told =
    none 76 Memory (omega arith) told
each_kind words none RecordName told =
    none 77 Memory (omega arith) told

-- where no kind has the words of a line, no fault has
pub none_told : (told : Option Fault) (words line : List ℕ) → words ≡ without_digits (line_of line)
    → IfNone told (All (λ fault. line_words fault ≡ words → ⊥) KINDS.now)
    → IfNone told ((fault : Fault) → IsToldBy fault line → ⊥)
none_told None words line is none = λ fault told. each_kind words none fault (told ∙ sym is)
none_told (Some fault) words line is none = none
