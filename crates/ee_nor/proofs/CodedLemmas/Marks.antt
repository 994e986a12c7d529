-- The mark says the shape.
use Rattle.std.proofs.Common.{◌≡◌, ◌≢◌, ◌⊎◌, inl, inr, ℕ, ◌+◌, ◌*◌, ◌/◌, ◌%◌, ◌^◌, ◌<◌, ◌≤◌, Option, Some, None, IfNone, refl, sym, subst, ap, ◌∙◌, arith}
use Rattle.std.specs.Option.{SomeIff}
use Rattle.std.specs.Prelude.{unwrap_or}
use Rattle.ee_flash.specs.Numbers.{header_half}
use Rattle.ee_flash.specs.Size.{IsWithinLimits, Size}
use Rattle.ee_nor.specs.Coded.Code.{IsPayload, codeword, payload_in}
use Rattle.ee_nor.specs.Coded.Coded.{coded_number, mark_payload, mark_value, number_of_payload, payload_of_number}
use Rattle.ee_nor.specs.Coded.EccNor.{EccDevice, ecc_at}
use Rattle.ee_nor.specs.Coded.Formed.{coded_cases}
use Rattle.ee_nor.specs.Coded.Shapes.{HoldsNoOther, HoldsOther, HoldsPlainWords, IsMarkOf, NamesNone, NamesOther, OtherMarkIsTorn, mark_read, plain_mark, size_named}
use Rattle.ee_nor.proofs.CodedLemmas.Near.{coded_payload}
use Rattle.ee_nor.proofs.CodedLemmas.Numbers.{coded_below, mark_again, mark_is}

pub mark_fits : (size : Size) → IsWithinLimits size → IsPayload (mark_payload size)
mark_fits size limits = omega (arith, limits.few_pages, limits.few_words)

-- two shapes of which one is within the limits have two marks
same_shape : (pages words pages_too words_too : ℕ) → words < 2 ^ 16 → words_too < 2 ^ 16
    → (pages * 2 ^ 16 + words) * 2 ^ 17 + 2 ^ 16 ≡ (pages_too * 2 ^ 16 + words_too) * 2 ^ 17 + 2 ^ 16
    → (pages ≡ pages_too) × (words ≡ words_too)
same_shape pages words pages_too words_too fit fit_too same =
    (omega (arith, same, fit, fit_too), omega (arith, same, fit, fit_too))

pub shapes_differ : (size other : Size) → IsWithinLimits size → IsWithinLimits other
    → mark_payload other ≡ mark_payload size → other ≡ size
shapes_differ size other limits limits_too same =
    let parts = same_shape other.pages other.words size.pages size.words
    (omega (arith, limits_too.few_words)) (omega (arith, limits.few_words)) same in
    λ i. record { pages = parts.0 i; words = parts.1 i }

pub other_mark_is_torn : OtherMarkIsTorn
other_mark_is_torn size other number limits mark apart = elim (coded_cases size number) [
  | inl erased ↦
      let below = coded_below (mark_payload other) (mark_fits other mark.within_limits) in
      absurd (omega (arith, below, mark.is_mark, erased.0))
  | inr (inl held) ↦
      let payload = mark_payload other in
      let is : payload_in number ≡ payload =
      ap payload_in mark.is_mark ∙ coded_payload payload (mark_fits other mark.within_limits) in
      let whole = header_half * 2 ^ 32 + header_half in
      let again : number_of_payload payload ≡ whole =
      mark_again other whole (omega arith) (omega arith) in
      let own : payload ≡ mark_payload size =
      sym is ∙ held.2 ∙ ap (λ (k : ℕ). payload_of_number size (number_of_payload k)) is
      ∙ ap (payload_of_number size) again ∙ mark_is size in
      absurd (apart (shapes_differ size other limits mark.within_limits own))
  | inr (inr torn) ↦ torn
]

-- a number is the mark of one shape
one_mark : (number : ℕ) (size other : Size) → IsMarkOf number size → IsMarkOf number other
    → other ≡ size
one_mark number size other mark mark_too =
    shapes_differ size other mark.within_limits mark_too.within_limits
    (sym (coded_payload (mark_payload other) (mark_fits other mark_too.within_limits))
    ∙ ap payload_in (sym mark_too.is_mark ∙ mark.is_mark)
    ∙ coded_payload (mark_payload size) (mark_fits size mark.within_limits))

-- ---- what a number names

-- the value of a mark, and the word that it makes
pub mark_whole : (number : ℕ) (size : Size) → IsMarkOf number size
    → (number / 2 ^ 32 ≡ mark_value size) × (codeword (number / 2 ^ 32 * 2 ^ 17 + 2 ^ 16) ≡ number)
mark_whole number size mark =
    let payload : payload_in number ≡ mark_payload size =
    ap payload_in mark.is_mark ∙ coded_payload (mark_payload size) (mark_fits size mark.within_limits) in
    let value : number / 2 ^ 32 ≡ mark_value size = omega (arith, payload) in
    (value, ap (λ (k : ℕ). codeword (k * 2 ^ 17 + 2 ^ 16)) value ∙ sym mark.is_mark)

-- the size that a value names is its own
pub named_size : (size : Size) (value : ℕ) → IsWithinLimits size → value ≡ mark_value size
    → size_named value ≡ size
named_size size value limits is =
    let fits = limits.few_words in
    let pages : value / 2 ^ 16 ≡ size.pages = omega (arith, is, fits) in
    let words : value % 2 ^ 16 ≡ size.words = omega (arith, is, fits) in
    λ i. record { pages = pages i; words = words i }

pub none_named : (number : ℕ) (result : Option Size)
    → SomeIff result (IsWithinLimits (size_named (number / 2 ^ 32))) (size_named (number / 2 ^ 32))
    → IfNone result ((size : Size) → IsMarkOf number size → ⊥)
none_named number (Some size) found = tt
none_named number None none = λ size mark.
    let whole = mark_whole number size mark in
    none (subst IsWithinLimits
    (sym (named_size size (number / 2 ^ 32) mark.within_limits whole.0)) mark.within_limits)

-- 0 is no mark
no_mark : (size : Size) → IsMarkOf 0 size → ⊥
no_mark size mark =
    let whole = mark_whole 0 size mark in
    let value = whole.0 in
    omega (arith, value, mark.within_limits.some_words)

mark_stands : (reading : Option ℕ) (size : Size) → IsMarkOf (unwrap_or reading 0) size
    → reading ≡ Some (unwrap_or reading 0)
mark_stands None size mark = absurd (no_mark size mark)
mark_stands (Some number) size mark = refl

-- ---- what the first pages hold

-- the value of the mark that a number is, 0 where it is none
pub record IsValueNamed (number value : ℕ) : Type 0 where
  pub found : 0 < value → IsMarkOf number (size_named value)
  pub none : value ≡ 0 → (size : Size) → IsMarkOf number size → ⊥

-- the store that a flash holds is another one, by the value of its mark, or it holds no other
pub record IsValueHeld (ecc : EccDevice) (value : ℕ) : Type 0 where
  pub other : value ≢ mark_value ecc.size → HoldsOther ecc (size_named value)
  pub none : value ≡ mark_value ecc.size → HoldsNoOther ecc

module _ (ecc : EccDevice) (limits : IsWithinLimits ecc.size) where
  own_mark : (number : ℕ) → IsMarkOf number ecc.size → number ≡ coded_number ecc.size plain_mark
  own_mark number mark = mark.is_mark ∙ ap codeword (sym (mark_is ecc.size))

  own_of : (number : ℕ) → number ≡ coded_number ecc.size plain_mark → IsMarkOf number ecc.size
  own_of number is = record {
    within_limits = limits;
    is_mark = is ∙ ap codeword (mark_is ecc.size);
  }

  own_named : (number value : ℕ) → IsValueNamed number value → value ≡ mark_value ecc.size
      → IsMarkOf number ecc.size
  own_named number value named is =
      subst (IsMarkOf number) (named_size ecc.size value limits is)
      (named.found (omega (arith, is, limits.some_words)))

  names_none : (page : ℕ)
      → ((other : Size) → IsMarkOf (mark_read ecc page) other → other ≡ ecc.size)
      → NamesNone ecc page
  names_none page own other names =
      let same : names.number ≡ mark_read ecc page =
      sym (ap (λ (reading : Option ℕ). unwrap_or reading 0) names.reads) in
      names.apart (own other (subst (λ (k : ℕ). IsMarkOf k other) same names.mark))

  -- where a page has the device's own mark, or none, it names no other shape
  before_names_none : (page value : ℕ) → IsValueNamed (mark_read ecc page) value
      → (value ≡ 0) ⊎ (value ≡ mark_value ecc.size) → NamesNone ecc page
  before_names_none page value named (inl none) =
      names_none page (λ other mark. absurd (named.none none other mark))
  before_names_none page value named (inr own) =
      names_none page
      (λ other. one_mark (mark_read ecc page) ecc.size other (own_named _ value named own))

  names_other : (page value : ℕ) → IsValueNamed (mark_read ecc page) value → 0 < value
      → value ≢ mark_value ecc.size → NamesOther ecc page (size_named value)
  names_other page value named some other =
      let mark = named.found some in
      record {
        number = mark_read ecc page;
        reads = mark_stands (ecc_at ecc page 1).reading (size_named value) mark;
        mark = mark;
        apart = λ same.
            let pages : value / 2 ^ 16 ≡ ecc.size.pages = ap (λ (size : Size). size.pages) same in
            let words : value % 2 ^ 16 ≡ ecc.size.words = ap (λ (size : Size). size.words) same in
            other (omega (arith, pages, words));
      }

  module _ (named named_second : ℕ) (first : IsValueNamed (mark_read ecc 0) named)
      (second : IsValueNamed (mark_read ecc ecc.size.pages) named_second) where
    pub first_held : 0 < named → named ≢ mark_value ecc.size → IsValueHeld ecc named
    first_held some other = record {
      other = λ apart. inl (inl (names_other 0 named first some apart));
      none = λ own. absurd (other own);
    }

    pub second_held : 0 < named_second → (named ≡ 0) ⊎ (named ≡ mark_value ecc.size)
        → IsValueHeld ecc named_second
    second_held some before =
        let none_first = before_names_none 0 named first before in
        record {
          other = λ apart. inl (inr (
            none_first,
            names_other ecc.size.pages named_second second some apart,
          ));
          none = λ own. (
            (none_first, before_names_none ecc.size.pages named_second second (inr own)),
            λ plain. plain.not_second (own_mark _ (own_named _ named_second second own)),
          );
        }

    pub plain_held : named ≡ 0 → named_second ≡ 0
        → (mark_read ecc 0 ≡ plain_mark) ⊎ (mark_read ecc ecc.size.pages ≡ plain_mark)
        → IsValueHeld ecc 0
    plain_held none none_second plain = record {
      other = λ apart. inr (
        (
          before_names_none 0 named first (inl none),
          before_names_none ecc.size.pages named_second second (inl none_second),
        ),
        record {
          plain = plain;
          not_first = λ own. first.none none ecc.size (own_of _ own);
          not_second = λ own. second.none none_second ecc.size (own_of _ own);
        },
        refl,
      );
      none = λ own. absurd (omega (arith, own, limits.some_words));
    }

    no_plain_words : (named ≡ 0) ⊎ (named ≡ mark_value ecc.size)
        → (named ≡ 0 → (mark_read ecc 0 ≢ plain_mark)
        × (mark_read ecc ecc.size.pages ≢ plain_mark))
        → HoldsPlainWords ecc → ⊥
    no_plain_words (inr own) no_plain plain =
        plain.not_first (own_mark _ (own_named _ named first own))
    no_plain_words (inl none) no_plain plain =
        let no = no_plain none in
        elim plain.plain [ inl is ↦ no.0 is | inr is ↦ no.1 is ]

    pub own_held : (value : ℕ) → value ≡ mark_value ecc.size
        → (named ≡ 0) ⊎ (named ≡ mark_value ecc.size) → named_second ≡ 0
        → (named ≡ 0 → (mark_read ecc 0 ≢ plain_mark)
        × (mark_read ecc ecc.size.pages ≢ plain_mark))
        → IsValueHeld ecc value
    own_held value is before none_second no_plain = record {
      other = λ apart. absurd (apart is);
      none = λ own. (
        (
          before_names_none 0 named first before,
          before_names_none ecc.size.pages named_second second (inl none_second),
        ),
        no_plain_words before no_plain,
      );
    }

pub value_of_first : (ecc : EccDevice) (page number value : ℕ) (reading : Option ℕ)
    → number ≡ unwrap_or reading 0 → reading ≡ (ecc_at ecc page 1).reading
    → (0 < value → IsMarkOf number (size_named value))
    → (value ≡ 0 → (size : Size) → IsMarkOf number size → ⊥)
    → IsValueNamed (mark_read ecc page) value
value_of_first ecc page number value reading is reads found none =
    let same : number ≡ mark_read ecc page =
    is ∙ ap (λ (read : Option ℕ). unwrap_or read 0) reads in
    subst (λ (k : ℕ). IsValueNamed k value) same (record { found = found; none = none })

pub passed_over : (named own : ℕ) → ((0 < named) × (named ≡ own)) ⊎ (named ≤ 0)
    → (named ≡ 0) ⊎ (named ≡ own)
passed_over named own (inl same) = inr same.1
passed_over named own (inr none) = inl (omega (arith, none))
