-- Digits read from the front, and the numbers that they write.
use Rattle.std.proofs.Common.{◌≡◌, ℕ, ◌+◌, ◌-◌, ◌*◌, ◌^◌, ◌<◌, ◌≤◌, List, [], ◌∷◌, length, get_or, drop, sym, ◌∙◌, ap, subst, arith, add-one, drop-cons, Some, None, rules}
use Rattle.std.specs.Prelude.{Option, IfSome}
use Rattle.std.specs.Option.{SomeIff}
use Rattle.std.specs.Char.{digit_value}
use Rattle.std.specs.Str.Parse.{AllDigits, digits_value_after, digits_value}
use Rattle.std.specs.Fmt.{decimal}
use Rattle.std.proofs.lemmas.Bool.{cases_lt}
use Rattle.std.proofs.lemmas.Fmt.{decimal_is_IsNumeral, decimal-digits_value, decimal_digit, decimal_nonempty, first_decimal}
use Rattle.std.proofs.lemmas.Grind.{common_steps}
use Rattle.std.proofs.lemmas.List.{drop_all}
use Rattle.std.proofs.lemmas.Str.Parse.{IsNumeralModel, numerals_by_value, tells_digits}

pub own : IsNumeralModel (AllDigits 10) (digits_value 10)
own = numerals_by_value _ tells_digits

-- what is read so far is worth `value`, and `rest` is left of `all`
pub record IsReadUpTo (all rest : List ℕ) (value : ℕ) : Type 0 where
  pub same : digits_value_after 10 value rest ≡ digits_value 10 all
  pub front : AllDigits 10 rest → AllDigits 10 all
  pub back : AllDigits 10 all → AllDigits 10 rest

pub digit_value_is : (b : ℕ) → 48 ≤ b → b ≤ 57 → digit_value b ≡ b - 48
digit_value_is b low high = grind (arith, common_steps)

-- digits that follow a number make it no smaller
digits_value_after-ge : (n : ℕ) (ds : List ℕ) → n ≤ digits_value_after 10 n ds
digits_value_after-ge n [] = omega arith
digits_value_after-ge n (c ∷ cs) = omega (arith, digits_value_after-ge (n * 10 + digit_value c) cs)

step_cons : (all : List ℕ) (b : ℕ) (bs : List ℕ) (value : ℕ) → 48 ≤ b → b ≤ 57
    → IsReadUpTo all (b ∷ bs) value → IsReadUpTo all bs (value * 10 + (b - 48))
step_cons all b bs value low high read = search (rules, arith, digit_value_is)

-- one digit more
step : (all : List ℕ) (i value : ℕ) → i < length all → 48 ≤ get_or all i 0 → get_or all i 0 ≤ 57
    → IsReadUpTo all (drop i all) value
    → IsReadUpTo all (drop (i + 1) all) (value * 10 + (get_or all i 0 - 48))
step all i value h low high read =
    let e : drop i all ≡ get_or all i 0 ∷ drop (i + 1) all = rw add-one (drop-cons all i 0 h) in
    step_cons all (get_or all i 0) (drop (i + 1) all) value low high
    (subst (λ l. IsReadUpTo all l value) e read)

-- where one digit more does not fit, the whole does not
pub too_large : (all : List ℕ) (i value : ℕ) → i < length all → 48 ≤ get_or all i 0
    → get_or all i 0 ≤ 57 → IsReadUpTo all (drop i all) value
    → 2 ^ 64 ≤ value * 10 + (get_or all i 0 - 48)
    → ¬ (AllDigits 10 all × (digits_value 10 all < 2 ^ 64))
too_large all i value h low high read large p =
    let next = value * 10 + (get_or all i 0 - 48) in
    let more = step all i value h low high read in
    omega (arith, digits_value_after-ge next (drop (i + 1) all), more.same, p.1)

-- where nothing is left, the whole is read
pub whole : (all : List ℕ) (i value : ℕ) → length all ≤ i → IsReadUpTo all (drop i all) value
    → AllDigits 10 all × (value ≡ digits_value 10 all)
whole all i value h read = search (rules, drop_all)

-- a number of two digits or more has no zero in front
pub zero_alone : (n : ℕ) → n < 2 ^ 64 → get_or (decimal n) 0 0 ≡ 48 → length (decimal n) ≡ 1
zero_alone n fits h = search (rules, arith, cases_lt, decimal_digit, first_decimal)

-- no number is written by nothing
pub not_empty : (field : List ℕ) → length field ≡ 0 → (n : ℕ) → n < 2 ^ 64 → ¬ (field ≡ decimal n)
not_empty field empty n fits e = omega (arith, decimal_nonempty n fits, ap length e)

-- and none with a zero in front of other digits
pub no_leading_zero : (field bs : List ℕ) (b : ℕ) → field ≡ b ∷ bs → b ≡ 48 → 0 < length bs
    → (n : ℕ) → n < 2 ^ 64 → ¬ (field ≡ decimal n)
no_leading_zero field bs b parts zero more n fits e =
    let same : decimal n ≡ b ∷ bs = sym e ∙ parts in
    omega (arith, zero_alone n fits (ap (λ l. get_or l 0 0) same ∙ zero), ap length same)

-- what the digits are worth is written so
pub found : (field bs : List ℕ) (b : ℕ) (r : Option ℕ) → field ≡ b ∷ bs → (b ≡ 48 → length bs ≡ 0)
    → SomeIff r (AllDigits 10 field × (digits_value 10 field < 2 ^ 64)) (digits_value 10 field)
    → IfSome r (λ n. field ≡ decimal n)
found field bs b None parts plain h = tt
found field bs b (Some n) parts plain h =
    let some : 0 < length field = omega (arith, ap length parts) in
    let alone : get_or field 0 0 ≡ 48 → length field ≡ 1 =
    λ zero. omega (arith, ap length parts, plain (sym (ap (λ l. get_or l 0 0) parts) ∙ zero)) in
    sym (decimal-digits_value own field h.0.0 some alone h.0.1) ∙ ap decimal (sym h.1)

-- what is written as a number is worth that number
pub only : (field : List ℕ) (r : Option ℕ)
    → SomeIff r (AllDigits 10 field × (digits_value 10 field < 2 ^ 64)) (digits_value 10 field)
    → (n : ℕ) → n < 2 ^ 64 → field ≡ decimal n → r ≡ Some n
only field None h n fits e =
    let d = decimal_is_IsNumeral n fits in
    absurd (h (rw e (d.0.1, rw d.1 fits)))
only field (Some m) h n fits e =
    let d = decimal_is_IsNumeral n fits in
    ap Some (h.1 ∙ ap (digits_value 10) e ∙ d.1)
