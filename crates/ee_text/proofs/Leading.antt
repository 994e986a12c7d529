-- Numbers that stand at the front of a text.
use Rattle.std.proofs.Common.{◌≡◌, ◌⊎◌, ◌∙◌, ℕ, zero, suc, ◌+◌, ◌-◌, ◌*◌, ◌^◌, ◌<◌, ◌≤◌, ◌++◌, List, [], ◌∷◌, length, get_or, min, take, drop, inl, inr, refl, sym, ap, subst, arith, decimal, length-drop, take-append-drop, rules}
use Rattle.std.specs.Char.{digit_value}
use Rattle.std.specs.Str.Parse.{AllDigits, digits_value}
use Rattle.std.proofs.lemmas.Fmt.{decimal-digits_value, decimal_is_IsNumeral, decimal_nonempty, length-decimal-le}
use Rattle.std.proofs.lemmas.Bool.{cases_lt}
use Rattle.std.proofs.lemmas.Grind.{common_steps}
use Rattle.std.proofs.lemmas.Int.Digits.{digits_value_more}
use Rattle.std.proofs.lemmas.List.{drop-take, length-take, length-take-le, take-take, take_all, take_more}
use Rattle.std.proofs.lemmas.Str.Parse.{digits_value_short}
use Rattle.ee_text.specs.Number.{IsWorth, StartsWithNoDigit}
use Rattle.ee_text.proofs.Digits.{digit_value_is, own, zero_alone}

not_a_digit : (byte : ℕ) → (byte < 48) ⊎ (57 < byte) → digit_value byte < 10 → ⊥
not_a_digit byte (inl low) digit = grind (arith, common_steps)
not_a_digit byte (inr high) digit = grind (arith, common_steps)

AllDigits-snoc : (xs : List ℕ) (x : ℕ) → AllDigits 10 xs → digit_value x < 10
    → AllDigits 10 (xs ++ x ∷ [])
AllDigits-snoc [] x all digit = (digit, tt)
AllDigits-snoc (y ∷ xs) x all digit = (all.0, AllDigits-snoc xs x all.1 digit)

-- one digit more
pub worth_more : (text : List ℕ) (count value : ℕ) → count < length text → 48 ≤ get_or text count 0
    → get_or text count 0 ≤ 57 → IsWorth text count value
    → IsWorth text (count + 1) (value * 10 + (get_or text count 0 - 48))
worth_more text count value below low high worth =
    let worth_of : digit_value (get_or text count 0) ≡ get_or text count 0 - 48 =
    digit_value_is (get_or text count 0) low high in
    record {
      within = omega arith;
      digits =
          subst (AllDigits 10) (sym (take_more text count 0 below))
          (AllDigits-snoc (take count text) (get_or text count 0) worth.digits (omega arith));
      value_is = omega (arith, digits_value_more 10 text count below, worth.value_is);
    }

-- ---- one number at the front

-- digits up to what is no digit are told from what follows
same_front : (xs ys ds rest : List ℕ) → AllDigits 10 xs → StartsWithNoDigit ys → AllDigits 10 ds
    → StartsWithNoDigit rest → xs ++ ys ≡ ds ++ rest → (xs ≡ ds) × (ys ≡ rest)
same_front [] ys [] rest all ends are stop e = (refl, e)
same_front [] [] (d ∷ ds) rest all ends are stop e = absurd (omega (arith, ap length e))
same_front [] (y ∷ ys) (d ∷ ds) rest all ends are stop e =
    absurd
    (not_a_digit y ends
    (subst (λ b. digit_value b < 10) (sym (ap (λ l. get_or l 0 0) e)) are.0))
same_front (x ∷ xs) ys [] [] all ends are stop e = absurd (omega (arith, ap length e))
same_front (x ∷ xs) ys [] (r ∷ rest) all ends are stop e =
    absurd (not_a_digit r stop (subst (λ b. digit_value b < 10) (ap (λ l. get_or l 0 0) e) all.0))
same_front (x ∷ xs) ys (d ∷ ds) rest all ends are stop e =
    let first : x ≡ d = ap (λ l. get_or l 0 0) e in
    let behind : xs ++ ys ≡ ds ++ rest = ap (drop 1) e in
    let same = same_front xs ys ds rest all.1 ends are.1 stop behind in
    let others = same.0 in
    (cc, same.1)

-- digits at the front are a front of the number there
front_of : (xs ys ds rest : List ℕ) → AllDigits 10 xs → AllDigits 10 ds → StartsWithNoDigit rest
    → xs ++ ys ≡ ds ++ rest → (length xs ≤ length ds) × (xs ≡ take (length xs) ds)
front_of [] ys ds rest all are stop e = (omega arith, refl)
front_of (x ∷ xs) ys [] [] all are stop e = absurd (omega (arith, ap length e))
front_of (x ∷ xs) ys [] (r ∷ rest) all are stop e =
    absurd (not_a_digit r stop (subst (λ b. digit_value b < 10) (ap (λ l. get_or l 0 0) e) all.0))
front_of (x ∷ xs) ys (d ∷ ds) rest all are stop e =
    let first : x ≡ d = ap (λ l. get_or l 0 0) e in
    let behind : xs ++ ys ≡ ds ++ rest = ap (drop 1) e in
    let same = front_of xs ys ds rest all.1 are.1 stop behind in
    let others = same.1 in
    (omega (arith, same.0), cc)

-- so many digits stand at the front of no number that 32 bits hold
pub no_number : (text behind : List ℕ) (value n : ℕ) → IsWorth text 19 value → n < 2 ^ 32
    → StartsWithNoDigit behind → text ≡ decimal n ++ behind → ⊥
no_number text behind value n worth fits ends e =
    let numeral = decimal_is_IsNumeral n (omega arith) in
    let front =
    front_of (take 19 text) (drop 19 text) (decimal n) behind worth.digits numeral.0.1 ends
    (take-append-drop 19 text ∙ e) in
    let short : length (decimal n) ≤ 10 =
    length-decimal-le 10 n (omega arith) (omega arith) (omega arith) in
    omega (arith, front.0, short, length-take-le 19 text worth.within)

-- what fewer digits are worth, 64 bits hold with one digit more
pub room_for_one : (text : List ℕ) (count value : ℕ) → IsWorth text count value → count < 19
    → value < 10 ^ 18
room_for_one text count value worth few =
    let long : length (take count text) ≤ 18 =
    omega (arith, length-take-le count text worth.within) in
    omega (arith, worth.value_is, digits_value_short own (take count text) 18 worth.digits long)

-- digits at the front of a front
pub worth_in_front : (text : List ℕ) (most count value : ℕ) → IsWorth (take most text) count value
    → IsWorth text count value
worth_in_front text most count value worth = search (rules, arith, length-take, take-take)

starts_so : (n : ℕ) (ys : List ℕ) → 0 < n → StartsWithNoDigit (take n ys) → StartsWithNoDigit ys
starts_so zero ys some ends = absurd (omega arith)
starts_so (suc n) [] some ends = tt
starts_so (suc n) (y ∷ ys) some ends = ends

-- and if they don't fill it, no digit follows
pub ends_in_front : (text : List ℕ) (most count : ℕ) → count < most
    → StartsWithNoDigit (drop count (take most text)) → StartsWithNoDigit (drop count text)
ends_in_front text most count few ends =
    let parts : count + (most - count) ≡ most = omega arith in
    let taken : drop count (take most text) ≡ take (most - count) (drop count text) =
    subst (λ n. drop count (take n text) ≡ take (most - count) (drop count text)) parts
    (drop-take count (most - count) text) in
    starts_so (most - count) (drop count text) (omega arith) (subst StartsWithNoDigit taken ends)

-- the front that is looked at
pub front_is : (text : List ℕ) (bound : ℕ) → bound ≡ min (length text) 19
    → take bound text ≡ take 19 text
front_is text bound e = search (rules, arith, cases_lt, take_all)

-- the number at the front is what the digits there are worth
pub one_number : (text behind : List ℕ) (count value n : ℕ) → IsWorth text count value
    → StartsWithNoDigit (drop count text) → n < 2 ^ 64 → StartsWithNoDigit behind
    → text ≡ decimal n ++ behind
    → (value ≡ n) × (drop count text ≡ behind) × (take count text ≡ decimal n)
one_number text behind count value n worth stop fits ends e =
    search (rules, decimal, decimal_is_IsNumeral, same_front, take-append-drop)

-- digits with no zero in front of others are a number, the one that they are worth
pub spelled : (text : List ℕ) (count value : ℕ) → IsWorth text count value → value < 2 ^ 64
    → 0 < length (take count text)
    → (get_or (take count text) 0 0 ≡ 48 → length (take count text) ≡ 1)
    → text ≡ decimal value ++ drop count text
spelled text count value worth fits some alone =
    let small : digits_value 10 (take count text) < 2 ^ 64 = omega (arith, worth.value_is) in
    sym (take-append-drop count text)
    ∙ ap (λ front. front ++ drop count text)
    (sym (decimal-digits_value own (take count text) worth.digits some alone small)
    ∙ ap decimal (sym worth.value_is))

-- and others are none
pub not_spelled : (digits : List ℕ) (n : ℕ) → n < 2 ^ 64
    → (length digits ≡ 0) ⊎ ((get_or digits 0 0 ≡ 48) × (1 < length digits)) → digits ≡ decimal n
    → ⊥
not_spelled digits n fits (inl none) e = omega (arith, decimal_nonempty n fits, ap length e)
not_spelled digits n fits (inr first) e =
    omega
    (arith, zero_alone n fits (ap (λ l. get_or l 0 0) (sym e) ∙ first.0), ap length e, first.1)

-- the rest of a text, as a slice takes it
pub rest_is : (text : List ℕ) (count : ℕ)
    → take (length text - count) (drop count text) ≡ drop count text
rest_is text count =
    take_all (length text - count) (drop count text) (omega (arith, length-drop count text))
