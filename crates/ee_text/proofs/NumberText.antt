-- How a number stands in a text.
use Rattle.std.proofs.Common.{ℕ, ◌<◌, ◌≤◌, ◌^◌, length, arith, inl}
use Rattle.std.specs.Fmt.{decimal}
use Rattle.std.proofs.lemmas.Fmt.{decimal_nonempty, length-decimal-le}
use Rattle.ee_text.specs.Field.{IsField}
use Rattle.ee_text.specs.Line.{IsLine}
use Rattle.ee_text.specs.Laws.{IsNumberField}
use Rattle.ee_text.proofs.Lacking.{Lacks-decimal}

-- a number is a field
pub IsField-decimal : (n : ℕ) → n < 2 ^ 64 → IsField (decimal n)
IsField-decimal n fits = Lacks-decimal 32 n (inl (omega arith)) fits

-- and stands in a line
pub IsLine-decimal : (n : ℕ) → n < 2 ^ 64 → IsLine (decimal n)
IsLine-decimal n fits = Lacks-decimal 10 n (inl (omega arith)) fits

pub length-decimal-u64 : (n : ℕ) → n < 2 ^ 64 → length (decimal n) ≤ 20
length-decimal-u64 n fits = length-decimal-le 20 n (omega arith) (omega arith) fits

pub number_is_field : (n : ℕ) → n < 2 ^ 64 → IsNumberField (decimal n)
number_is_field n fits = record {
  field = IsField-decimal n fits;
  in_line = IsLine-decimal n fits;
  some = decimal_nonempty n fits;
  short = length-decimal-u64 n fits;
}
