-- What the reader of a text answers.
use Rattle.std.proofs.Common.{◌≡◌, ◌⊎◌, ℕ, List, sym, ap, subst, inl, Option, None, Result, Ok, Err}
use Rattle.std.specs.Prelude.{replicate}
use Rattle.ee_shell.specs.Dumps.intel_hex.Text.{IsHexOf}
use Rattle.ee_shell.specs.Dumps.intel_hex.Fault.{IsBadHexLine}
use Rattle.ee_shell.specs.Dumps.intel_hex.Reading.{bytes_of, cells_of_lines, lines_in}
use Rattle.ee_shell.specs.declared.dumps.intel_hex.fault.HexFault.TheVariants.{BadLine, Memory}
use Rattle.ee_shell.proofs.dumps.intel_hex.Judging.{Told, is_told, judgement, one_bad_line_lem, one_reading_lem, readings_are_good_lem}

began : (text : List ℕ) (base size from upper : ℕ) (cells : List (Option ℕ))
    (r : Result (List (Option ℕ)) ℕ)
    → from ≡ base → upper ≡ 0 → cells ≡ replicate size None
    → cells_of_lines from 1 upper cells (lines_in text) ≡ r → judgement text base size ≡ r
began text base size from upper cells r from_is upper_is cells_are e = cc

-- the bytes of the part, where the reader came to the end
pub was_read : (text bytes : List ℕ) (base size from upper : ℕ) (cells new : List (Option ℕ))
    → from ≡ base → upper ≡ 0 → cells ≡ replicate size None
    → cells_of_lines from 1 upper cells (lines_in text) ≡ Ok new → bytes ≡ bytes_of new
    → IsHexOf text base size bytes
was_read text bytes base size from upper cells new from_is upper_is cells_are e are =
    subst (IsHexOf text base size) (sym are)
    (subst (Told text base size)
    (began text base size from upper cells (Ok new) from_is upper_is cells_are e)
    (is_told text base size))

pub was_only : (text bytes : List ℕ) (base size from upper : ℕ) (cells new : List (Option ℕ))
    → from ≡ base → upper ≡ 0 → cells ≡ replicate size None
    → cells_of_lines from 1 upper cells (lines_in text) ≡ Ok new → bytes ≡ bytes_of new
    → (others : List ℕ) → IsHexOf text base size others → bytes ≡ others
was_only text bytes base size from upper cells new from_is upper_is cells_are e are others is =
    one_reading_lem text bytes others base size
    (was_read text bytes base size from upper cells new from_is upper_is cells_are e are) is

pub was_good : (text bytes : List ℕ) (base size from upper : ℕ) (cells new : List (Option ℕ))
    → from ≡ base → upper ≡ 0 → cells ≡ replicate size None
    → cells_of_lines from 1 upper cells (lines_in text) ≡ Ok new → bytes ≡ bytes_of new → (n : ℕ)
    → IsBadHexLine text base size n → ⊥
was_good text bytes base size from upper cells new from_is upper_is cells_are e are n bad =
    readings_are_good_lem text bytes base size n
    (was_read text bytes base size from upper cells new from_is upper_is cells_are e are) bad

-- the first bad line, where it came to one
pub was_bad : (text : List ℕ) (base size from upper n : ℕ) (cells : List (Option ℕ)) → from ≡ base
    → upper ≡ 0 → cells ≡ replicate size None
    → cells_of_lines from 1 upper cells (lines_in text) ≡ Err n → IsBadHexLine text base size n
was_bad text base size from upper n cells from_is upper_is cells_are e =
    subst (Told text base size)
    (began text base size from upper cells (Err n) from_is upper_is cells_are e)
    (is_told text base size)

pub was_no_reading : (text : List ℕ) (base size from upper n : ℕ) (cells : List (Option ℕ))
    → from ≡ base → upper ≡ 0 → cells ≡ replicate size None
    → cells_of_lines from 1 upper cells (lines_in text) ≡ Err n → (others : List ℕ)
    → IsHexOf text base size others → BadLine n ≡ Memory
was_no_reading text base size from upper n cells from_is upper_is cells_are e others is =
    absurd
    (readings_are_good_lem text others base size n is
    (was_bad text base size from upper n cells from_is upper_is cells_are e))

pub was_named : (text : List ℕ) (base size from upper n : ℕ) (cells : List (Option ℕ)) → from ≡ base
    → upper ≡ 0 → cells ≡ replicate size None
    → cells_of_lines from 1 upper cells (lines_in text) ≡ Err n → (m : ℕ)
    → IsBadHexLine text base size m → (BadLine n ≡ BadLine m) ⊎ (BadLine n ≡ Memory)
was_named text base size from upper n cells from_is upper_is cells_are e m bad =
    inl
    (ap BadLine
    (one_bad_line_lem text base size n m
    (was_bad text base size from upper n cells from_is upper_is cells_are e) bad))

-- for the reader of a text
pub ruleset answering = (was_read, was_only, was_good, was_bad, was_no_reading, was_named)
