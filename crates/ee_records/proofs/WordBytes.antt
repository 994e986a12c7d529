-- The bytes of a word.
use Rattle.std.proofs.Common.{◌≡◌, ◌∙◌, ◌<◌, ◌+◌, ◌*◌, ◌/◌, ◌%◌, ℕ, zero, suc, List, ap, arith, Some, slice_index}
use Rattle.std.proofs.lemmas.Bool.Decides.{nat_tests}
use Rattle.ee_records.specs.Check.{bytes_word}
use Rattle.ee_records.specs.Record.{HasByte, byte_of, record_word}

-- four bytes in a number
bytes_of : (byte : ℕ → ℕ) → ((k : ℕ) → byte k < 256) → (k : ℕ) → k < 4
    → byte_of (byte 0 + 256 * byte 1 + 65536 * byte 2 + 16777216 * byte 3) k ≡ byte k
bytes_of byte fit zero h = omega (arith, fit 0, fit 1, fit 2, fit 3)
bytes_of byte fit (suc zero) h = omega (arith, fit 0, fit 1, fit 2, fit 3)
bytes_of byte fit (suc (suc zero)) h = omega (arith, fit 0, fit 1, fit 2, fit 3)
bytes_of byte fit (suc (suc (suc zero))) h = omega (arith, fit 0, fit 1, fit 2, fit 3)
bytes_of byte fit (suc (suc (suc (suc k)))) h = absurd (omega arith)

-- each number of these bytes is a byte
abbrev pub AreBytes : List ℕ → Type 0
AreBytes bytes = (at : ℕ) → slice_index bytes at < 256

pub byte_in : (bytes : List ℕ) → AreBytes bytes → (word k : ℕ) → k < 4
    → byte_of (bytes_word bytes word) k ≡ slice_index bytes (4 * word + k)
byte_in bytes fit word k h =
    let first : 4 * word + 0 ≡ 4 * word = omega arith in
    rw first at (bytes_of (λ at. slice_index bytes (4 * word + at)) (λ at. fit (4 * word + at)) k h)

pub split : (at : ℕ) → 4 * (at / 4) + at % 4 ≡ at
split at = omega arith

pub below_four : (at : ℕ) → at % 4 < 4
below_four at = omega arith

pub word_behind_check : (bytes : List ℕ) (word : ℕ)
    → record_word bytes (word + 1) ≡ bytes_word bytes word
word_behind_check bytes word = grind (arith, nat_tests)

-- a word of bytes has each of them at its place
pub has_byte : (bytes : List ℕ) → AreBytes bytes → (at : ℕ)
    → HasByte (Some (record_word bytes (at / 4 + 1))) (at % 4) (slice_index bytes at)
has_byte bytes fit at =
    ap (λ v. byte_of v (at % 4)) (word_behind_check bytes (at / 4))
    ∙ (byte_in bytes fit (at / 4) (at % 4) (below_four at) ∙ ap (slice_index bytes) (split at))
