-- Digits decoded by what each is worth, with the refusal of others put off to the end.
use Rattle.std.proofs.Common.{rules, ◌≡◌, ◌⊎◌, ℕ, zero, suc, ◌+◌, ◌*◌, ◌%◌, ◌<◌, ◌≤◌, List, [], ◌∷◌, length, get_or, set, take, drop, refl, sym, ap, ◌∙◌, arith, inl, inr, Option, Some, None, Ok, Err}
use Rattle.std.specs.Int.Bits.{bit_or}
use Rattle.std.specs.Option.{unwrap_or}
use Rattle.std.proofs.lemmas.Bool.{cases_lt}
use Rattle.std.proofs.lemmas.Nat.{le_or_l, le_or_r, or_lt, or_shifted}
use Rattle.hex.specs.Hex.{decode_of, decode_pairs, hex_digit_value, pair_value}
use Rattle.hex.specs.declared.error.FromHexError.{FromHexError}
use Rattle.hex.specs.declared.error.FromHexError.TheVariants.{InvalidHexCharacter}
use Rattle.hex.proofs.Pairs.{decode_done, decode_err, decode_step, prepend}

-- what a byte is worth as a digit, and 255 where it is none
abbrev pub worth : ℕ → ℕ
worth byte = unwrap_or (hex_digit_value byte) 255

-- what n bytes are worth, one after another
abbrev pub worths : ℕ → ℕ → List ℕ
worths byte zero = []
worths byte (suc n) = worth byte ∷ worths (byte + 1) n

worths_at : (first n i : ℕ) → i < n → get_or (worths first n) i 0 ≡ worth (first + i)
worths_at first zero i less = absurd (omega arith)
worths_at first (suc n) zero less = let same : first ≡ first + 0 = omega arith in ap worth same
worths_at first (suc n) (suc i) less =
    let same : first + 1 + i ≡ first + suc i = omega arith in
    worths_at (first + 1) n i (omega arith) ∙ ap worth same

-- at its own place in the table of all bytes
pub worth_found : (byte at : ℕ) → at ≡ byte → byte < 256 → get_or (worths 0 256) at 0 ≡ worth byte
worth_found byte at same less =
    let here : 0 + at ≡ byte = omega arith in
    worths_at 0 256 at (omega arith) ∙ ap worth here

-- ---- a pair of digits

digit_found : (o : Option ℕ) (v : ℕ) → v ≡ unwrap_or o 255 → v < 16 → o ≡ Some v
digit_found (Some w) v is small = ap Some (sym is)
digit_found None v is small = absurd (omega arith)

digit_missing : (byte v : ℕ) → v ≡ worth byte → 16 ≤ v → hex_digit_value byte ≡ None
digit_missing byte v is large = grind arith

pair_found : (a b i high low : ℕ) → high ≡ worth a → low ≡ worth b → high < 16 → low < 16
    → pair_value a b i ≡ Ok (high * 16 + low)
pair_found a b i high low high_is low_is first second =
    rw (
      digit_found (hex_digit_value a) high high_is first,
      digit_found (hex_digit_value b) low low_is second,
    ) refl

pair_missing : (a b i high low : ℕ) → high ≡ worth a → low ≡ worth b → (16 ≤ high) ⊎ (16 ≤ low)
    → (e : FromHexError) × (pair_value a b i ≡ Err e)
pair_missing a b i high low high_is low_is (inl first) =
    (InvalidHexCharacter a i, rw (digit_missing a high high_is first) refl)
pair_missing a b i high low high_is low_is (inr second) =
    elim (cases_lt high 16) [
      | inl small ↦ (
        InvalidHexCharacter b (i + 1),
        rw (
          digit_found (hex_digit_value a) high high_is small,
          digit_missing b low low_is second,
        ) refl,
      )
      | inr large ↦ (InvalidHexCharacter a i, rw (digit_missing a high high_is large) refl)
    ]

-- ---- the loop: what was seen is below 16 as long as all were digits

-- the bytes so far, and what is left to decode
abbrev pub Decoded : List ℕ → ℕ → List ℕ → Type 0
Decoded digits i bytes =
    decode_pairs 0 digits ≡ prepend (take i bytes) (decode_pairs (2 * i) (drop (2 * i) digits))

abbrev pub IsRefused : List ℕ → Type 0
IsRefused digits = (others : List ℕ) → decode_pairs 0 digits ≡ Ok others → ⊥

small_or : (seen high low : ℕ) → bit_or seen (bit_or high low) < 16
    → (seen < 16) × (high < 16) × (low < 16)
small_or seen high low small = search (rules, le_or_l, le_or_r)

joined : (high low : ℕ) → high < 16 → low < 16 → bit_or (high * 16 % 256) low ≡ high * 16 + low
joined high low first second =
    let same : high * 16 % 256 ≡ high * 16 = omega arith in
    ap (λ h. bit_or h low) same ∙ or_shifted high 4 low second

pub one_pair_more : (digits bytes : List ℕ) (i seen high low : ℕ) → 2 * i + 1 < length digits
    → i < length bytes → high ≡ worth (get_or digits (2 * i) 0)
    → low ≡ worth (get_or digits (2 * i + 1) 0) → (seen < 16 → Decoded digits i bytes)
    → bit_or seen (bit_or high low) < 16
    → Decoded digits (i + 1) (set bytes i (bit_or (high * 16 % 256) low))
one_pair_more digits bytes i seen high low fits room high_is low_is so_far small =
    search (rules, small_or, decode_step, pair_found, joined)

all_small : (seen high low : ℕ) → seen < 16 → high < 16 → low < 16
    → bit_or seen (bit_or high low) < 16
all_small seen high low a b c = or_lt 4 seen (bit_or high low) a (or_lt 4 high low b c)

pub no_pair_more : (digits bytes : List ℕ) (i seen high low : ℕ) → 2 * i + 1 < length digits
    → high ≡ worth (get_or digits (2 * i) 0) → low ≡ worth (get_or digits (2 * i + 1) 0)
    → (seen < 16 → Decoded digits i bytes) → (16 ≤ seen → IsRefused digits)
    → 16 ≤ bit_or seen (bit_or high low) → IsRefused digits
no_pair_more digits bytes i seen high low fits high_is low_is so_far before large =
    elim (cases_lt seen 16) [
      | inr was ↦ before was
      | inl small ↦
          let missing : (16 ≤ high) ⊎ (16 ≤ low) = elim (cases_lt high 16) [
            | inr first ↦ inl first
            | inl first ↦ elim (cases_lt low 16) [
              | inr second ↦ inr second
              | inl second ↦ let all =
                  all_small seen high low small first second in absurd (omega arith)
            ]
          ] in
          let bad =
          pair_missing (get_or digits (2 * i) 0) (get_or digits (2 * i + 1) 0) (2 * i) high low
          high_is low_is missing in
          λ others good. cc (sym (decode_err digits bytes i bad.0 fits bad.1 (so_far small)) ∙ good)
    ]

-- ---- all of them

pub all_decoded : (digits bytes : List ℕ) (i seen : ℕ) → length digits ≡ 2 * length bytes
    → length bytes ≤ i → (seen < 16 → Decoded digits i bytes) → seen < 16
    → decode_of digits ≡ Ok bytes
all_decoded digits bytes i seen long past so_far small = search (rules, decode_done)
