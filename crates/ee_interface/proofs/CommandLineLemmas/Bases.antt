-- What eight hexadecimal digits are worth.
use Rattle.std.proofs.Common.{◌≡◌, ℕ, ◌<◌, ◌^◌, List, length, sym, ◌∙◌, ap, arith, Ok}
use Rattle.std.specs.Int.{from_be_bytes, to_be_bytes, w32}
use Rattle.std.proofs.lemmas.Nat.{be_bytes_4, from_be_bytes-to_be_bytes_4}
use Rattle.hex.specs.Hex.{decode_of, decode_sized}
use Rattle.hex.proofs.HexLemmas.{decode_of-ok, decode_sized-ok, decode_sized-twice}
use Rattle.ee_interface.specs.CommandLine.Job.{HasBase}

-- what four bytes are worth has the digits that they were read from
pub base_read : (word bytes : List ℕ) (base : ℕ) → decode_sized word 4 ≡ Ok bytes
    → base ≡ from_be_bytes w32 bytes → HasBase word base
unfolding HasBase
base_read word bytes base read is =
    let long = decode_sized-ok word 4 bytes read in
    let decoded : decode_of word ≡ Ok bytes = sym (decode_sized-twice word 4 long) ∙ read in
    let parts = decode_of-ok word bytes decoded in
    let four : length bytes ≡ 4 = omega (arith, parts.2, long) in
    decoded ∙ ap Ok (sym (be_bytes_4 bytes base four parts.3 is))

-- the digits of a base are read as its four bytes
pub base_spelled : (word : List ℕ) (base : ℕ) → HasBase word base
    → decode_sized word 4 ≡ Ok (to_be_bytes w32 base)
unfolding HasBase
base_spelled word base has =
    let parts = decode_of-ok word (to_be_bytes w32 base) has in
    decode_sized-twice word 4 parts.2 ∙ has

-- digits are those of one base
pub one_base : (word bytes : List ℕ) (base found : ℕ) → base < 2 ^ 32 → HasBase word base
    → decode_sized word 4 ≡ Ok bytes → found ≡ from_be_bytes w32 bytes → found ≡ base
one_base word bytes base found fits has read is =
    let both : Ok bytes ≡ Ok (to_be_bytes w32 base) = sym read ∙ base_spelled word base has in
    let same : bytes ≡ to_be_bytes w32 base = cc in
    is ∙ ap (from_be_bytes w32) same ∙ from_be_bytes-to_be_bytes_4 base fits
