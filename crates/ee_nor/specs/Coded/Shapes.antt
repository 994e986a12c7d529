-- What the mark says of the shape that a flash was written in.
use Rattle.std.specs.Prelude.{◌≡◌, ◌≢◌, ◌⊎◌, ℕ, ◌+◌, ◌*◌, ◌/◌, ◌%◌, ◌^◌, Some, unwrap_or}
use Rattle.ee_flash.specs.Numbers.{header_half}
use Rattle.ee_flash.specs.Size.{IsWithinLimits, Size, size_of}
use Rattle.ee_flash.specs.declared.word.Word.TheVariants.{Torn}
use Rattle.ee_nor.specs.Coded.Code.{codeword}
use Rattle.ee_nor.specs.Coded.Coded.{coded_number, coded_word, mark_payload}
use Rattle.ee_nor.specs.Coded.EccNor.{EccDevice, ecc_at}

-- a number of the flash is the mark of this shape
pub record IsMarkOf (number : ℕ) (size : Size) : Type 0 where
  pub within_limits : IsWithinLimits size
  pub is_mark : number ≡ codeword (mark_payload size)

-- the size whose mark has this value
abbrev pub size_named : ℕ → Size
size_named value = size_of (value / 2 ^ 16) (value % 2 ^ 16)

-- The mark of one shape is torn on a device of another.
abbrev pub OtherMarkIsTorn : Type 0
OtherMarkIsTorn =
    (size other : Size) (number : ℕ) → IsWithinLimits size → IsMarkOf number other → other ≢ size
    → coded_word size number ≡ Torn

-- word 1 of a page reads as the mark of a shape other than the device's
pub record NamesOther (ecc : EccDevice) (page : ℕ) (other : Size) : Type 0 where
  pub number : ℕ
  pub reads : (ecc_at ecc page 1).reading ≡ Some number
  pub mark : IsMarkOf number other
  pub apart : other ≢ ecc.size

abbrev pub NamesNone : EccDevice → ℕ → Type 0
NamesNone ecc page = (other : Size) → NamesOther ecc page other → ⊥

-- The first page of a set names this other shape: that of set 0, which stands at the same place in
-- each shape, or, where it names none, that of set 1 where this shape has it.
abbrev pub IsOtherShape : EccDevice → Size → Type 0
IsOtherShape ecc other =
    NamesOther ecc 0 other ⊎ (NamesNone ecc 0 × NamesOther ecc ecc.size.pages other)

-- neither names one
abbrev pub IsOfNoOtherShape : EccDevice → Type 0
IsOfNoOtherShape ecc = NamesNone ecc 0 × NamesNone ecc ecc.size.pages

-- ---- plain words

-- the mark of a store of plain words, which says no shape
abbrev pub plain_mark : ℕ
plain_mark = header_half * 2 ^ 32 + header_half

-- what word 1 of a page reads as, 0 where it can't be read
abbrev pub mark_read : EccDevice → ℕ → ℕ
mark_read ecc page = unwrap_or (ecc_at ecc page 1).reading 0

-- A store of plain words: the first page of a set has their mark, and neither has that of this
-- shape.
pub record HoldsPlainWords (ecc : EccDevice) : Type 0 where
  pub plain : (mark_read ecc 0 ≡ plain_mark) ⊎ (mark_read ecc ecc.size.pages ≡ plain_mark)
  pub not_first : mark_read ecc 0 ≢ coded_number ecc.size plain_mark
  pub not_second : mark_read ecc ecc.size.pages ≢ coded_number ecc.size plain_mark

-- The flash holds a store that isn't one of coded words of this shape: one of another shape, or,
-- with no page and no word, one of plain words.
abbrev pub HoldsOther : EccDevice → Size → Type 0
HoldsOther ecc other =
    IsOtherShape ecc other ⊎ (IsOfNoOtherShape ecc × HoldsPlainWords ecc × (other ≡ size_of 0 0))

abbrev pub HoldsNoOther : EccDevice → Type 0
HoldsNoOther ecc = IsOfNoOtherShape ecc × (HoldsPlainWords ecc → ⊥)
