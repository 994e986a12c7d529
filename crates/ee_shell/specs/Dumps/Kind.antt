-- What the marks of a dump tell of its form.
use Rattle.std.specs.Prelude.{◌≡◌, ◌⊎◌, ℕ, ◌/◌, List, [], length, take, drop, slice_index_or}
use Rattle.std.specs.Int.{from_le_bytes, w64}
use Rattle.std.specs.Simd.{first_chunks}
use Rattle.ee_codec.specs.Words.{mark_number}
use Rattle.ee_flash.specs.Size.{Size, size_of}
use Rattle.ee_nor.specs.Coded.Shapes.{IsMarkOf}
use Rattle.ee_nor.specs.Pairs.{complement}
use Rattle.ee_interface.specs.declared.command_line.form.Form.{Form}
use Rattle.ee_interface.specs.declared.command_line.form.Form.TheVariants as form
use Rattle.ee_shell.specs.declared.dumps.kind.Marking.{Marking}
use Rattle.ee_shell.specs.declared.dumps.kind.Marking.TheVariants.{Words, Pairs, Coded}

-- the number of eight bytes, the least first; 0 past the end
abbrev pub bytes_number : List ℕ → ℕ → ℕ
bytes_number bytes at =
    from_le_bytes w64 (slice_index_or (first_chunks 8 (length bytes / 8) bytes) at [])

-- the second word of a set is its mark: itself, itself beside its complement, or its coded word
abbrev pub HasMark : List ℕ → Marking → Type 0
HasMark set Words = bytes_number set 1 ≡ mark_number
HasMark set Pairs = (bytes_number set 2 ≡ mark_number) × (bytes_number set 3 ≡ complement mark_number)
HasMark set (Coded pages words) = IsMarkOf (bytes_number set 1) (size_of pages words)

-- the first of the three that a set has
abbrev pub Tells : List ℕ → Marking → Type 0
Tells set Words = HasMark set Words
Tells set Pairs = (¬ HasMark set Words) × HasMark set Pairs
Tells set (Coded pages words) =
    (¬ HasMark set Words) × (¬ HasMark set Pairs) × HasMark set (Coded pages words)

-- it is that of a part of this form and size
abbrev pub IsAsked : Form → Size → Marking → Type 0
IsAsked form.Words size Words = Unit {0}
IsAsked form.Pairs size Pairs = Unit {0}
IsAsked form.Coded size (Coded pages words) = size_of pages words ≡ size
IsAsked asked size marking = ⊥

-- a set tells another
abbrev pub TellsOther : Form → Size → List ℕ → Marking → Type 0
TellsOther asked size set marking = Tells set marking × (¬ IsAsked asked size marking)

-- the bytes of each set: a half
abbrev pub first_half : List ℕ → List ℕ
first_half dump = take (length dump / 2) dump

abbrev pub second_half : List ℕ → List ℕ
second_half dump = drop (length dump / 2) dump

-- the first of them that tells another tells this
abbrev pub IsOfOtherKind : Form → Size → List ℕ → Marking → Type 0
IsOfOtherKind asked size dump marking =
    TellsOther asked size (first_half dump) marking
    ⊎ (((other : Marking) → ¬ TellsOther asked size (first_half dump) other)
    × TellsOther asked size (second_half dump) marking)

-- none does
abbrev pub IsOfKind : Form → Size → List ℕ → Type 0
IsOfKind asked size dump = (marking : Marking) → ¬ IsOfOtherKind asked size dump marking
