-- Words that stand where no store of the shape has them, or that no store writes.
use Rattle.std.specs.Prelude.{◌≡◌, ◌==◌, ◌<◌, ◌/◌, ◌^◌, ◌||◌, ℕ, Bool, true, false, nat_lt, not, bit_and, if◌then◌else◌}
use Rattle.ee_flash.specs.Device.{Device, word_at}
use Rattle.ee_flash.specs.Numbers.{header_half}
use Rattle.ee_flash.specs.declared.word.Word.{Word}
use Rattle.ee_flash.specs.declared.word.Word.TheVariants.{Held}
use Rattle.ee_nor.specs.Coded.Coded.{is_slot_number}
use Rattle.ee_codec.specs.Reading.{mark_of, slot_of}
use Rattle.ee_codec.specs.declared.slot.Slot.{Slot}
use Rattle.ee_codec.specs.declared.slot.Slot.TheVariants.{Element, Forgotten}
use Rattle.ee_pages.specs.Legal.{is_element}
use Rattle.ee_pages.specs.Sets.{is_mark}
use Rattle.ee_shell.specs.declared.dumps.places.Sought.{Sought}
use Rattle.ee_shell.specs.declared.dumps.places.Sought.TheVariants.{Misplaced, Uncoded}

-- a value that has not each one of a receive word's high half, which a cut receive word has
abbrev pub is_no_receive : ℕ → Bool
is_no_receive value = not (bit_and value 0xAAAAAAAA == 0xAAAAAAAA)

-- an element or a forgetting with such a value
abbrev pub tells_no_receive : Slot → Bool
tells_no_receive (Element address value) = is_no_receive value
tells_no_receive (Forgotten address value) = is_no_receive value
tells_no_receive slot = false

-- an element or a forgetting in a header, in the place of a receive word one with such a value, or
-- a mark in a slot: no store of this shape writes it there, and no cut makes it of what one writes
abbrev pub is_misplaced : ℕ → Word → Bool
is_misplaced at word =
    if at == 0 then tells_no_receive (slot_of word)
    else if nat_lt at 4 then is_element (slot_of word)
    else is_mark (mark_of word)

-- it holds a number that isn't a store's: it has no coded word
abbrev pub is_uncoded : Word → Bool
is_uncoded (Held number) = not (is_slot_number number || number / 2 ^ 32 == header_half)
is_uncoded word = false

-- what is looked for among the words
abbrev pub is_sought : Sought → ℕ → Word → Bool
is_sought Misplaced at word = is_misplaced at word
is_sought Uncoded at word = is_uncoded word

-- no word of the page is one
abbrev pub HasNoneIn : Sought → Device → ℕ → Type 0
HasNoneIn sought device page = (at : ℕ) → is_sought sought at (word_at device page at) ≡ false

-- nor of the device
abbrev pub IsInShape : Device → Type 0
IsInShape device = (page : ℕ) → HasNoneIn Misplaced device page

abbrev pub HasAllCodes : Device → Type 0
HasAllCodes device = (page : ℕ) → HasNoneIn Uncoded device page

-- the word there is one, and none before it in its page
pub record IsSoughtIn (sought : Sought) (device : Device) (page at : ℕ) : Type 0 where
  pub found : is_sought sought at (word_at device page at) ≡ true
  pub none_before : (k : ℕ) → k < at → is_sought sought k (word_at device page k) ≡ false

-- nor in a page before
pub record IsFirstSought (sought : Sought) (device : Device) (page at : ℕ) : Type 0 where
  pub here : IsSoughtIn sought device page at
  pub pages_before : (k : ℕ) → k < page → HasNoneIn sought device k

abbrev pub IsFirstMisplaced : Device → ℕ → ℕ → Type 0
IsFirstMisplaced device page at = IsFirstSought Misplaced device page at

abbrev pub IsFirstUncoded : Device → ℕ → ℕ → Type 0
IsFirstUncoded device page at = IsFirstSought Uncoded device page at
