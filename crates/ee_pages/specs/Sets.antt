-- The two sets of a device: which of them is live, and its slots.
use Rattle.std.specs.Prelude.{ℕ, ◌+◌, ◌-◌, ◌/◌, ◌%◌, Bool, true, false, not, nat_lt, if◌then◌else◌, Option, Some, None, List, [], length, take, drop, slice_index_or}
use Rattle.std.specs.List.{filter, flat_map, prefix_len}
use Rattle.ee_flash.specs.Device.{Device}
use Rattle.ee_flash.specs.Size.{Size, header_words}
use Rattle.ee_flash.specs.declared.word.Word.{Word}
use Rattle.ee_codec.specs.Reading.{mark_of, receive_of}
use Rattle.ee_codec.specs.declared.header.MarkRead.{MarkRead}
use Rattle.ee_codec.specs.declared.header.MarkRead.TheVariants.{Absent, Present, Broken, Foreign}
use Rattle.ee_pages.specs.Page.{is_blank, is_torn, is_written, word_in}
use Rattle.ee_pages.specs.declared.side.Side.{Side}
use Rattle.ee_pages.specs.declared.side.Side.TheVariants.{First, Second}

-- the pages of a set
abbrev pub set_of : Side → Device → List (List Word)
set_of First device = take device.size.pages device.image
set_of Second device = drop device.size.pages device.image

-- the other of the two sets
abbrev pub other : Side → Side
other First = Second
other Second = First

-- the number, in the device, of a set's first page
abbrev pub first_page : Size → Side → ℕ
first_page size First = 0
first_page size Second = size.pages

-- the word at a place of a page of a set
abbrev pub word_of : List (List Word) → ℕ → ℕ → Word
word_of pages page at = word_in (slice_index_or pages page []) at

abbrev pub is_mark : MarkRead → Bool
is_mark Absent = false
is_mark Present = true
is_mark Broken = false
is_mark Foreign = false

-- The generation of a committed set: its first page has a receive word and a mark that can be read.
abbrev pub committed_generation : List (List Word) → Option ℕ
committed_generation pages =
    if is_mark (mark_of (word_of pages 0 1)) then receive_of (word_of pages 0 0) else None

-- of two sets that are committed so, the one with the greater generation, and that generation
abbrev pub greater_set : Option ℕ → Option ℕ → Option (Side × ℕ)
greater_set None None = None
greater_set (Some first) None = Some (First, first)
greater_set None (Some second) = Some (Second, second)
greater_set (Some first) (Some second) =
    if nat_lt second first then Some (First, first)
    else (if nat_lt first second then Some (Second, second) else None)

-- the live set and its generation
abbrev pub live_of : Device → Option (Side × ℕ)
live_of device =
    greater_set (committed_generation (set_of First device))
    (committed_generation (set_of Second device))

-- the slots of a set: the words behind the headers of its pages, in order
abbrev pub slots_of : List (List Word) → List Word
slots_of pages = flat_map (drop header_words) pages

-- how many slots were written, whole or torn
abbrev pub fill_of : List Word → ℕ
fill_of slots = length (filter is_written slots)

-- how many of them are torn
abbrev pub torn_of : List Word → ℕ
torn_of slots = length (filter is_torn slots)

-- how many slots stand before the first erased one
abbrev pub front : List Word → ℕ
front slots = prefix_len is_written slots

-- the page, within its set, and the place of a slot
abbrev pub page_of_slot : Size → ℕ → ℕ
page_of_slot size slot = slot / (size.words - header_words)

abbrev pub place_of_slot : Size → ℕ → ℕ
place_of_slot size slot = header_words + slot % (size.words - header_words)

-- how many pages of a set are not blank; of the set that is not live, those that wait to be erased
abbrev pub pending_of : List (List Word) → ℕ
pending_of pages = length (filter (λ page. not (is_blank page)) pages)
