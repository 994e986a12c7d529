-- What `inspect` tells of an image: what a scan finds, how the live set is used, which words are
-- torn, and of which addresses the latest change may be lost.
use Rattle.std.specs.Prelude.{◌≡◌, ◌<◌, ◌+◌, ◌-◌, ◌&&◌, ℕ, suc, nat_le, nat_lt, if◌then◌else◌, is_some, Bool, List, [], ◌∷◌, ◌++◌, length, slice_index_or, Option, Some, None, Result, Ok, Err, MatchResult, codes, decimal}
use Rattle.std.specs.List.{list_any}
use Rattle.ee_text.specs.Field.{joined_fields}
use Rattle.ee_text.specs.Line.{line_of}
use Rattle.ee_flash.specs.Device.{Device, word_at}
use Rattle.ee_flash.specs.Size.{Size, page_count}
use Rattle.ee_flash.specs.declared.word.Word.{Word}
use Rattle.ee_pages.specs.Layout.{IsLayout, IsScanFault}
use Rattle.ee_pages.specs.Meaning.{live_in, says, value_said}
use Rattle.ee_pages.specs.Page.{is_torn}
use Rattle.ee_pages.specs.Sets.{first_page, set_of, slots_of, torn_of}
use Rattle.ee_pages.specs.declared.find.Layout.{Layout}
use Rattle.ee_pages.specs.declared.find.ScanFault.{ScanFault}
use Rattle.ee_pages.specs.declared.find.ScanFault.TheVariants.{Unformatted, NoLiveSet, TwoLive, Foreign}
use Rattle.ee_pages.specs.declared.side.Side.{Side}
use Rattle.ee_pages.specs.declared.side.Side.TheVariants.{First, Second}
use Rattle.ee_core.specs.State.{capacity, state_with}
use Rattle.ee_image_store.specs.Opening.{SpellsDevice}
use Rattle.ee_image_store.specs.Told.{each_below}
use Rattle.ee_commands.specs.Json.{item, member, object, quoted}
use Rattle.ee_shell.specs.declared.part.inspecting.Usage.{Usage}
use Rattle.ee_shell.specs.declared.part.inspecting.Telling.{Telling}
use Rattle.ee_shell.specs.declared.part.inspecting.Telling.TheVariants.{Lines, Items}

-- ---- the scan

-- why there is no live set: what the line of the fault says behind `image `
abbrev pub scan_words : ScanFault → List ℕ
scan_words Unformatted = codes "unformatted"
scan_words NoLiveSet = codes "no live set"
scan_words TwoLive = codes "two live sets"
scan_words (Foreign page at) = codes "foreign word " ++ decimal page ++ codes " " ++ decimal at

-- ---- the live set

-- which of the two sets it is
abbrev pub set_number : Side → ℕ
set_number First = 0
set_number Second = 1

-- its slots
abbrev pub live_slots : Device → Layout → List Word
live_slots device layout = slots_of (set_of layout.side device)

-- The live set: which it is, its generation, how many slots are used and how many are free, how
-- many addresses have a value, how many pages wait to be erased; and of the used slots, how many
-- neither give an address its value nor are torn, and how many are torn.
abbrev pub usage_in : Device → Layout → Usage
usage_in device layout =
    let state = state_with device layout.side layout.generation in
    let torn = torn_of (live_slots device layout) in
    record {
      set = set_number layout.side;
      generation = state.generation;
      fill = state.fill;
      room = capacity device - state.fill;
      live = live_in state.map;
      pending = state.pending;
      superseded = state.fill - live_in state.map - torn;
      torn = torn;
    }

-- what its line says: the set and its slots, and what they are used for
abbrev pub slots_text : Usage → List ℕ
slots_text usage =
    joined_fields (codes "set" ∷ decimal usage.set ∷ codes "generation" ∷ decimal usage.generation
    ∷ codes "fill" ∷ decimal usage.fill
    ∷ codes "room" ∷ decimal usage.room ∷ [])

abbrev pub parts_text : Usage → List ℕ
parts_text usage =
    joined_fields (codes "live" ∷ decimal usage.live ∷ codes "pending" ∷ decimal usage.pending
    ∷ codes "superseded"
    ∷ decimal usage.superseded ∷ codes "torn" ∷ decimal usage.torn ∷ [])

abbrev pub set_text : Usage → List ℕ
set_text usage = joined_fields (slots_text usage ∷ parts_text usage ∷ [])

-- ---- the torn words

-- the page, by its number in the device, is one of the set
abbrev pub is_page_of : Size → Side → ℕ → Bool
is_page_of size side page =
    nat_le (first_page size side) page && nat_lt page (first_page size side + size.pages)

-- what a word is to the live set, if there is one: a word of a header, a slot, or none of its words
abbrev pub place_name : Size → Option Side → ℕ → ℕ → List ℕ
place_name size None page at = codes "other"
place_name size (Some side) page at =
    if is_page_of size side page then (if nat_lt at 4 then codes "header" else codes "slot") else
    codes "other"

abbrev pub place_line : ℕ → ℕ → List ℕ → List ℕ
place_line page at name =
    line_of (joined_fields (codes "torn" ∷ decimal page ∷ decimal at ∷ name ∷ []))

abbrev pub place_object : ℕ → ℕ → List ℕ → List ℕ
place_object page at name =
    object
    (member (codes "page") (decimal page) ∷ member (codes "at") (decimal at)
    ∷ member (codes "place") (quoted name) ∷ [])

-- what is told of a torn word: a line, or an item of an array
abbrev pub place_told : Telling → ℕ → ℕ → List ℕ → List ℕ
place_told Lines page at name = place_line page at name
place_told Items page at name = item (place_object page at name)

-- of a word that is torn, and nothing of another
abbrev pub torn_told : Telling → Device → Option Side → ℕ → ℕ → List ℕ
torn_told telling device live page at =
    if is_torn (word_at device page at)
    then place_told telling page at (place_name device.size live page at)
    else []

-- by page, and then place
abbrev pub all_torn : Telling → Device → Option Side → List ℕ
all_torn telling device live =
    each_below (page_count device.size)
    (λ page. each_below device.size.words (torn_told telling device live page))

-- ---- the addresses in doubt

-- how many slots there are up to the last such one, and with it; 0 if there is none
abbrev pub up_to_last : (Word → Bool) → List Word → ℕ
up_to_last such [] = 0
up_to_last such (slot ∷ slots) =
    if list_any such (slot ∷ slots) then suc (up_to_last such slots) else 0

-- the slot says that the address has a value, or that it has none
abbrev pub speaks_of : ℕ → Word → Bool
speaks_of address slot = is_some (says slot address)

-- the slot says that the address has a value
abbrev pub gives_to : ℕ → Word → Bool
gives_to address slot = is_some (value_said (says slot address))

-- the table tells for each number below 65535 how many slots there are up to the last one that
-- speaks of it as an address
pub record AreSpoken (slots : List Word) (spoken : List ℕ) : Type 0 where
  pub long : length spoken ≡ 65535
  pub each : (address : ℕ) → address < 65535
      → slice_index_or spoken address 0 ≡ up_to_last (speaks_of address) slots

-- the last slot that speaks of an address stands before the last torn one, which may have been
-- another change of it
abbrev pub is_before : ℕ → ℕ → Bool
is_before spoken torn = nat_lt 0 spoken && nat_lt spoken torn

abbrev pub is_in_doubt : List Word → ℕ → Bool
is_in_doubt slots address =
    is_before (up_to_last (speaks_of address) slots) (up_to_last is_torn slots)

-- what is told of an address in doubt: a line, or an item of an array
abbrev pub address_told : Telling → ℕ → List ℕ
address_told Lines address = line_of (joined_fields (codes "doubt" ∷ decimal address ∷ []))
address_told Items address = item (decimal address)

-- of an address that is in doubt, and nothing of another
abbrev pub doubt_told : Telling → Bool → ℕ → List ℕ
doubt_told telling doubted address = if doubted then address_told telling address else []

-- by rising address
abbrev pub all_doubts : Telling → List Word → List ℕ
all_doubts telling slots =
    each_below 65535 (λ address. doubt_told telling (is_in_doubt slots address) address)

-- ---- all of it

-- the lines of a device of which a scan finds this
abbrev pub found_lines : Device → Result Layout ScanFault → List ℕ
found_lines device (Ok layout) =
    line_of (codes "scan ok") ++ line_of (set_text (usage_in device layout))
    ++ all_torn Lines device (Some layout.side)
    ++ all_doubts Lines (live_slots device layout)
found_lines device (Err fault) =
    line_of (codes "scan " ++ scan_words fault) ++ all_torn Lines device None

-- the lines of a device: a scan finds a live set or a fault, one of them
pub record AreFindings (device : Device) (lines : List ℕ) : Type 0 where
  pub found : Result Layout ScanFault
  pub is_found : MatchResult found (IsLayout device) (IsScanFault device)
  pub lines_are : lines ≡ found_lines device found

-- the lines of the image that a text spells
pub record IsInspected (text lines : List ℕ) : Type 0 where
  pub device : Device
  pub spelled : SpellsDevice text device
  pub findings : AreFindings device lines
