-- The images that a store can work on.
use Rattle.std.specs.Prelude.{◌≡◌, ◌<◌, ℕ, ◌+◌, ◌*◌, ◌-◌, Bool, true, false, not, ◌&&◌, ◌||◌, ◌==◌, nat_lt, nat_le, if◌then◌else◌, Some, List}
use Rattle.ee_flash.specs.Device.{Device, IsFormed}
use Rattle.ee_flash.specs.Size.{Size, header_words}
use Rattle.ee_flash.specs.declared.word.Word.{Word}
use Rattle.ee_flash.specs.declared.word.Word.TheVariants.{Erased, Held, Torn}
use Rattle.ee_codec.specs.Reading.{slot_of}
use Rattle.ee_codec.specs.Words.{mark_number, receive}
use Rattle.ee_codec.specs.declared.slot.Slot.{Slot}
use Rattle.ee_codec.specs.declared.slot.Slot.TheVariants as slots
use Rattle.ee_pages.specs.Page.{is_written}
use Rattle.ee_pages.specs.Sets.{front, live_of, set_of, slots_of, word_of}
use Rattle.ee_pages.specs.declared.table.Place.{Place}
use Rattle.ee_pages.specs.declared.table.Place.TheVariants.{Committing, Receiving, Marking, Erasing, InSlot}
use Rattle.ee_pages.specs.declared.side.Side.{Side}

-- the place of a word of a set
abbrev pub place_of : ℕ → ℕ → Place
place_of page at =
    if nat_lt 3 at then InSlot
    else (if at == 3 then Erasing
    else (if at == 2 then Marking
    else (if page == 0 then Committing
    else (if at == 1 then Marking else Receiving))))

-- an element or a forgetting
abbrev pub is_element : Slot → Bool
is_element (slots.Element address value) = true
is_element (slots.Forgotten address value) = true
is_element slots.Free = false
is_element slots.Spoiled = false
is_element slots.Foreign = false

-- a slot that is used: an element or a forgetting, or torn
abbrev pub holds_slot : Word → Bool
holds_slot Erased = false
holds_slot Torn = true
holds_slot (Held number) = is_element (slot_of (Held number))

-- What may stand in each place of a live set of this generation:
abbrev pub fits : ℕ → Place → Word → Bool
-- first page, receive and active: as the commit demands, which is told apart
fits generation Committing word = true
-- further page, receive: erased, torn, or the receive word of the live generation
fits generation Receiving Erased = true
fits generation Receiving Torn = true
fits generation Receiving (Held number) = number == receive generation
-- further page, active; any page, valid: erased, torn, or the mark
fits generation Marking Erased = true
fits generation Marking Torn = true
fits generation Marking (Held number) = number == mark_number
-- any page, erasing: erased
fits generation Erasing word = not (is_written word)
-- slot: erased, torn, an element or a forgetting
fits generation InSlot Erased = true
fits generation InSlot Torn = true
fits generation InSlot (Held number) = is_element (slot_of (Held number))

-- how many slots of the set stand before the word
abbrev pub slots_before : Size → ℕ → ℕ → ℕ
slots_before size page at = page * (size.words - header_words) + (at - header_words)

-- the word fits its place, and is erased if a slot before it is
abbrev pub is_allowed : Size → ℕ → ℕ → ℕ → ℕ → Word → Bool
is_allowed size generation written page at word =
    fits generation (place_of page at) word
    && (not (is_written word) || nat_le (slots_before size page at) written)

-- the word at this place of the set, seen beside the set's front
abbrev pub is_allowed_at : Size → ℕ → List (List Word) → ℕ → ℕ → Bool
is_allowed_at size generation pages page at =
    is_allowed size generation (front (slots_of pages)) page at (word_of pages page at)

-- the set of this side is live with this generation, and each of its words may stand in its place
pub record IsLive (device : Device) (side : Side) (generation : ℕ) : Type 0 where
  pub formed : IsFormed device
  pub live : live_of device ≡ Some (side, generation)
  pub allowed : (page at : ℕ) → page < device.size.pages → at < device.size.words
      → is_allowed_at device.size generation (set_of side device) page at ≡ true

-- there is a live set, and each of its words may stand in its place; the other set may hold
-- anything
abbrev pub IsLegal : Device → Type 0
IsLegal device = (side : Side) × (generation : ℕ) × IsLive device side generation
