-- What a scan finds, or why it finds nothing.
use Rattle.std.specs.Prelude.{◌≡◌, ◌<◌, ◌≤◌, ℕ, ◌+◌, ◌-◌, ◌*◌, min, Some, None, true, false, List}
use Rattle.std.specs.List.{All}
use Rattle.ee_flash.specs.Device.{Device}
use Rattle.ee_flash.specs.Size.{Size, header_words}
use Rattle.ee_flash.specs.declared.word.Word.{Word}
use Rattle.ee_pages.specs.Page.{is_blank}
use Rattle.ee_pages.specs.Sets.{committed_generation, fill_of, first_page, front, live_of, page_of_slot, set_of, slots_of, word_of}
use Rattle.ee_pages.specs.Legal.{IsLive, fits, holds_slot, is_allowed_at, place_of}
use Rattle.ee_pages.specs.declared.find.Layout.{Layout}
use Rattle.ee_pages.specs.declared.find.ScanFault.{ScanFault}
use Rattle.ee_pages.specs.declared.find.ScanFault.TheVariants.{Unformatted, NoLiveSet, TwoLive, Foreign}
use Rattle.ee_pages.specs.declared.side.Side.{Side}
use Rattle.ee_pages.specs.declared.side.Side.TheVariants.{First, Second}

-- The image is legal, and this is its live set, with its generation, its fill, and the page of the
-- last written slot, by its number in the device: the set's first page if no slot is written.
pub record IsLayout (device : Device) (layout : Layout) : Type 0 where
  pub live : IsLive device layout.side layout.generation
  pub fill : layout.fill ≡ fill_of (slots_of (set_of layout.side device))
  pub current : layout.current
      ≡ first_page device.size layout.side + page_of_slot device.size (layout.fill - 1)

-- every word of the device is erased
abbrev pub IsUnformatted : Device → Type 0
IsUnformatted device = All (λ page. is_blank page ≡ true) device.image

-- the first word of the set, by page and then place, that may not stand in its place
pub record IsFirstForeign (size : Size) (generation : ℕ) (pages : List (List Word)) (page at : ℕ)
    : Type 0 where
  pub page_in_range : page < size.pages
  pub place_in_range : at < size.words
  pub foreign : is_allowed_at size generation pages page at ≡ false
  pub pages_before : (k j : ℕ) → k < page → j < size.words
      → is_allowed_at size generation pages k j ≡ true
  pub places_before : (j : ℕ) → j < at → is_allowed_at size generation pages page j ≡ true

-- the first word of a page of the set that may not stand in its place
pub record IsForeignIn (size : Size) (generation : ℕ) (pages : List (List Word)) (page at : ℕ)
    : Type 0 where
  pub place_in_range : at < size.words
  pub foreign : is_allowed_at size generation pages page at ≡ false
  pub before : (j : ℕ) → j < at → is_allowed_at size generation pages page j ≡ true

-- how many slots are used of those before a page of the set
abbrev pub front_to : Device → Side → ℕ → ℕ
front_to device side page =
    min (page * (device.size.words - header_words)) (front (slots_of (set_of side device)))

-- why a scan finds nothing; the first of these that applies
abbrev pub IsScanFault : Device → ScanFault → Type 0
IsScanFault device Unformatted = IsUnformatted device
IsScanFault device NoLiveSet =
    ¬ IsUnformatted device × (committed_generation (set_of First device) ≡ None)
    × (committed_generation (set_of Second device) ≡ None)
IsScanFault device TwoLive =
    ¬ IsUnformatted device
    × ((generation : ℕ) × (committed_generation (set_of First device) ≡ Some generation)
    × (committed_generation (set_of Second device) ≡ Some generation))
IsScanFault device (Foreign page at) =
    ¬ IsUnformatted device
    × ((side : Side) × (generation : ℕ) × (live_of device ≡ Some (side, generation))
    × (first_page device.size side ≤ page)
    × IsFirstForeign device.size generation (set_of side device)
    (page - first_page device.size side) at)

-- in a page of a set the header fits this generation, and the slots are used up to this place,
-- where the next one isn't
pub record IsUsedTo (device : Device) (generation : ℕ) (side : Side) (page end : ℕ) : Type 0 where
  pub header : (j : ℕ) → j < header_words
      → fits generation (place_of page j) (word_of (set_of side device) page j) ≡ true
  pub from : header_words ≤ end
  pub before : (j : ℕ) → header_words ≤ j → j < end
      → holds_slot (word_of (set_of side device) page j) ≡ true
  pub unused : end < device.size.words → holds_slot (word_of (set_of side device) page end) ≡ false
