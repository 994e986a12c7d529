-- How many words a call programs at the most, and how many pages it erases: laws of the lists.
use Rattle.std.specs.Prelude.{◌≤◌, ℕ, ◌+◌, ◌*◌, List, length}
use Rattle.ee_flash.specs.Device.{Device, IsFormed}
use Rattle.ee_flash.specs.Size.{page_count, slot_count}
use Rattle.ee_flash.specs.Step.{Step}
use Rattle.ee_flash.specs.Taking.{pages_erased, words_programmed}
use Rattle.ee_flash.specs.declared.word.Word.{Word}
use Rattle.ee_pages.specs.Legal.{IsLegal}
use Rattle.ee_pages.specs.Meaning.{Change, changed_by, live_in}
use Rattle.ee_pages.specs.declared.side.Side.{Side}
use Rattle.ee_core.specs.Puts.{AreApart}
use Rattle.ee_core.specs.State.{capacity, state_of}
use Rattle.ee_core.specs.StepLists.{steps_of_append, steps_of_clean, steps_of_clear, steps_of_format, steps_of_open, steps_of_transfer, steps_to_move}

-- they program so many words at the most, and erase so many pages
pub record IsWithin (words pages : ℕ) (steps : List Step) : Type 0 where
  pub words_are : words_programmed steps ≤ words
  pub pages_are : pages_erased steps ≤ pages

-- how many addresses have a value after these changes
abbrev pub live_after : List Change → Device → ℕ
live_after changes device = live_in (changed_by changes (state_of device).map)

-- Where an image is legal: an opening sets its marks; an append takes a word and two marks; a
-- transfer takes a word for each address that has a value then, and marks, and erases a set.
pub record CallsAreShort (device : Device) : Type 0 where
  pub opening : IsWithin (2 * device.size.pages) 0 (steps_of_open device)
  pub append : (change : Change) → IsWithin 3 0 (steps_of_append change device)
  pub transfer : (changes : List Change) → AreApart changes
      → live_after changes device ≤ capacity device
      → IsWithin (live_after changes device + 3 * device.size.pages + 1) device.size.pages
      (steps_of_transfer changes device)
  pub clear : IsWithin (device.size.pages + 2) device.size.pages (steps_of_clear device)
  pub clean : IsWithin 0 1 (steps_of_clean device)

abbrev pub EachCallIsShort : Type 0
EachCallIsShort = (device : Device) → IsLegal device → CallsAreShort device

-- whatever stands in the device, of a format, and of a rescue, which moves so many words
abbrev pub FormatsAndRescuesAreShort : Type 0
FormatsAndRescuesAreShort =
    (device : Device) → IsFormed device
    → IsWithin 2 (page_count device.size) (steps_of_format device)
    × ((side : Side) (generation : ℕ) (words : List Word) → length words ≤ slot_count device.size
    → IsWithin (length words + 3 * device.size.pages + 1) device.size.pages
    (steps_to_move device side generation words))
