-- What the commands without a script make of an image.
use Rattle.std.specs.Prelude.{◌≡◌, ℕ, ◌+◌, List, [], ◌∷◌, ◌++◌, Ok, true, decimal, codes, replicate}
use Rattle.ee_text.specs.Field.{joined_fields}
use Rattle.ee_text.specs.Line.{line_of}
use Rattle.ee_flash.specs.Device.{Device, blank_device}
use Rattle.ee_flash.specs.Size.{Size, page_count}
use Rattle.ee_flash.specs.declared.word.Word.{Word}
use Rattle.ee_pages.specs.Page.{state_of_words}
use Rattle.ee_pages.specs.declared.state.State as page
use Rattle.ee_pages.specs.declared.state.State.TheVariants.{Erased, Receive, Active, Valid, Erasing}
use Rattle.ee_core.specs.Openings.{IsFormatted, Opens}
use Rattle.ee_core.specs.Runs.{Cleaned, IsWholeRun}
use Rattle.ee_core.specs.State.{Wears, formatted_state, pending_pages, state_of, with_pending}
use Rattle.ee_image_store.specs.Opening.{IsStoreLeft, IsStoreText, SpellsDevice}

-- the text of a store with nothing in it, as formatting leaves a device of this size that was never
-- used: no page of it was erased
pub record IsFormattedText (size : Size) (text : List ℕ) : Type 0 where
  pub device : Device
  pub left : IsStoreLeft size text device
  pub formats : IsFormatted (blank_device size) device
  pub state_is : state_of device ≡ formatted_state
  pub no_wear : device.wear ≡ replicate (page_count size) 0

-- how many pages were erased, as `clean` prints it
abbrev pub cleaned_text : ℕ → List ℕ
cleaned_text pages = line_of (joined_fields (codes "cleaned" ∷ decimal pages ∷ []))

-- The store of the image was opened, and took a clean step for each page that waited to be erased.
-- So the image is left with each value, as much used and of the same generation, and no page waits
-- any more; those that waited were erased, each once, and no other.
pub record IsCleaned (old_image new_image text : List ℕ) : Type 0 where
  pub device : Device
  pub store : Device
  pub last : Device
  pub old : IsStoreText old_image device
  pub opens : Opens device store
  pub cleans : IsWholeRun (replicate (state_of device).pending (Cleaned (Ok true))) store last
  pub left : IsStoreLeft device.size new_image last
  pub state_is : state_of last ≡ with_pending 0 (state_of device)
  pub wear : Wears (pending_pages device) device last
  pub text_is : text ≡ cleaned_text (state_of device).pending

abbrev pub state_name : page.State → List ℕ
state_name Erased = codes "ERASED"
state_name Receive = codes "RECEIVE"
state_name Active = codes "ACTIVE"
state_name Valid = codes "VALID"
state_name Erasing = codes "ERASING"

-- what the line of a page says: its number and its state
abbrev pub state_text : ℕ → page.State → List ℕ
state_text number state = joined_fields (codes "page" ∷ decimal number ∷ state_name state ∷ [])

-- a line for each page, of which the first has this number
abbrev pub state_lines : ℕ → List (List Word) → List ℕ
state_lines number [] = []
state_lines number (words ∷ pages) =
    line_of (state_text number (state_of_words words)) ++ state_lines (number + 1) pages

-- the states of the pages of the image that a text spells
pub record AreStates (text lines : List ℕ) : Type 0 where
  pub device : Device
  pub spelled : SpellsDevice text device
  pub lines_are : lines ≡ state_lines 0 device.image
