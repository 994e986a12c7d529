-- What `rescue` makes of an image, and what it prints.
use Rattle.std.specs.Prelude.{◌≡◌, ◌⊎◌, ℕ, ◌+◌, nat_lt, if◌then◌else◌, Option, Some, None, List, [], ◌∷◌, ◌++◌, codes, decimal}
use Rattle.ee_text.specs.Field.{joined_fields}
use Rattle.ee_text.specs.Line.{line_of}
use Rattle.ee_flash.specs.Device.{Device}
use Rattle.ee_pages.specs.Rescue.{is_bad, named_generation, rescued_side}
use Rattle.ee_pages.specs.Sets.{first_page, set_of}
use Rattle.ee_pages.specs.declared.side.Side.{Side}
use Rattle.ee_core.specs.Changes.{greatest_generation}
use Rattle.ee_core.specs.Rescues.{IsRescued}
use Rattle.ee_core.specs.declared.rescuing.Rescued.{Rescued}
use Rattle.ee_interface.specs.declared.fault.Fault.{Fault}
use Rattle.ee_interface.specs.declared.fault.Fault.TheVariants.{NothingToRescue, Spent}
use Rattle.ee_image_store.specs.FileFaults.{IsReadingFault}
use Rattle.ee_image_store.specs.Opening.{IsStoreLeft, SpellsDevice}
use Rattle.ee_image_store.specs.Told.{each_below}

-- what a word is to its page
abbrev pub part_name : ℕ → List ℕ
part_name at = if nat_lt at 4 then codes "header" else codes "slot"

-- the line of a word of a set, where it is bad, and none for another
abbrev pub bad_line : Device → Side → ℕ → ℕ → List ℕ
bad_line device side page at =
    if is_bad device.size (set_of side device) page at
    then line_of
    (joined_fields
    (codes "bad" ∷ decimal (first_page device.size side + page) ∷ decimal at ∷ part_name at
    ∷ []))
    else []

-- by page, and then place
abbrev pub bad_lines : Device → Option Side → List ℕ
bad_lines device None = []
bad_lines device (Some side) =
    each_below device.size.pages (λ page. each_below device.size.words (bad_line device side page))

-- how many addresses have a value, and how many words were bad
abbrev pub rescued_text : Rescued → List ℕ
rescued_text rescued =
    joined_fields
    (codes "rescued" ∷ codes "live" ∷ decimal rescued.live ∷ codes "bad"
    ∷ decimal rescued.bad_words ∷ [])

-- The image was rescued, whatever stood in it, and the new one is the store that this leaves. A
-- line told each bad word of the set that was rescued, and the last line what it came to.
pub record IsRescuedImage (old_image new_image text : List ℕ) : Type 0 where
  pub device : Device
  pub last : Device
  pub rescued : Rescued
  pub old : SpellsDevice old_image device
  pub rescues : IsRescued device rescued last
  pub left : IsStoreLeft device.size new_image last
  pub text_is : text ≡ bad_lines device (rescued_side device) ++ line_of (rescued_text rescued)

-- why a device is not rescued: no set is begun, or the one that would be rescued names the
-- greatest generation
abbrev pub IsNotRescued : Device → Fault → Type 0
IsNotRescued device NothingToRescue = rescued_side device ≡ None
IsNotRescued device Spent =
    (side : Side) × (rescued_side device ≡ Some side)
    × (named_generation (set_of side device) ≡ greatest_generation)
IsNotRescued device fault = ⊥

-- why an image is not
abbrev pub IsRescueFault : List ℕ → Fault → Type 0
IsRescueFault text fault =
    IsReadingFault text fault
    ⊎ ((device : Device) × SpellsDevice text device × IsNotRescued device fault)
