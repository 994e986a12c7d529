-- What `forget-all` makes of an image, and what it prints.
use Rattle.std.specs.Prelude.{◌≡◌, ◌<◌, ◌⊎◌, ℕ, Bool, false, None, List, [], ◌∷◌, Ok, codes, decimal}
use Rattle.ee_text.specs.Field.{joined_fields}
use Rattle.ee_text.specs.Line.{line_of}
use Rattle.ee_flash.specs.Device.{Device}
use Rattle.ee_pages.specs.Meaning.{live_in}
use Rattle.ee_core.specs.Emptying.{Clears}
use Rattle.ee_core.specs.Changes.{greatest_generation}
use Rattle.ee_core.specs.Openings.{Opens}
use Rattle.ee_core.specs.State.{state_of}
use Rattle.ee_interface.specs.declared.fault.Fault.{Fault}
use Rattle.ee_interface.specs.declared.fault.Fault.TheVariants.{HoldsValues, Spent}
use Rattle.ee_image_store.specs.FileFaults.{IsOpeningFault}
use Rattle.ee_image_store.specs.Opening.{IsStoreLeft, IsStoreText}

-- how many addresses had a value, as `forget-all` prints it
abbrev pub forgotten_text : ℕ → List ℕ
forgotten_text addresses = line_of (joined_fields (codes "forgotten" ∷ decimal addresses ∷ []))

-- The store of the image was opened and cleared. So the image is left with no value: by one
-- transfer that copied nothing, or as the opening left it where no slot was used.
pub record IsForgottenImage (old_image new_image text : List ℕ) : Type 0 where
  pub device : Device
  pub store : Device
  pub last : Device
  pub moved : Bool
  pub old : IsStoreText old_image device
  pub opens : Opens device store
  pub clears : Clears store (Ok moved) last
  pub left : IsStoreLeft device.size new_image last
  pub none_left : (address : ℕ) → (state_of last).map address ≡ None
  pub text_is : text ≡ forgotten_text (live_in (state_of device).map)

-- an address has a value, and there is no force
abbrev pub IsHeldBack : Bool → Device → Type 0
IsHeldBack force device = (force ≡ false) × (0 < live_in (state_of device).map)

-- a slot is used, and no generation is left for the transfer
pub record IsSpentStore (device : Device) : Type 0 where
  pub used : 0 < (state_of device).fill
  pub last : (state_of device).generation ≡ greatest_generation

-- why a store is not cleared: values are held; or none is, and no generation is left
abbrev pub StaysFull : Bool → Device → Fault → Type 0
StaysFull force device fault =
    ((fault ≡ HoldsValues) × IsHeldBack force device)
    ⊎ ((fault ≡ Spent) × IsSpentStore device × (IsHeldBack force device → ⊥))

-- why an image is left with its values
abbrev pub IsForgetAllFault : Bool → List ℕ → Fault → Type 0
IsForgetAllFault force text fault =
    IsOpeningFault text fault
    ⊎ ((device : Device) × IsStoreText text device × StaysFull force device fault)
