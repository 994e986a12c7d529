-- The stores that the commands work on, the texts that they are opened from, and the
-- texts that they leave.
use Rattle.std.specs.Prelude.{◌≡◌, Some, List, ℕ, replicate}
use Rattle.ee_flash.specs.Device.{Device, IsFormed, IsOn, blank_device}
use Rattle.ee_flash.specs.Size.{Size, page_count}
use Rattle.ee_pages.specs.Layout.{IsScanFault}
use Rattle.ee_pages.specs.Legal.{IsLegal}
use Rattle.ee_core.specs.Finished.{IsStore}
use Rattle.ee_core.specs.Openings.{IsFormatted, Opens}
use Rattle.ee_core.specs.State.{formatted_state, pending_pages, state_of}
use Rattle.ee_image.specs.Text.{at_rest, image_text}
use Rattle.ee_image.specs.Fault.{IsImageTextFault}
use Rattle.ee_interface.specs.declared.replay_fault.ReplayFault.{ReplayFault}
use Rattle.ee_interface.specs.declared.replay_fault.ReplayFault.TheVariants.{Image, Open, Script, Memory, Read}
use Rattle.ee_image_store.specs.Erases.{ErasesRise}

-- power is on and is never cut
pub record StaysOn (device : Device) : Type 0 where
  pub on : IsOn device
  pub never_cut : device.cuts_left ≡ Some 0

-- this device's text is the text
pub record SpellsDevice (text : List ℕ) (device : Device) : Type 0 where
  pub formed : IsFormed device
  pub text_is : text ≡ image_text device

-- the text is an image's that a store can work on
pub record IsStoreText (text : List ℕ) (device : Device) : Type 0 where
  pub spelled : SpellsDevice text device
  pub legal : IsLegal device

-- a store is opened from the image
abbrev pub HasStore : List ℕ → Type 0
HasStore image = (device : Device) × IsStoreText image device

-- the store of the image that the text spells, as a device that is on and was never cut, with its
-- state; the same pages wait, and none was erased
pub record IsOpened (text : List ℕ) (new : Device) : Type 0 where
  pub device : Device
  pub old : IsStoreText text device
  pub rests : device ≡ at_rest device
  pub opens : Opens device new
  pub stays_on : StaysOn new
  pub same_size : new.size ≡ device.size
  pub state_is : state_of new ≡ state_of device
  pub same_pending : pending_pages new ≡ pending_pages device
  pub no_wear : new.wear ≡ device.wear
  pub erases : ErasesRise 0 device new

-- The text is that of a store's device, which is on and of this size: its image is legal, and no
-- mark is left to set.
pub record IsStoreLeft (size : Size) (text : List ℕ) (device : Device) : Type 0 where
  pub spelled : SpellsDevice text device
  pub store : IsStore device
  pub stays_on : StaysOn device
  pub same_size : device.size ≡ size

-- a store with nothing in it, on a device of this size that no page of was erased
pub record IsNewStore (size : Size) (new : Device) : Type 0 where
  pub formats : IsFormatted (blank_device size) new
  pub stays_on : StaysOn new
  pub size_is : new.size ≡ size
  pub state_is : state_of new ≡ formatted_state
  pub no_wear : new.wear ≡ replicate (page_count size) 0

-- why no store is opened from an image's text: the text is no device's, or the device has no legal
-- image; or memory ran out
abbrev pub IsOpenFault : List ℕ → ReplayFault → Type 0
IsOpenFault text (Image fault) = IsImageTextFault text fault
IsOpenFault text (Open fault) =
    (device : Device) × SpellsDevice text device × IsScanFault device fault
IsOpenFault text (Script n) = ⊥
IsOpenFault text Memory = Unit {0}
IsOpenFault text Read = ⊥
