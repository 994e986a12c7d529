-- Why no device is found in a file, and why no store is opened from an image, under the names
-- that the program gives.
use Rattle.std.specs.Prelude.{◌≡◌, List, ℕ}
use Rattle.ee_image.specs.Fault.{IsImageFault}
use Rattle.ee_image.specs.declared.fault.ImageFault.{ImageFault}
use Rattle.ee_interface.specs.Fault.{fault_of_image, fault_of_replay}
use Rattle.ee_interface.specs.declared.fault.Fault.{Fault}
use Rattle.ee_interface.specs.declared.fault.File.{File}
use Rattle.ee_interface.specs.declared.fault.File.TheVariants.{Image}
use Rattle.ee_interface.specs.declared.replay_fault.ReplayFault.{ReplayFault}
use Rattle.ee_image_store.specs.Opening.{IsOpenFault}

-- why no device is found in the text of a file
pub record IsFileFault (file : File) (text : List ℕ) (fault : Fault) : Type 0 where
  pub cause : ImageFault
  pub applies : IsImageFault text cause
  pub fault_is : fault ≡ fault_of_image file cause

-- why a command finds no device in an image
abbrev pub IsReadingFault : List ℕ → Fault → Type 0
IsReadingFault text fault = IsFileFault Image text fault

-- why a command finds no store in an image
pub record IsOpeningFault (text : List ℕ) (fault : Fault) : Type 0 where
  pub cause : ReplayFault
  pub applies : IsOpenFault text cause
  pub fault_is : fault ≡ fault_of_replay cause
