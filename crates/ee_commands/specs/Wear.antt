-- What `wear` tells of an image, and of what came since another.
use Rattle.std.specs.Prelude.{◌≡◌, ◌⊎◌, ℕ, ◌+◌, Option, Some, None, List, [], ◌∷◌, ◌++◌, decimal, codes, sum}
use Rattle.ee_text.specs.Field.{joined_fields}
use Rattle.ee_text.specs.Line.{line_of}
use Rattle.ee_flash.specs.Device.{Device}
use Rattle.ee_wear.specs.Counts.{greatest_of, least_of}
use Rattle.ee_wear.specs.Since.{IsSinceFault, NoneFell, differences}
use Rattle.ee_wear.specs.declared.since.SinceFault.{SinceFault}
use Rattle.ee_interface.specs.Fault.{fault_of_since}
use Rattle.ee_interface.specs.declared.fault.Fault.{Fault}
use Rattle.ee_interface.specs.declared.fault.File.TheVariants.{Image, Before}
use Rattle.ee_image_store.specs.FileFaults.{IsFileFault}
use Rattle.ee_image_store.specs.Opening.{SpellsDevice}

-- what the line of a page says: its number and how often it was erased
abbrev pub count_text : ℕ → ℕ → List ℕ
count_text number count =
    joined_fields (codes "page" ∷ decimal number ∷ codes "wear" ∷ decimal count ∷ [])

-- a line for each page, of which the first has this number
abbrev pub count_lines : ℕ → List ℕ → List ℕ
count_lines number [] = []
count_lines number (count ∷ counts) =
    line_of (count_text number count) ++ count_lines (number + 1) counts

-- what the last line says: all counts together, the least and the greatest
abbrev pub total_text : List ℕ → List ℕ
total_text counts =
    joined_fields (codes "total" ∷ decimal (sum counts) ∷ codes "least" ∷ decimal (least_of counts)
    ∷ codes "greatest"
    ∷ decimal (greatest_of counts) ∷ [])

-- a ledger's counts as text
abbrev pub ledger_text : List ℕ → List ℕ
ledger_text counts = count_lines 0 counts ++ line_of (total_text counts)

-- these are the counts of the device that a text spells
pub record AreWearCountsOf (text counts : List ℕ) : Type 0 where
  pub device : Device
  pub spelled : SpellsDevice text device
  pub counts_are : counts ≡ device.wear

-- these are the counts by which the wear of the image's device is above that of the one before,
-- where no page has less
pub record AreCountsSince (image before counts : List ℕ) : Type 0 where
  pub device : Device
  pub old : Device
  pub spelled : SpellsDevice image device
  pub spelled_before : SpellsDevice before old
  pub none_fell : NoneFell old.wear device.wear
  pub counts_are : counts ≡ differences old.wear device.wear

-- the counts that are told of an image, or of what came since the image before, where there is one
abbrev pub AreWearCounts : List ℕ → Option (List ℕ) → List ℕ → Type 0
AreWearCounts image None counts = AreWearCountsOf image counts
AreWearCounts image (Some before) counts = AreCountsSince image before counts

-- the text of these counts
pub record IsWear (image : List ℕ) (before : Option (List ℕ)) (text : List ℕ) : Type 0 where
  pub counts : List ℕ
  pub are_counts : AreWearCounts image before counts
  pub text_is : text ≡ ledger_text counts

-- why the wear of the device that an image spells is not told as what came since the device before
pub record IsDifferenceFault (image before : List ℕ) (fault : Fault) : Type 0 where
  pub device : Device
  pub old : Device
  pub spelled : SpellsDevice image device
  pub spelled_before : SpellsDevice before old
  pub cause : SinceFault
  pub applies : IsSinceFault old.wear device.wear cause
  pub fault_is : fault ≡ fault_of_since cause

-- Why no wear is told, the first cause that applies: the image is no device's; or it is, and the
-- one before is none; or both are, and there is no difference.
abbrev pub IsWearFault : List ℕ → Option (List ℕ) → Fault → Type 0
IsWearFault image None fault = IsFileFault Image image fault
IsWearFault image (Some before) fault =
    IsFileFault Image image fault
    ⊎ (((device : Device) × SpellsDevice image device) × IsFileFault Before before fault)
    ⊎ IsDifferenceFault image before fault
