-- What the lines of `inspect` come to: each law is proved by the function of its name.
use Rattle.std.specs.Prelude.{◌≡◌, ◌≢◌, ◌≤◌, ◌↔◌, ◌+◌, ℕ, None, true, List, ◌∷◌, ◌++◌, codes}
use Rattle.ee_flash.specs.declared.word.Word.{Word}
use Rattle.ee_flash.specs.declared.word.Word.TheVariants.{Torn}
use Rattle.ee_pages.specs.Meaning.{latest_in, live_in, meaning}
use Rattle.ee_pages.specs.Sets.{fill_of, torn_of}
use Rattle.ee_pages.specs.declared.find.ScanFault.{ScanFault}
use Rattle.ee_interface.specs.Fault.{cause, fault_of_scan}
use Rattle.ee_shell.specs.Part.Inspecting.{is_in_doubt, scan_words}

-- the line of a fault says behind `image ` what the scan's line says
abbrev pub ScanIsToldAsItsFault : Type 0
ScanIsToldAsItsFault =
    (fault : ScanFault) → cause (fault_of_scan fault) ≡ codes "image " ++ scan_words fault

-- the slots that give an address its value and the torn ones are used, and none is both: the
-- others are superseded
abbrev pub UsedSlotsAddUp : Type 0
UsedSlotsAddUp = (slots : List Word) → live_in (meaning slots) + torn_of slots ≤ fill_of slots

-- some slot in front of a torn one speaks of the address, and none behind that torn one does
pub record IsDoubted (slots : List Word) (address : ℕ) : Type 0 where
  pub before : List Word
  pub behind : List Word
  pub slots_are : slots ≡ before ++ Torn ∷ behind
  pub said : latest_in before address ≢ None
  pub silent : latest_in behind address ≡ None

-- those are the addresses that are told to be in doubt
abbrev pub DoubtsAreTold : Type 0
DoubtsAreTold =
    (slots : List Word) (address : ℕ) → (is_in_doubt slots address ≡ true) ↔ IsDoubted slots address
