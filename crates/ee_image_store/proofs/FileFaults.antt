-- Why no device is found in a file: there is one cause at most but for want of memory, and none
-- where the text is a device's.
use Rattle.std.proofs.Common.{◌≡◌, ◌≢◌, ◌∙◌, ◌⊎◌, ℕ, List, inl, inr, sym, ap, rules}
use Rattle.ee_flash.specs.Device.{Device}
use Rattle.ee_image.specs.Fault.{IsImageFault}
use Rattle.ee_image.specs.declared.fault.ImageFault.{ImageFault}
use Rattle.ee_image.specs.declared.fault.ImageFault.TheVariants as image
use Rattle.ee_image.proofs.Public.{one_fault_lem, short}
use Rattle.ee_interface.specs.Fault.{fault_of_image}
use Rattle.ee_interface.specs.declared.fault.Fault.{Fault}
use Rattle.ee_interface.specs.declared.fault.Fault.TheVariants.{Memory}
use Rattle.ee_interface.specs.declared.fault.File.{File}
use Rattle.ee_interface.specs.declared.fault.File.TheVariants.{Image}
use Rattle.ee_image_store.specs.FileFaults.{IsFileFault, IsReadingFault}
use Rattle.ee_image_store.specs.Opening.{SpellsDevice}
use Rattle.ee_image_store.proofs.OneCause.{is_no_text}

-- memory may run out where a device was read
pub no_memory_for : (file : File) (text : List ℕ) (device : Device) → SpellsDevice text device
    → IsFileFault file text Memory
no_memory_for file text device spelled = search (rules, short)

pub memory_alone : (file : File) (text : List ℕ) (device : Device) (fault : Fault)
    (cause : ImageFault)
    → SpellsDevice text device → IsImageFault text cause → fault ≡ fault_of_image file cause
    → fault ≡ Memory
memory_alone file text device fault cause spelled (inl bad) is =
    absurd (is_no_text text device cause spelled bad)
memory_alone file text device fault cause spelled (inr none) is =
    is ∙ ap (fault_of_image file) none.1

-- where the text is a device's, nothing but memory was wanting
pub only_memory : (file : File) (text : List ℕ) (device : Device) (fault : Fault)
    → SpellsDevice text device → IsFileFault file text fault → fault ≡ Memory
only_memory file text device fault spelled bad =
    memory_alone file text device fault bad.cause spelled bad.applies bad.fault_is

one_of_file : (file : File) (text : List ℕ) (cause fault : Fault) (first second : ImageFault)
    → cause ≢ Memory → IsImageFault text first → cause ≡ fault_of_image file first
    → IsImageFault text second → fault ≡ fault_of_image file second
    → (fault ≡ cause) ⊎ (fault ≡ Memory)
one_of_file file text cause fault first second some (inr none) is h i =
    absurd (some (is ∙ ap (fault_of_image file) none.1))
one_of_file file text cause fault first second some (inl bad) is (inr none) i =
    inr (i ∙ ap (fault_of_image file) none.1)
one_of_file file text cause fault first second some (inl bad) is (inl other) i =
    inl (i ∙ ap (fault_of_image file) (one_fault_lem text second first other bad) ∙ sym is)

pub one_file_fault : (file : File) (text : List ℕ) (cause fault : Fault) → cause ≢ Memory
    → IsFileFault file text cause → IsFileFault file text fault → (fault ≡ cause) ⊎ (fault ≡ Memory)
one_file_fault file text cause fault some h i =
    one_of_file file text cause fault h.cause i.cause some h.applies h.fault_is i.applies i.fault_is

-- why a text is read as no device is the cause
pub reading_named : (text : List ℕ) (why : ImageFault) (fault cause : Fault) → IsImageFault text why
    → fault ≡ fault_of_image Image why → cause ≢ Memory → IsReadingFault text cause
    → (fault ≡ cause) ⊎ (fault ≡ Memory)
reading_named text why fault cause bad told some h =
    one_of_file Image text cause fault h.cause why some h.applies h.fault_is bad told

-- a device's text has no cause
pub reading_good : (text : List ℕ) (device : Device) (cause : Fault) → SpellsDevice text device
    → cause ≢ Memory → IsReadingFault text cause → ⊥
reading_good text device cause spelled some h = some (only_memory Image text device cause spelled h)
