-- What holds of every device and every text.
use Rattle.std.specs.Prelude.{◌≡◌, ◌⊎◌, List, ℕ}
use Rattle.ee_flash.specs.Device.{Device, IsFormed}
use Rattle.ee_image.specs.Text.{image_text, at_rest}
use Rattle.ee_image.specs.Fault.{IsImageTextFault}
use Rattle.ee_image.specs.declared.fault.ImageFault.{ImageFault}

-- two devices with one text are the same, but for power and cuts
abbrev pub OneDevice : Type 0
OneDevice =
    (device other : Device) → IsFormed device → IsFormed other
    → image_text device ≡ image_text other → at_rest device ≡ at_rest other

-- a device's text has no fault
abbrev pub TextsAreGood : Type 0
TextsAreGood =
    (device : Device) (fault : ImageFault) → IsFormed device
    → IsImageTextFault (image_text device) fault → ⊥

-- a text has one fault at most
abbrev pub OneFault : Type 0
OneFault =
    (text : List ℕ) (fault other : ImageFault) → IsImageTextFault text fault
    → IsImageTextFault text other → fault ≡ other

-- every text is a device's or has a fault
abbrev pub EachTextIsJudged : Type 0
EachTextIsJudged =
    (text : List ℕ)
    → ((device : Device) × IsFormed device × (text ≡ image_text device))
    ⊎ ((fault : ImageFault) × IsImageTextFault text fault)
