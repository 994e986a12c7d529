-- What is left of an image that is rescued.
use Rattle.std.proofs.Common.{◌≡◌, ◌∙◌, ◌++◌, ℕ, List, [], inl, ap, subst}
use Rattle.ee_text.specs.Line.{line_of}
use Rattle.ee_flash.specs.Device.{Device}
use Rattle.ee_flash.specs.Memory.{device_of}
use Rattle.ee_flash.specs.Size.{Size}
use Rattle.ee_flash.specs.declared.memory.MemFlash.{MemFlash}
use Rattle.ee_image.specs.Text.{image_text}
use Rattle.ee_pages.specs.Rescue.{rescued_side}
use Rattle.ee_core.specs.Rescues.{IsRescued}
use Rattle.ee_core.specs.declared.rescuing.Rescued.{Rescued}
use Rattle.ee_interface.specs.declared.fault.Fault.TheVariants as fault
use Rattle.ee_interface.specs.declared.fault.File.TheVariants.{Image}
use Rattle.ee_image_store.specs.Opening.{IsStoreLeft, SpellsDevice}
use Rattle.ee_image_store.proofs.Public.{formed_of, no_memory_for}
use Rattle.ee_commands.specs.Rescuing.{IsRescueFault, IsRescuedImage, bad_lines, rescued_text}

pub is_rescued_image : (image new_image empty mid text : List ℕ) (device last : Device)
    (rescued : Rescued)
    → SpellsDevice image device → IsRescued device rescued last
    → IsStoreLeft last.size new_image last → empty ≡ []
    → mid ≡ empty ++ bad_lines device (rescued_side device)
    → text ≡ mid ++ line_of (rescued_text rescued) → IsRescuedImage image new_image text
is_rescued_image image new_image empty mid text device last rescued spelled rescues left none bad
    says =
    record {
      device = device;
      last = last;
      rescued = rescued;
      old = spelled;
      rescues = rescues;
      left =
          subst (λ (size : Size). IsStoreLeft size new_image last) rescues.goes_on.same_size left;
      text_is =
          says
          ∙ ap (λ lines. lines ++ line_of (rescued_text rescued))
          (bad ∙ ap (λ lines. lines ++ bad_lines device (rescued_side device)) none);
    }

-- what was read of the text
pub is_spelled : {A : Type 0} (image : List ℕ) (flash : MemFlash A)
    → image ≡ image_text (device_of flash) → SpellsDevice image (device_of flash)
is_spelled image flash is = record { formed = formed_of flash; text_is = is }

pub rescue_memory : (image : List ℕ) (device : Device) → SpellsDevice image device
    → IsRescueFault image fault.Memory
rescue_memory image device spelled = inl (no_memory_for Image image device spelled)
