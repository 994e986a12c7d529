-- What was exported is imported as it was, and the other way round.
use Rattle.std.proofs.Common.{◌≡◌, ◌∙◌, sym, subst, ℕ, List}
use Rattle.ee_flash.specs.Device.{Device}
use Rattle.ee_flash.specs.Size.{Size}
use Rattle.ee_shell.specs.Dumps.Dump.{IsDump, IsWholePage}
use Rattle.ee_shell.specs.Dumps.Laws.{unworn_device}
use Rattle.ee_shell.specs.Dumps.Kind.{IsOfKind}
use Rattle.ee_shell.specs.Dumps.Places.{IsFirstMisplaced, IsInShape}
use Rattle.ee_shell.specs.declared.dumps.places.Sought.TheVariants as look
use Rattle.ee_interface.specs.declared.command_line.form.Form.{Form}
use Rattle.ee_interface.specs.declared.command_line.form.Form.TheVariants.{Words}
use Rattle.ee_shell.proofs.DumpsLemmas.Public.{dumps_are_read_lem, import_of_export_lem, none_sought, whole_import_lem}
use Rattle.ee_image_store.specs.Opening.{SpellsDevice}
use Rattle.ee_interface.specs.declared.fault.Fault.{Fault}
use Rattle.ee_interface.specs.declared.fault.Fault.TheVariants.{Memory}
use Rattle.ee_shell.specs.Part.Faults.{IsImportFault}
use Rattle.ee_shell.specs.Part.Moving.{IsExported, IsImported}
use Rattle.ee_shell.proofs.PartLemmas.Causes.{HasNoOtherShape, IsADump, import_lacks, moved_dump}
use Rattle.ee_image_store.proofs.Public.{same_at_rest}

-- the dump that was exported is that of each device that the image spells
pub dump_exported : (form : Form) (image bytes : List ℕ) (device : Device)
    → SpellsDevice image device → IsExported form image bytes → IsDump form device bytes
dump_exported form image bytes device spelled is =
    moved_dump form is.device device bytes (same_at_rest image is.device device is.spelled spelled)
    is.dump_is

pub image_again : (form : Form) (bytes other : List ℕ) (device : Device) (image : List ℕ)
    → SpellsDevice image device → IsDump form device bytes → IsImported form device.size bytes other
    → SpellsDevice other (unworn_device device)
image_again form bytes other device image spelled is again =
    subst (SpellsDevice other)
    ((import_of_export_lem form device again.device bytes spelled.formed is).0
    again.spelled.formed again.made) again.spelled

-- what was exported can be imported
pub exported_is : (form : Form) (bytes : List ℕ) (device : Device) (image : List ℕ)
    → SpellsDevice image device → IsDump form device bytes → IsADump form device.size bytes
exported_is form bytes device image spelled is = (
  dumps_are_read_lem form device bytes
      spelled.formed is,
  (import_of_export_lem form device device bytes spelled.formed is).1,
)

-- no word of it tells another shape, if none of the image does
pub exported_in_shape : (form : Form) (bytes : List ℕ) (device : Device) (image : List ℕ)
    → SpellsDevice image device → IsDump form device bytes → IsInShape device
    → HasNoOtherShape form device.size bytes
exported_in_shape form bytes device image spelled is in_shape fault h =
    let same : h.device ≡ unworn_device device =
    (import_of_export_lem form device h.device bytes spelled.formed is).0 h.formed h.made in
    none_sought look.Misplaced (unworn_device device) h.page h.at in_shape
    (subst (λ (d : Device). IsFirstMisplaced d h.page h.at) same h.first)

pub import_again_lem : (form : Form) (image bytes : List ℕ) (device : Device)
    → SpellsDevice image device → IsExported form image bytes
    → (IsInShape device → IsOfKind form device.size bytes → (fault : Fault)
    → IsImportFault form device.size bytes fault → fault ≡ Memory)
    × ((other : List ℕ) → IsImported form device.size bytes other
    → SpellsDevice other (unworn_device device))
import_again_lem form image bytes device spelled exported =
    let dump = dump_exported form image bytes device spelled exported in (
      λ in_shape kind fault wrong.
          import_lacks form device.size bytes fault
          (exported_is form bytes device image spelled dump) (λ told other. kind told other.1)
          (exported_in_shape form bytes device image spelled dump in_shape) wrong,
      λ other again. image_again form bytes other device image spelled dump again,
    )

pub export_of_import_lem : (image bytes : List ℕ) (size : Size) → IsImported Words size bytes image
    → IsExported Words image bytes
    × ((other : List ℕ) → IsExported Words image other → other ≡ bytes)
export_of_import_lem image bytes size imported = (
  record { device = imported.device; spelled = imported.spelled; dump_is = imported.made.dump_is },
  λ other again. (dump_exported Words image other imported.device imported.spelled again).bytes_are
      ∙ sym imported.made.dump_is.bytes_are,
)

pub torn_export_of_import_lem : (form : Form) (image bytes : List ℕ) (size : Size)
    → (imported : IsImported form size bytes image)
    → (((page : ℕ) → IsWholePage imported.device page) → IsExported form image bytes)
    × ((other : List ℕ) → IsExported form image other → other ≡ bytes)
torn_export_of_import_lem form image bytes size imported =
    let is =
    whole_import_lem form size bytes imported.device imported.spelled.formed imported.made in (
      λ whole. record { device = imported.device; spelled = imported.spelled; dump_is = is whole },
      λ other again.
          let exported = dump_exported form image other imported.device imported.spelled again in
          exported.bytes_are ∙ sym (is exported.whole).bytes_are,
    )
