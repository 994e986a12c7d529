-- What was exported by Intel HEX is imported as it was.
use Rattle.std.proofs.Common.{◌≡◌, sym, subst, arith, true, false, Bool, ℕ, ◌+◌, ◌≤◌, ◌^◌, List, length}
use Rattle.ee_flash.specs.Device.{Device}
use Rattle.ee_shell.specs.Dumps.Dump.{IsDump}
use Rattle.ee_interface.specs.CommandLine.Form.{dump_length}
use Rattle.ee_shell.specs.Dumps.Laws.{unworn_device}
use Rattle.ee_shell.specs.Dumps.Kind.{IsOfKind}
use Rattle.ee_shell.specs.Dumps.Places.{IsInShape}
use Rattle.hex.specs.Hex.{IsBytes}
use Rattle.ee_interface.specs.declared.command_line.form.Form.{Form}
use Rattle.ee_interface.specs.declared.command_line.form.Form.TheVariants.{Words, Pairs, Coded}
use Rattle.ee_shell.proofs.DumpsLemmas.Public.{dumps_are_bytes, dumps_are_read_lem, one_reading_lem, sparse_texts_read_back_lem, texts_read_back_lem}
use Rattle.ee_shell.specs.Dumps.intel_hex.Text.{IsHexOf}
use Rattle.ee_image_store.specs.Opening.{SpellsDevice}
use Rattle.ee_interface.specs.declared.fault.Fault.{Fault}
use Rattle.ee_interface.specs.declared.fault.Fault.TheVariants.{Memory}
use Rattle.ee_shell.specs.Part.Hex.{PartFits, IsHexExported, IsHexImportFault, IsHexImported, dump_text}
use Rattle.ee_shell.specs.Part.Moving.{IsImported}
use Rattle.ee_shell.proofs.PartLemmas.Causes.{same_size}
use Rattle.ee_shell.proofs.PartLemmas.Dumps.{dump_exported, exported_in_shape, exported_is, image_again}
use Rattle.ee_shell.proofs.PartLemmas.HexCauses.{hex_lacks}
use Rattle.ee_image_store.proofs.Public.{same_at_rest}

-- the text of an export fits each device that the image spells
fits_here : (fill : Bool) (form : Form) (image hex : List ℕ) (base : ℕ) (device : Device)
    → SpellsDevice image device → IsHexExported fill form image base hex
    → PartFits form base device.size
fits_here fill form image hex base device spelled is =
    subst (PartFits form base)
    (same_size is.exported.device device
    (same_at_rest image is.exported.device device is.exported.spelled spelled)) is.fits

text_says : (fill : Bool) (form : Form) (base : ℕ) (bytes : List ℕ) → IsBytes bytes
    → base + length bytes ≤ 2 ^ 32
    → IsHexOf (dump_text fill form base bytes) base (length bytes) bytes
text_says true form base bytes all near = texts_read_back_lem base bytes all near
text_says false Words base bytes all near =
    sparse_texts_read_back_lem 8 base bytes (omega arith) all near
text_says false Coded base bytes all near =
    sparse_texts_read_back_lem 8 base bytes (omega arith) all near
text_says false Pairs base bytes all near =
    sparse_texts_read_back_lem 16 base bytes (omega arith) all near

-- and says its dump, from its address on
says_dump : (fill : Bool) (form : Form) (image hex : List ℕ) (base : ℕ) (device : Device)
    → SpellsDevice image device → (is : IsHexExported fill form image base hex)
    → IsHexOf hex base (dump_length form device.size) is.dump
says_dump fill form image hex base device spelled is =
    let dump = dump_exported form image is.dump device spelled is.exported in
    let long : length is.dump ≡ dump_length form device.size =
    dumps_are_read_lem form device is.dump spelled.formed dump in
    let near : base + length is.dump ≤ 2 ^ 32 =
    subst (λ (n : ℕ). base + n ≤ 2 ^ 32) (sym long)
    (fits_here fill form image hex base device spelled is) in
    subst (λ (n : ℕ). IsHexOf hex base n is.dump) long
    (subst (λ (text : List ℕ). IsHexOf text base (length is.dump) is.dump) (sym is.hex_is)
    (text_says fill form base is.dump (dumps_are_bytes form device is.dump dump) near))

same_again : (form : Form) (bytes others image other : List ℕ) (device : Device)
    → SpellsDevice image device → IsDump form device bytes → others ≡ bytes
    → IsImported form device.size others other → SpellsDevice other (unworn_device device)
same_again form bytes others image other device spelled is same again =
    image_again form bytes other device image spelled is
    (subst (λ (l : List ℕ). IsImported form device.size l other) same again)

pub hex_import_of_export_lem : (fill : Bool) (form : Form) (image hex : List ℕ) (base : ℕ)
    (device : Device)
    → SpellsDevice image device → (is : IsHexExported fill form image base hex)
    → (IsInShape device → IsOfKind form device.size is.dump → (fault : Fault)
    → IsHexImportFault form device.size base hex fault → fault ≡ Memory)
    × ((other : List ℕ) → IsHexImported form device.size base hex other
    → SpellsDevice other (unworn_device device))
hex_import_of_export_lem fill form image hex base device spelled is =
    let says = says_dump fill form image hex base device spelled is in
    let dump = dump_exported form image is.dump device spelled is.exported in (
      λ in_shape kind fault wrong.
          hex_lacks form device.size base hex (fits_here fill form image hex base device spelled is)
          is.dump fault says (exported_is form is.dump device image spelled dump)
          (λ told other. kind told other.1)
          (exported_in_shape form is.dump device image spelled dump in_shape) wrong,
      λ other again.
          same_again form is.dump again.dump image other device spelled dump
          (one_reading_lem hex again.dump is.dump base (dump_length form device.size) again.says
          says) again.imported,
    )
