-- There is one cause at most for which nothing moves, but for want of memory; and none
-- where something did.
use Rattle.std.proofs.Common.{◌≡◌, ◌≢◌, ◌⊎◌, inl, inr, ◌∙◌, ◌<◌, refl, sym, ap, subst, false, true, ℕ, List, length, Result, Ok, Err, IfErr, IfOk, MatchResult, rules}
use Rattle.std.specs.List.{flat_map}
use Rattle.ee_flash.specs.Device.{Device, IsFormed, word_at}
use Rattle.ee_flash.specs.Size.{Size}
use Rattle.ee_image.specs.Text.{at_rest}
use Rattle.ee_shell.specs.Dumps.Dump.{IsCodable, IsDump, IsFirstTorn, IsImport, IsWholePage, device_words, word_bytes}
use Rattle.ee_interface.specs.CommandLine.Form.{dump_length}
use Rattle.ee_shell.specs.Dumps.Fault.{HasLowPair, HasUncoded, IsDumpFault, IsWriteFault}
use Rattle.ee_shell.specs.Dumps.Kind.{IsOfKind, IsOfOtherKind}
use Rattle.ee_shell.specs.Dumps.Places.{HasAllCodes, HasNoneIn, IsFirstMisplaced, IsFirstSought, is_sought}
use Rattle.ee_shell.specs.declared.dumps.kind.Marking.{Marking}
use Rattle.ee_shell.specs.declared.dumps.places.Sought.{Sought}
use Rattle.ee_shell.specs.declared.dumps.places.Sought.TheVariants as look
use Rattle.ee_interface.specs.declared.command_line.form.Form.{Form}
use Rattle.ee_interface.specs.declared.command_line.form.Form.TheVariants.{Words, Pairs, Coded}
use Rattle.ee_shell.specs.declared.dumps.fault.DumpFault.{DumpFault}
use Rattle.ee_shell.specs.declared.dumps.fault.DumpFault.TheVariants as dump
use Rattle.ee_shell.specs.declared.dumps.fault.WriteFault.{WriteFault}
use Rattle.ee_shell.specs.declared.dumps.fault.WriteFault.TheVariants as write
use Rattle.ee_shell.proofs.DumpsLemmas.Public.{imports_agree, imports_are_read, none_sought, one_kind, one_low_fault, one_sought, one_write_cause, write_has_none}
use Rattle.ee_image_store.specs.Opening.{SpellsDevice}
use Rattle.ee_image_store.proofs.Public.{one_file_fault, only_memory, reading_good, same_at_rest}
use Rattle.ee_interface.specs.declared.fault.Fault.{Fault}
use Rattle.ee_interface.specs.declared.fault.Fault.TheVariants.{DumpLength, Memory, Misplaced}
use Rattle.ee_interface.specs.declared.fault.File.TheVariants.{Image}
use Rattle.ee_shell.specs.Part.Faults.{IsBytesFault, IsDeviceFault, IsExportFault, IsImportFault, IsKindFault, IsNotToldOther, IsShapeFault, fault_of_dump, fault_of_marking, fault_of_write}
use Rattle.ee_shell.specs.Part.Moving.{IsExported, IsImported}

-- the fault is the cause, or memory ran out
abbrev pub IsNamed : Fault → Fault → Type 0
IsNamed fault cause = (fault ≡ cause) ⊎ (fault ≡ Memory)

-- ---- two devices of one text

moved_torn : (device other : Device) (page at : ℕ) → at_rest device ≡ at_rest other
    → IsFirstTorn device page at → IsFirstTorn other page at
moved_torn device other page at same first = search rules

moved_sought : (sought : Sought) (device other : Device) (page at : ℕ)
    → at_rest device ≡ at_rest other → IsFirstSought sought device page at
    → IsFirstSought sought other page at
moved_sought sought device other page at same first = record {
  here = record {
    found = subst (λ (d : Device). is_sought sought at (word_at d page at) ≡ true) same
        first.here.found;
    none_before =
        subst
        (λ (d : Device). (k : ℕ) → k < at → is_sought sought k (word_at d page k) ≡ false) same
        first.here.none_before;
  };
  pages_before = subst (λ (d : Device). (k : ℕ) → k < page → HasNoneIn sought d k) same
      first.pages_before;
}

moved_uncoded : (form : Form) (device other : Device) (page at : ℕ)
    → at_rest device ≡ at_rest other → HasUncoded form device page at
    → HasUncoded form other page at
moved_uncoded Words device other page at same first = first
moved_uncoded Pairs device other page at same first = first
moved_uncoded Coded device other page at same first =
    moved_sought look.Uncoded device other page at same first

moved_whole : (device other : Device) → at_rest device ≡ at_rest other
    → ((page : ℕ) → IsWholePage device page) → (page : ℕ) → IsWholePage other page
moved_whole device other same whole =
    subst (λ (d : Device). (page : ℕ) → IsWholePage d page) same whole

moved_codable : (form : Form) (device other : Device) → at_rest device ≡ at_rest other
    → IsCodable form device → IsCodable form other
moved_codable Words device other same codable = codable
moved_codable Pairs device other same codable = codable
moved_codable Coded device other same codable = subst HasAllCodes same codable

moved_cause : (form : Form) (device other : Device) (cause : WriteFault)
    → at_rest device ≡ at_rest other → IsWriteFault form device cause
    → IsWriteFault form other cause
moved_cause form device other (write.TornWord page at) same first =
    moved_torn device other page at same first
moved_cause form device other (write.Uncoded page at) same first =
    (moved_whole device other same first.0, moved_uncoded form device other page at same first.1)
moved_cause form device other write.Memory same lack = lack

pub moved_dump : (form : Form) (device other : Device) (bytes : List ℕ)
    → at_rest device ≡ at_rest other → IsDump form device bytes → IsDump form other bytes
moved_dump form device other bytes same is = record {
  whole = moved_whole device other same is.whole;
  codable = moved_codable form device other same is.codable;
  bytes_are =
      is.bytes_are
      ∙ ap (λ (d : Device). flat_map (word_bytes form d.size) (device_words d)) same;
}

pub same_size : (device other : Device) → at_rest device ≡ at_rest other → device.size ≡ other.size
same_size device other same = ap (λ (d : Device). d.size) same

-- ---- a device without a dump

fault_named : (cause fault : WriteFault) → (fault ≡ cause) ⊎ (fault ≡ write.Memory)
    → IsNamed (fault_of_write fault) (fault_of_write cause)
fault_named cause fault (inl same) = inl (ap fault_of_write same)
fault_named cause fault (inr none) = inr (ap fault_of_write none)

some_cause : (cause : WriteFault) → fault_of_write cause ≢ Memory → cause ≢ write.Memory
some_cause cause some is = some (ap fault_of_write is)

pub one_device_fault : (form : Form) (device other : Device) (cause fault : Fault)
    → at_rest device ≡ at_rest other → cause ≢ Memory → IsDeviceFault form device cause
    → IsDeviceFault form other fault → IsNamed fault cause
one_device_fault form device other cause fault same some h i =
    let named = fault_named h.cause i.cause
    (one_write_cause form other h.cause i.cause
    (some_cause h.cause (λ none. some (h.fault_is ∙ none)))
    (moved_cause form device other h.cause same h.applies) i.applies) in
    elim named [
      | inl is ↦ inl (i.fault_is ∙ is ∙ sym h.fault_is)
      | inr none ↦ inr (i.fault_is ∙ none)
    ]

-- a device with a dump has no cause
pub device_good : (form : Form) (device other : Device) (bytes : List ℕ) (cause : Fault)
    → at_rest device ≡ at_rest other → IsDump form other bytes → cause ≢ Memory
    → IsDeviceFault form device cause → ⊥
device_good form device other bytes cause same is some h =
    some
    (h.fault_is
    ∙ ap fault_of_write
    (write_has_none form device bytes h.cause
    (moved_dump form other device bytes (sym same) is) h.applies))

-- ---- exports

pub one_export_fault : (form : Form) (image : List ℕ) (cause fault : Fault) → cause ≢ Memory
    → IsExportFault form image cause → IsExportFault form image fault → IsNamed fault cause
one_export_fault form image cause fault some (inl h) (inl i) =
    one_file_fault Image image cause fault some h i
one_export_fault form image cause fault some (inl h) (inr i) =
    absurd (reading_good image i.0 cause i.1 some h)
one_export_fault form image cause fault some (inr h) (inl i) =
    inr (only_memory Image image h.0 fault h.1 i)
one_export_fault form image cause fault some (inr h) (inr i) =
    one_device_fault form h.0 i.0 cause fault (same_at_rest image h.0 i.0 h.1 i.1) some h.2 i.2

pub exported_good : (form : Form) (image bytes : List ℕ) (cause : Fault)
    → IsExported form image bytes → cause ≢ Memory → IsExportFault form image cause → ⊥
exported_good form image bytes cause is some (inl h) =
    reading_good image is.device cause is.spelled some h
exported_good form image bytes cause is some (inr h) =
    device_good form h.0 is.device bytes cause (same_at_rest image h.0 is.device h.1 is.spelled)
    is.dump_is some h.2

-- ---- imports

low_long : (form : Form) (size : Size) (bytes : List ℕ) (page at : ℕ)
    → HasLowPair form size bytes page at → length bytes ≡ dump_length form size
low_long Words size bytes page at has = absurd has
low_long Coded size bytes page at has = absurd has
low_long Pairs size bytes page at has = has.0

one_low : (form : Form) (size : Size) (bytes : List ℕ) (page at other place : ℕ)
    → HasLowPair form size bytes page at → HasLowPair form size bytes other place
    → dump.LowPair other place ≡ dump.LowPair page at
one_low Words size bytes page at other place has also = absurd has
one_low Coded size bytes page at other place has also = absurd has
one_low Pairs size bytes page at other place has also =
    one_low_fault size bytes page at other place has.1 also.1

one_dump_fault : (form : Form) (size : Size) (bytes : List ℕ) (cause fault : DumpFault)
    → IsDumpFault form size bytes cause → IsDumpFault form size bytes fault
    → (fault ≡ cause) ⊎ (fault ≡ dump.Memory) ⊎ (cause ≡ dump.Memory)
one_dump_fault form size bytes cause fault h1 h2 = search (rules, low_long, one_low)

one_bytes_fault : (form : Form) (size : Size) (bytes : List ℕ) (cause fault : Fault)
    → cause ≢ Memory → IsBytesFault form size bytes cause → IsBytesFault form size bytes fault
    → IsNamed fault cause
one_bytes_fault form size bytes cause fault some h i = search (rules, one_dump_fault)

-- there is a device with this dump
abbrev pub IsADump : Form → Size → List ℕ → Type 0
IsADump form size bytes =
    (length bytes ≡ dump_length form size)
    × ((page at : ℕ) → HasLowPair form size bytes page at → ⊥)

dump_has_no_cause : (form : Form) (size : Size) (bytes : List ℕ) (cause : DumpFault)
    → IsADump form size bytes → IsDumpFault form size bytes cause → cause ≡ dump.Memory
dump_has_no_cause form size bytes cause h1 h2 = search rules

bytes_lack : (form : Form) (size : Size) (bytes : List ℕ) (fault : Fault)
    → IsADump form size bytes → IsBytesFault form size bytes fault → fault ≡ Memory
bytes_lack form size bytes fault is h =
    h.fault_is ∙ ap fault_of_dump (dump_has_no_cause form size bytes h.cause is h.applies)

-- what makes a device of another shape is a dump
shape_is : (form : Form) (size : Size) (bytes : List ℕ) (fault : Fault)
    → IsShapeFault form size bytes fault → IsADump form size bytes
shape_is form size bytes fault h = imports_are_read form size bytes h.device h.formed h.made

one_shape_fault : (form : Form) (size : Size) (bytes : List ℕ) (cause fault : Fault)
    → IsShapeFault form size bytes cause → IsShapeFault form size bytes fault → fault ≡ cause
one_shape_fault form size bytes cause fault h i =
    let same : h.device ≡ i.device =
    imports_agree form size bytes h.device i.device h.formed i.formed h.made i.made in
    let places : (i.page ≡ h.page) × (i.at ≡ h.at) =
    one_sought look.Misplaced i.device h.page h.at i.page i.at
    (subst (λ (d : Device). IsFirstMisplaced d h.page h.at) same h.first) i.first in
    i.fault_is ∙ ap (λ (p : ℕ). Misplaced p i.at) places.0 ∙ ap (Misplaced h.page) places.1
    ∙ sym h.fault_is

one_kind_fault : (form : Form) (size : Size) (bytes : List ℕ) (cause fault : Fault)
    → IsKindFault form size bytes cause → IsKindFault form size bytes fault → fault ≡ cause
one_kind_fault form size bytes cause fault h i =
    i.fault_is ∙ ap fault_of_marking (one_kind form size bytes h.told i.told h.other.1 i.other.1)
    ∙ sym h.fault_is

pub one_import_fault : (form : Form) (size : Size) (bytes : List ℕ) (cause fault : Fault)
    → cause ≢ Memory → IsImportFault form size bytes cause → IsImportFault form size bytes fault
    → IsNamed fault cause
one_import_fault form size bytes cause fault some (inl h) (inl i) =
    inl (one_kind_fault form size bytes cause fault h i)
one_import_fault form size bytes cause fault some (inl h) (inr i) =
    absurd (i.0 h.told h.other)
one_import_fault form size bytes cause fault some (inr h) (inl i) =
    absurd (h.0 i.told i.other)
one_import_fault form size bytes cause fault some (inr (asked, inl h)) (inr (also, inl i)) =
    one_bytes_fault form size bytes cause fault some h i
one_import_fault form size bytes cause fault some (inr (asked, inl h)) (inr (also, inr i)) =
    absurd (some (bytes_lack form size bytes cause (shape_is form size bytes fault i) h))
one_import_fault form size bytes cause fault some (inr (asked, inr h)) (inr (also, inl i)) =
    inr (bytes_lack form size bytes fault (shape_is form size bytes cause h) i)
one_import_fault form size bytes cause fault some (inr (asked, inr h)) (inr (also, inr i)) =
    inl (one_shape_fault form size bytes cause fault h i)

-- no device of another shape has this dump
abbrev pub HasNoOtherShape : Form → Size → List ℕ → Type 0
HasNoOtherShape form size bytes = (fault : Fault) → IsShapeFault form size bytes fault → ⊥

-- where there is one, no mark tells another kind, and none is of another shape, nothing but memory
-- was wanting
pub import_lacks : (form : Form) (size : Size) (bytes : List ℕ) (fault : Fault)
    → IsADump form size bytes → IsNotToldOther form size bytes → HasNoOtherShape form size bytes
    → IsImportFault form size bytes fault → fault ≡ Memory
import_lacks form size bytes fault is asked no_other (inl h) = absurd (asked h.told h.other)
import_lacks form size bytes fault is asked no_other (inr (also, inl h)) =
    bytes_lack form size bytes fault is h
import_lacks form size bytes fault is asked no_other (inr (also, inr h)) =
    absurd (no_other fault h)

-- what was imported is one
pub imported_is : (form : Form) (size : Size) (bytes image : List ℕ)
    → IsImported form size bytes image → IsADump form size bytes
imported_is form size bytes image is =
    imports_are_read form size bytes is.device is.spelled.formed is.made

imported_in_shape : (form : Form) (size : Size) (bytes image : List ℕ)
    → IsImported form size bytes image → HasNoOtherShape form size bytes
imported_in_shape form size bytes image is fault h =
    let same : h.device ≡ is.device =
    imports_agree form size bytes h.device is.device h.formed is.spelled.formed h.made is.made in
    none_sought look.Misplaced is.device h.page h.at is.in_shape
    (subst (λ (d : Device). IsFirstMisplaced d h.page h.at) same h.first)

pub imported_good : (form : Form) (size : Size) (bytes image : List ℕ) (cause : Fault)
    → IsImported form size bytes image → cause ≢ Memory → IsImportFault form size bytes cause → ⊥
imported_good form size bytes image cause is some h =
    some
    (import_lacks form size bytes cause (imported_is form size bytes image is) is.kind
    (imported_in_shape form size bytes image is) h)

-- a dump of the right length that no mark tells to be another
pub bytes_wrong : (form : Form) (size : Size) (bytes : List ℕ) (cause : DumpFault) (fault : Fault)
    → IsOfKind form size bytes → IsDumpFault form size bytes cause → fault ≡ fault_of_dump cause
    → IsImportFault form size bytes fault
bytes_wrong form size bytes cause fault kind applies told =
    inr (
      λ marking other. kind marking other.1,
      inl record {
        cause = cause;
        applies = applies;
        fault_is = told;
      },
    )

pub length_wrong : (form : Form) (size : Size) (bytes : List ℕ)
    → length bytes ≢ dump_length form size → IsImportFault form size bytes DumpLength
length_wrong form size bytes other =
    inr (
      λ marking told. other told.0,
      inl record {
        cause = dump.Length;
        applies = other;
        fault_is = refl;
      },
    )

pub kind_wrong : (form : Form) (size : Size) (bytes : List ℕ) (told : Marking) (fault : Fault)
    → length bytes ≡ dump_length form size → IsOfOtherKind form size bytes told
    → fault ≡ fault_of_marking told → IsImportFault form size bytes fault
kind_wrong form size bytes told fault long other is =
    inl record { told = told; other = (long, other); fault_is = is }

-- memory may run out where a dump was read
pub import_memory : (form : Form) (size : Size) (bytes : List ℕ) (device : Device) → IsFormed device
    → IsOfKind form size bytes → IsImport form size bytes device
    → IsImportFault form size bytes Memory
import_memory form size bytes device formed kind made =
    bytes_wrong form size bytes dump.Memory Memory kind
    (imports_are_read form size bytes device formed made).0 refl

-- the first word that tells another shape
pub misplaced_told : (form : Form) (size : Size) (bytes : List ℕ) (device : Device) (page at : ℕ)
    → IsFormed device → IsOfKind form size bytes → IsImport form size bytes device
    → IsFirstMisplaced device page at → IsImportFault form size bytes (Misplaced page at)
misplaced_told form size bytes device page at formed kind made first =
    inr (
      λ marking other. kind marking other.1,
      inr record {
        device = device;
        formed = formed;
        made = made;
        page = page;
        at = at;
        first = first;
        fault_is = refl;
      },
    )

-- ---- a device that was read, and then written as bytes, or not

module _ {T : Type 0} (items : T → List ℕ) (form : Form) (image : List ℕ) (device : Device)
    (spelled : SpellsDevice image device) where
  pub is_exported : (r : Result T Fault) → IfOk r (λ t. IsDump form device (items t))
      → IfOk r (λ t. IsExported form image (items t))
  is_exported (Ok t) is = record { device = device; spelled = spelled; dump_is = is }
  is_exported (Err fault) is = tt

  pub is_not_exported : (r : Result T Fault) → IfErr r (IsDeviceFault form device)
      → IfErr r (IsExportFault form image)
  is_not_exported (Ok t) wrong = tt
  is_not_exported (Err fault) wrong = inr (device, spelled, wrong)

  pub export_named : (r : Result T Fault) (cause : Fault)
      → IfOk r (λ t. IsDump form device (items t)) → IfErr r (IsDeviceFault form device) → cause ≢ Memory
      → IsExportFault form image cause
      → MatchResult r (λ _. ⊥) (λ fault. (fault ≡ cause) ⊎ (fault ≡ Memory))
  export_named (Ok t) cause is wrong some h =
      exported_good form image (items t) cause (is_exported (Ok t) is) some h
  export_named (Err fault) cause is wrong some h =
      one_export_fault form image cause fault some h (inr (device, spelled, wrong))
