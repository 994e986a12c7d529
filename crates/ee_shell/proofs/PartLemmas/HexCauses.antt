-- There is one cause at most for which nothing moves by Intel HEX, but for want of memory.
use Rattle.std.proofs.Common.{◌≡◌, ◌≢◌, ◌⊎◌, inl, inr, ◌∙◌, refl, sym, ap, subst, arith, Bool, ℕ, ◌+◌, ◌≤◌, ◌^◌, List, length, Result, Ok, Err, IfErr, IfOk, rules}
use Rattle.ee_flash.specs.Device.{Device, IsFormed}
use Rattle.ee_flash.specs.Size.{Size}
use Rattle.ee_image.specs.Text.{at_rest}
use Rattle.ee_shell.specs.Dumps.Dump.{IsDump}
use Rattle.ee_interface.specs.CommandLine.Form.{dump_length}
use Rattle.ee_interface.specs.declared.command_line.form.Form.{Form}
use Rattle.ee_shell.specs.declared.dumps.fault.WriteFault.TheVariants as write
use Rattle.ee_shell.proofs.DumpsLemmas.Public.{dumps_are_read_lem, one_reading_lem, readings_are_good_lem}
use Rattle.ee_shell.specs.Dumps.intel_hex.Fault.{IsBadHexLine, IsHexFault}
use Rattle.ee_shell.specs.Dumps.intel_hex.Text.{IsHexOf}
use Rattle.ee_shell.specs.declared.dumps.intel_hex.fault.HexFault.{HexFault}
use Rattle.ee_shell.specs.declared.dumps.intel_hex.fault.HexFault.TheVariants as hex
use Rattle.ee_image_store.specs.Opening.{SpellsDevice}
use Rattle.ee_interface.specs.declared.fault.Fault.{Fault}
use Rattle.ee_interface.specs.declared.fault.Fault.TheVariants.{Base, Memory}
use Rattle.ee_interface.specs.declared.fault.File.TheVariants.{Image}
use Rattle.ee_image_store.proofs.Public.{one_file_fault, only_memory, reading_good, same_at_rest}
use Rattle.ee_shell.specs.Part.Faults.{IsDeviceFault, IsImportFault, IsNotToldOther}
use Rattle.ee_interface.specs.Causes.{NamesEach}
use Rattle.ee_shell.specs.Part.Hex.{PartFits, IsHexExportFault, IsHexExported, IsHexImportFault, IsHexImported, IsPlacedFault, IsHexTextFault, dump_text, fault_of_hex}
use Rattle.ee_shell.specs.Part.Moving.{IsImported}
use Rattle.ee_shell.proofs.PartLemmas.Causes.{HasNoOtherShape, IsADump, IsNamed, device_good, import_lacks, one_device_fault, same_size}

-- ---- imports

module _ (form : Form) (size : Size) (base : ℕ) where
  pub not_fitting : (text : List ℕ) → ¬ PartFits form base size
      → IsHexImportFault form size base text Base
  not_fitting text far = inl (far, refl)

  pub not_placed : (text : List ℕ) (cause : Fault) → ¬ PartFits form base size
      → IsHexImportFault form size base text cause → IsNamed Base cause
  not_placed text cause far (inl h) = inl (sym h.1)
  not_placed text cause far (inr (inl h)) = absurd (far h.fits)
  not_placed text cause far (inr (inr h)) = absurd (far h.fits)

named_by : (text : List ℕ) (base count : ℕ) (given why : HexFault)
    → ((n : ℕ) → IsBadHexLine text base count n → (given ≡ hex.BadLine n) ⊎ (given ≡ hex.Memory))
    → IsHexFault text base count why → (given ≡ why) ⊎ (given ≡ hex.Memory) ⊎ (why ≡ hex.Memory)
named_by text base count given (hex.BadLine n) names bad =
    elim (names n bad) [ inl one ↦ inl one | inr none ↦ inr (inl none) ]
named_by text base count given hex.Memory names lack = inr (inr refl)

-- a text that says bytes is refused for want of memory alone
said_lacks : (text bytes : List ℕ) (base count : ℕ) (given : HexFault)
    → IsHexOf text base count bytes → IsHexFault text base count given → given ≡ hex.Memory
said_lacks text bytes base count (hex.BadLine n) says bad =
    absurd (readings_are_good_lem text bytes base count n says bad)
said_lacks text bytes base count hex.Memory says lack = refl

module _ (form : Form) (size : Size) (base : ℕ) (text : List ℕ)
    (near : PartFits form base size) where
  text_named : (given : HexFault) (fault cause : Fault)
      → ((n : ℕ) → IsBadHexLine text base (dump_length form size) n
      → (given ≡ hex.BadLine n) ⊎ (given ≡ hex.Memory))
      → fault ≡ fault_of_hex given → cause ≢ Memory → IsHexTextFault form size base text cause
      → IsNamed fault cause
  text_named given fault cause names told some h = search (rules, named_by)

  -- what the reader told is the cause
  pub hex_named : (given : HexFault) (fault cause : Fault)
      → ((n : ℕ) → IsBadHexLine text base (dump_length form size) n
      → (given ≡ hex.BadLine n) ⊎ (given ≡ hex.Memory))
      → IsHexFault text base (dump_length form size) given → fault ≡ fault_of_hex given
      → cause ≢ Memory → IsHexImportFault form size base text cause → IsNamed fault cause
  hex_named given fault cause names wrong told some (inl h) = absurd (h.0 near)
  hex_named given fault cause names wrong told some (inr (inl h)) =
      text_named given fault cause names told some h
  hex_named given fault cause names wrong told some (inr (inr h)) =
      inr
      (told
      ∙ ap fault_of_hex
      (said_lacks text h.dump base (dump_length form size) given h.says wrong))

  -- and it is the cause of a text of that length
  pub text_wrong : (given : HexFault) (fault : Fault)
      → IsHexFault text base (dump_length form size) given → fault ≡ fault_of_hex given
      → IsHexImportFault form size base text fault
  text_wrong given fault wrong told =
      inr (inl record { fits = near; cause = given; applies = wrong; fault_is = told })

  -- a text that says a dump is refused for what is wrong with it, or for want of memory
  said_cause : (bytes : List ℕ) (cause : Fault) → IsHexOf text base (dump_length form size) bytes
      → cause ≢ Memory → IsHexImportFault form size base text cause
      → IsImportFault form size bytes cause
  said_cause bytes cause says some (inl h) = absurd (h.0 near)
  said_cause bytes cause says some (inr (inl h)) =
      absurd
      (some
      (h.fault_is
      ∙ ap fault_of_hex
      (said_lacks text bytes base (dump_length form size) h.cause says h.applies)))
  said_cause bytes cause says some (inr (inr h)) =
      subst (λ (l : List ℕ). IsImportFault form size l cause)
      (one_reading_lem text h.dump bytes base (dump_length form size) h.says says) h.wrong

  -- where it is one, nothing but memory was wanting
  pub hex_lacks : (bytes : List ℕ) (cause : Fault) → IsHexOf text base (dump_length form size) bytes
      → IsADump form size bytes → IsNotToldOther form size bytes
      → HasNoOtherShape form size bytes → IsHexImportFault form size base text cause
      → cause ≡ Memory
  hex_lacks bytes cause says is asked no_other (inl h) = absurd (h.0 near)
  hex_lacks bytes cause says is asked no_other (inr (inl h)) =
      h.fault_is
      ∙ ap fault_of_hex (said_lacks text bytes base (dump_length form size) h.cause says h.applies)
  hex_lacks bytes cause says is asked no_other (inr (inr h)) =
      import_lacks form size bytes cause is asked no_other
      (subst (λ (l : List ℕ). IsImportFault form size l cause)
      (one_reading_lem text h.dump bytes base (dump_length form size) h.says says) h.wrong)

-- ---- exports

placed_named : (form : Form) (device other : Device) (base : ℕ) (cause fault : Fault)
    → at_rest device ≡ at_rest other → cause ≢ Memory → IsPlacedFault form device base cause
    → IsPlacedFault form other base fault → IsNamed fault cause
placed_named form device other base cause fault same some (inl h) (inl i) = inl (i.1 ∙ sym h.1)
placed_named form device other base cause fault same some (inl h) (inr i) =
    absurd (h.0 (subst (PartFits form base) (sym (same_size device other same)) i.0))
placed_named form device other base cause fault same some (inr h) (inl i) =
    absurd (i.0 (subst (PartFits form base) (same_size device other same) h.0))
placed_named form device other base cause fault same some (inr h) (inr i) =
    one_device_fault form device other cause fault same some h.1 i.1

pub one_hex_export_fault : (form : Form) (image : List ℕ) (base : ℕ) (cause fault : Fault)
    → cause ≢ Memory → IsHexExportFault form image base cause
    → IsHexExportFault form image base fault → IsNamed fault cause
one_hex_export_fault form image base cause fault some (inl h) (inl i) =
    one_file_fault Image image cause fault some h i
one_hex_export_fault form image base cause fault some (inl h) (inr i) =
    absurd (reading_good image i.0 cause i.1 some h)
one_hex_export_fault form image base cause fault some (inr h) (inl i) =
    inr (only_memory Image image h.0 fault h.1 i)
one_hex_export_fault form image base cause fault some (inr h) (inr i) =
    placed_named form h.0 i.0 base cause fault (same_at_rest image h.0 i.0 h.1 i.1) some h.2 i.2

placed_good : (form : Form) (device other : Device) (base : ℕ) (bytes : List ℕ) (cause : Fault)
    → at_rest device ≡ at_rest other → PartFits form base other.size → IsDump form other bytes
    → cause ≢ Memory → IsPlacedFault form device base cause → ⊥
placed_good form device other base bytes cause same near is some (inl h) =
    h.0 (subst (PartFits form base) (sym (same_size device other same)) near)
placed_good form device other base bytes cause same near is some (inr h) =
    device_good form device other bytes cause same is some h.1

pub hex_exported_good : (fill : Bool) (form : Form) (image : List ℕ) (base : ℕ) (text : List ℕ)
    (cause : Fault)
    → IsHexExported fill form image base text → cause ≢ Memory → IsHexExportFault form image base cause
    → ⊥
hex_exported_good fill form image base text cause is some (inl h) =
    reading_good image is.exported.device cause is.exported.spelled some h
hex_exported_good fill form image base text cause is some (inr h) =
    placed_good form h.0 is.exported.device base is.dump cause
    (same_at_rest image h.0 is.exported.device h.1 is.exported.spelled) is.fits
    is.exported.dump_is some h.2

-- ---- a text that was read, and then imported, or not

module _ {T : Type 0} (items : T → List ℕ) (form : Form) (size : Size) (base count : ℕ)
    (text given bytes : List ℕ) (same : count ≡ dump_length form size)
    (near : PartFits form base size) (says : IsHexOf text base count given)
    (seen : bytes ≡ given) where
  says_dump : IsHexOf text base (dump_length form size) bytes
  says_dump =
      subst (λ (k : ℕ). IsHexOf text base k bytes) same
      (subst (IsHexOf text base count) (sym seen) says)

  pub hex_imported : (r : Result T Fault) → IfOk r (λ t. IsImported form size bytes (items t))
      → IfOk r (λ t. IsHexImported form size base text (items t))
  hex_imported (Ok t) is = record { dump = bytes; fits = near; says = says_dump; imported = is }
  hex_imported (Err fault) is = tt

  pub hex_not_imported : (r : Result T Fault) → IfErr r (IsImportFault form size bytes)
      → IfErr r (IsHexImportFault form size base text)
  hex_not_imported (Ok t) wrong = tt
  hex_not_imported (Err fault) wrong =
      inr (inr record { dump = bytes; fits = near; says = says_dump; wrong = wrong })

  pub hex_names : (r : Result T Fault) → NamesEach Memory (IsImportFault form size bytes) r
      → NamesEach Memory (IsHexImportFault form size base text) r
  hex_names r names cause some applies =
      names cause some (said_cause form size base text near bytes cause says_dump some applies)

-- ---- a device that was read, and then told as a text, or not

pub far_placed : (form : Form) (image : List ℕ) (base : ℕ) (device : Device)
    → SpellsDevice image device → ¬ PartFits form base device.size
    → IsHexExportFault form image base Base
far_placed form image base device spelled far = inr (device, spelled, inl (far, refl))

pub not_dumped : (form : Form) (image : List ℕ) (base : ℕ) (device : Device) (fault : Fault)
    → SpellsDevice image device → PartFits form base device.size → IsDeviceFault form device fault
    → IsHexExportFault form image base fault
not_dumped form image base device fault spelled near wrong =
    inr (device, spelled, inr (near, wrong))

pub no_memory_told : (form : Form) (image : List ℕ) (base : ℕ) (device : Device)
    → SpellsDevice image device → PartFits form base device.size
    → IsHexExportFault form image base Memory
no_memory_told form image base device spelled near =
    not_dumped form image base device Memory spelled near
    record { cause = write.Memory; applies = tt; fault_is = refl }

pub is_told : (fill : Bool) (form : Form) (image : List ℕ) (base : ℕ) (device : Device)
    (bytes seen text : List ℕ)
    → SpellsDevice image device → PartFits form base device.size → IsDump form device bytes
    → seen ≡ bytes → text ≡ dump_text fill form base seen → IsHexExported fill form image base text
is_told fill form image base device bytes seen text spelled near is same told = record {
  dump = bytes;
  exported = record { device = device; spelled = spelled; dump_is = is };
  fits = near;
  hex_is = told ∙ ap (dump_text fill form base) same;
}

-- the dump has room for its addresses
pub dump_fits : (form : Form) (base : ℕ) (device : Device) (bytes seen : List ℕ) → IsFormed device
    → PartFits form base device.size → IsDump form device bytes → seen ≡ bytes
    → base + length seen ≤ 2 ^ 32
dump_fits form base device bytes seen formed near is same =
    omega (arith, dumps_are_read_lem form device bytes formed is, ap length same)
