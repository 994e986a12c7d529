-- There is one cause at most for which nothing is imported, but for want of memory; and none where
-- something was.
use Rattle.std.proofs.Common.{◌≡◌, ◌≢◌, ◌⊎◌, ◌∙◌, ◌<◌, ◌≤◌, ℕ, List, length, true, false, refl, sym, ap, subst, inl, inr, arith, Result, Ok, Err, IfErr, IfOk, MatchResult}
use Rattle.std.proofs.lemmas.Bool.{true≢false}
use Rattle.ee_flash.specs.Device.{Device}
use Rattle.ee_flash.specs.Size.{Size, slot_count}
use Rattle.ee_pages.specs.Meaning.{live_in}
use Rattle.ee_core.specs.State.{State, capacity, state_of}
use Rattle.ee_interface.specs.CommandLine.Form.{dump_length}
use Rattle.ee_interface.specs.declared.command_line.form.Form.TheVariants.{Words}
use Rattle.ee_interface.specs.declared.fault.Fault.{Fault}
use Rattle.ee_interface.specs.declared.fault.Fault.TheVariants.{DumpFull, Memory}
use Rattle.ee_shell.specs.Dumps.Dump.{IsImport}
use Rattle.ee_shell.specs.Xcube.Import.{HasValuesOf, IsPartFault, IsPartOf, IsXcubeFault, IsXcubeImported}
use Rattle.ee_shell.specs.Xcube.Pages.{IsUnused, numbers_of}
use Rattle.ee_shell.specs.Xcube.Values.{lacks_elements, latest, values_of}
use Rattle.ee_core.proofs.Public.{fill_within}
use Rattle.ee_shell.proofs.DumpsLemmas.Public.{imports_agree, imports_are_read}
use Rattle.ee_shell.proofs.PartLemmas.Causes.{IsNamed}

pub one_part_fault : (part : Device) (cause fault : Fault) → cause ≢ Memory → IsPartFault part cause
    → IsPartFault part fault → IsNamed fault cause
one_part_fault part cause fault some (inl h) (inl i) = inl (i.1 ∙ sym h.1)
one_part_fault part cause fault some (inl h) (inr (inl i)) = absurd (i.0 h.0)
one_part_fault part cause fault some (inl h) (inr (inr (inl i))) = absurd (i.0 h.0)
one_part_fault part cause fault some h (inr (inr (inr i))) = inr i
one_part_fault part cause fault some (inr (inl h)) (inl i) = absurd (h.0 i.0)
one_part_fault part cause fault some (inr (inl h)) (inr (inl i)) = inl (i.2 ∙ sym h.2)
one_part_fault part cause fault some (inr (inl h)) (inr (inr (inl i))) =
    absurd (true≢false (sym h.1 ∙ i.1))
one_part_fault part cause fault some (inr (inr (inl h))) (inl i) = absurd (h.0 i.0)
one_part_fault part cause fault some (inr (inr (inl h))) (inr (inl i)) =
    absurd (true≢false (sym i.1 ∙ h.1))
one_part_fault part cause fault some (inr (inr (inl h))) (inr (inr (inl i))) = inl (i.3 ∙ sym h.3)
one_part_fault part cause fault some (inr (inr (inr h))) i = absurd (some h)

-- the store that takes the numbers of a part refuses one of them
pub part_refused : (part store : Device) (numbers : List ℕ) (fault : Fault) → ¬ IsUnused part
    → numbers ≡ numbers_of part → lacks_elements numbers ≡ false → store.size ≡ part.size
    → (slot_count store.size < live_in (latest numbers) × (fault ≡ DumpFull)) ⊎ (fault ≡ Memory)
    → IsPartFault part fault
part_refused part store numbers fault used is has same (inr none) = inr (inr (inr none))
part_refused part store numbers fault used is has same (inl h) =
    inr
    (inr
    (inl (
      used,
      subst (λ (ns : List ℕ). lacks_elements ns ≡ false) is has,
      omega (arith, h.0, ap slot_count same, ap (λ (ns : List ℕ). live_in (latest ns)) is),
      h.1,
    )))

-- ---- bytes

-- they are those of one part
one_part : (size : Size) (dump : List ℕ) (part other : Device) → IsPartOf size dump part
    → IsPartOf size dump other → part ≡ other
one_part size dump part other h i = imports_agree Words size dump part other h.0 i.0 h.1 i.1

long : (size : Size) (dump : List ℕ) (part : Device) → IsPartOf size dump part
    → length dump ≡ dump_length Words size
long size dump part h = (imports_are_read Words size dump part h.0 h.1).0

pub one_xcube_fault : (size : Size) (dump : List ℕ) (cause fault : Fault) → cause ≢ Memory
    → IsXcubeFault size dump cause → IsXcubeFault size dump fault → IsNamed fault cause
one_xcube_fault size dump cause fault some (inl h) (inl i) = inl (i.1 ∙ sym h.1)
one_xcube_fault size dump cause fault some h (inr (inl i)) = inr i.1
one_xcube_fault size dump cause fault some (inl h) (inr (inr i)) = absurd (h.0 (long size dump i.0 i.1))
one_xcube_fault size dump cause fault some (inr (inl h)) i = absurd (some h.1)
one_xcube_fault size dump cause fault some (inr (inr h)) (inl i) = absurd (i.0 (long size dump h.0 h.1))
one_xcube_fault size dump cause fault some (inr (inr h)) (inr (inr i)) =
    one_part_fault i.0 cause fault some
    (subst (λ (part : Device). IsPartFault part cause) (one_part size dump h.0 i.0 h.1 i.1) h.2) i.2

-- ---- what was imported

-- no more addresses have a value than a store has slots
few : (part : Device) (image : List ℕ) → HasValuesOf part image → live_in (values_of part) ≤ slot_count part.size
few part image has =
    let within = fill_within has.store has.left.spelled.formed in
    omega (
      arith,
      within,
      ap (λ (s : State). s.fill) has.holds.state_is,
      ap slot_count has.holds.same_size,
    )

part_good : (part : Device) (image : List ℕ) (cause : Fault) → HasValuesOf part image
    → cause ≢ Memory → IsPartFault part cause → ⊥
part_good part image cause has some (inl h) = has.used h.0
part_good part image cause has some (inr (inl h)) = true≢false (sym h.1 ∙ has.has_elements)
part_good part image cause has some (inr (inr (inl h))) = omega (arith, h.2, few part image has)
part_good part image cause has some (inr (inr (inr h))) = some h

pub imported_good : (size : Size) (dump image : List ℕ) (cause : Fault)
    → IsXcubeImported size dump image → cause ≢ Memory → IsXcubeFault size dump cause → ⊥
imported_good size dump image cause is some (inl h) = h.0 (long size dump is.0 is.1)
imported_good size dump image cause is some (inr (inl h)) = some h.1
imported_good size dump image cause is some (inr (inr h)) =
    part_good is.0 image cause is.2 some
    (subst (λ (part : Device). IsPartFault part cause) (one_part size dump h.0 is.0 h.1 is.1) h.2)

-- ---- a part that was read, and then imported, or not

module _ {T : Type 0} (items : T → List ℕ) (size : Size) (dump : List ℕ) (part : Device)
    (is : IsPartOf size dump part) where
  pub is_imported : (r : Result T Fault) → IfOk r (λ t. HasValuesOf part (items t))
      → IfOk r (λ t. IsXcubeImported size dump (items t))
  is_imported (Ok t) has = (part, is, has)
  is_imported (Err fault) has = tt

  pub is_not_imported : (r : Result T Fault) → IfErr r (IsPartFault part)
      → IfErr r (IsXcubeFault size dump)
  is_not_imported (Ok t) wrong = tt
  is_not_imported (Err fault) wrong = inr (inr (part, is, wrong))

  pub import_named : (r : Result T Fault) (cause : Fault) → IfOk r (λ t. HasValuesOf part (items t))
      → IfErr r (IsPartFault part) → cause ≢ Memory → IsXcubeFault size dump cause
      → MatchResult r (λ _. ⊥) (λ fault. (fault ≡ cause) ⊎ (fault ≡ Memory))
  import_named (Ok t) cause has wrong some h =
      imported_good size dump (items t) cause (is_imported (Ok t) has) some h
  import_named (Err fault) cause has wrong some h =
      one_xcube_fault size dump cause fault some h (is_not_imported (Err fault) wrong)
