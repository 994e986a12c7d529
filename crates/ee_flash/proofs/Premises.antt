-- What laws of this crate need: without the named premise they would be false, and here is where.
use Rattle.std.proofs.Common.{◌≡◌, ◌≤◌, ◌+◌, ◌*◌, ◌∙◌, ℕ, zero, suc, cond, List, [], ◌∷◌, replicate, refl, ap, sym, arith}
use Rattle.std.proofs.lemmas.List.Sums.{sum_by-cons}
use Rattle.std.proofs.lemmas.Bool.{true≢false}
use Rattle.ee_flash.specs.Device.{Device, IsOn, blank_device}
use Rattle.ee_flash.specs.Laws.{after_steps, all_completed}
use Rattle.ee_flash.specs.Memory.{with_fuse}
use Rattle.ee_flash.specs.Size.{Size}
use Rattle.ee_flash.specs.Endurance.{erased_words, erases, is_erase, is_program, programs}
use Rattle.ee_flash.specs.Step.{Step, Program, Erase}
use Rattle.ee_flash.specs.declared.fuse.Fuse.{Fuse}
use Rattle.ee_flash.specs.declared.fuse.Tear.TheVariants.{Nothing}

-- a fuse that cuts the first step
abbrev at_once : Fuse
at_once = record { after = 0; tear = Nothing }

-- `no_fuse_no_cut` needs that there is no fuse: on a blank device with one that cuts the first
-- step, an erase ends with the power off, and as a whole step would leave it on
pub no_fuse_no_cut_needs_no_fuse : (size : Size)
    → ((steps : List Step) (device : Device) → IsOn device
    → after_steps steps device ≡ all_completed steps device)
    → ⊥
no_fuse_no_cut_needs_no_fuse size law =
    let same = law (Erase 0 ∷ []) (with_fuse at_once (blank_device size)) refl in
    true≢false (sym (ap (λ (device : Device). device.on) same))

-- `programs_need_erases` needs that each step can be taken: on a blank device a word that is
-- programmed once more than there are words would need no erase
abbrev again : ℕ → List Step
again count = replicate count (Program 0 0 0)

programs_again : (count : ℕ) → programs (again count) ≡ count
programs_again zero = refl
programs_again (suc count) =
    omega (
      arith,
      programs_again count,
      sum_by-cons (λ step. cond (is_program step) 1 0) (Program 0 0 0) (again count),
    )

erases_again : (count : ℕ) → erases (again count) ≡ 0
erases_again zero = refl
erases_again (suc count) =
    omega (
      arith,
      erases_again count,
      sum_by-cons (λ step. cond (is_erase step) 1 0) (Program 0 0 0) (again count),
    )

pub programs_need_erases_needs_steps_that_can_be_taken : (size : Size)
    → ((steps : List Step) (device : Device)
    → programs steps ≤ erased_words device + device.size.words * erases steps)
    → ⊥
programs_need_erases_needs_steps_that_can_be_taken size law =
    let device = blank_device size in
    let steps = again (erased_words device + 1) in
    let none : size.words * erases steps ≡ 0 =
    ap (λ n. size.words * n) (erases_again (erased_words device + 1)) ∙ omega arith in
    absurd (omega (arith, law steps device, programs_again (erased_words device + 1), none))
