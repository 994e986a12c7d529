-- Why a draft is formed, and what listing one more step does to it.
use Rattle.std.specs.Prelude.{◌≡◌, ◌≤◌, ℕ, Bool, None, List, [], ◌∷◌, ◌++◌, length}
use Rattle.std.specs.List.{All}
use Rattle.std.proofs.Common.{refl, subst, ap, ◌∙◌}
use Rattle.std.proofs.lemmas.Option.{none-some}
use Rattle.ee_flash.specs.Device.{Device, IsFormed, IsOn, all_ones}
use Rattle.ee_flash.specs.Fuse.{known_after}
use Rattle.ee_flash.specs.Laws.{CanTake, all_completed}
use Rattle.ee_flash.specs.Size.{Size, page_count}
use Rattle.ee_flash.specs.Step.{Step, Program, Erase, device_after}
use Rattle.ee_flash.proofs.Public.{completed_on, completed_size, still_formed}
use Rattle.ee_flash.specs.Endurance.{CanTakeAll}
use Rattle.ee_web.specs.Draft.{IsFresh, drafted_device}

completed_cuts : (step : Step) (device : Device) → (device_after step device).cuts ≡ device.cuts
completed_cuts (Program page at value) device = refl
completed_cuts (Erase page) device = refl

completed_cuts_left : (step : Step) (device : Device)
    → (device_after step device).cuts_left ≡ device.cuts_left
completed_cuts_left (Program page at value) device = refl
completed_cuts_left (Erase page) device = refl

pub same_size : (steps : List Step) (device : Device)
    → (all_completed steps device).size ≡ device.size
same_size [] device = refl
same_size (step ∷ steps) device =
    same_size steps (device_after step device) ∙ completed_size step device

pub same_cuts : (steps : List Step) (device : Device)
    → (all_completed steps device).cuts ≡ device.cuts
same_cuts [] device = refl
same_cuts (step ∷ steps) device =
    same_cuts steps (device_after step device) ∙ completed_cuts step device

pub same_cuts_left : (steps : List Step) (device : Device)
    → (all_completed steps device).cuts_left ≡ device.cuts_left
same_cuts_left [] device = refl
same_cuts_left (step ∷ steps) device =
    same_cuts_left steps (device_after step device) ∙ completed_cuts_left step device

completed_fuse : (step : Step) (device : Device) → device.fuse ≡ None
    → (device_after step device).fuse ≡ None
completed_fuse (Program page at value) device none = ap known_after none
completed_fuse (Erase page) device none = ap known_after none

pub same_fuse : (steps : List Step) (device : Device) → device.fuse ≡ None
    → (all_completed steps device).fuse ≡ None
same_fuse [] device none = none
same_fuse (step ∷ steps) device none =
    same_fuse steps (device_after step device) (completed_fuse step device none)

pub all_formed : (steps : List Step) (device : Device) → IsFormed device → IsOn device
    → CanTakeAll steps device → IsFormed (all_completed steps device)
all_formed [] device formed on taken = formed
all_formed (step ∷ steps) device formed on taken =
    all_formed steps (device_after step device) (still_formed step device formed on taken.0)
    (completed_on step device ∙ on) taken.1

pub IsFormed-drafted : (start : Device) (steps : List Step) (wear : List ℕ) (cuts : ℕ) (on : Bool)
    → IsFresh start → CanTakeAll steps start → length wear ≡ page_count start.size
    → All (λ count. count ≤ all_ones) wear → cuts ≤ all_ones
    → IsFormed (drafted_device start steps wear cuts on)
IsFormed-drafted start steps wear cuts on fresh taken as_long fits fit =
    let formed = all_formed steps start fresh.formed fresh.on taken in
    let size = same_size steps start in
    record {
      within_limits = fresh.formed.within_limits;
      image_length = formed.image_length ∙ ap page_count size;
      page_lengths =
          subst
          (λ (n : Size). All (λ page. length page ≡ n.words) (all_completed steps start).image)
          size formed.page_lengths;
      below_all_ones = formed.below_all_ones;
      wear_length = as_long;
      wear_fits = fits;
      cuts_fit = fit;
      cuts_left_fit = λ left is. absurd (none-some left is);
    }

-- one more step
pub one_more_step : (steps : List Step) (step : Step) (device : Device)
    → all_completed (steps ++ step ∷ []) device ≡ device_after step (all_completed steps device)
one_more_step [] step device = refl
one_more_step (first ∷ steps) step device = one_more_step steps step (device_after first device)

pub one_more_taken : (steps : List Step) (step : Step) (device : Device) → CanTakeAll steps device
    → CanTake step (all_completed steps device) → CanTakeAll (steps ++ step ∷ []) device
one_more_taken [] step device taken may = (may, tt)
one_more_taken (first ∷ steps) step device taken may =
    (taken.0, one_more_taken steps step (device_after first device) taken.1 may)
