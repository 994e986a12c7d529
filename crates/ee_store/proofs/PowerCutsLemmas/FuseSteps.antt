-- What is known of a fuse behind steps.
use Rattle.std.proofs.Common.{◌≡◌, ◌⊎◌, inl, inr, ◌-◌, cond, Option, Some, None, List, [], ◌∷◌, ap, arith, refl, sym, subst, ◌∙◌}
use Rattle.std.specs.Prelude.{IsSomeAnd}
use Rattle.std.proofs.lemmas.Bool.{cases_eq, eq-eqb, ne_eqb}
use Rattle.std.proofs.lemmas.Option.{same_Some}
use Rattle.ee_flash.specs.Device.{Device}
use Rattle.ee_flash.specs.Fuse.{cuts_left_of, known_after, next_fuse, next_tear}
use Rattle.ee_flash.specs.Laws.{all_completed}
use Rattle.ee_flash.specs.Step.{Erase, IsCutBy, IsCutIn, Program, Step, device_after, device_after_tear}
use Rattle.ee_flash.specs.Taking.{CutAt, HasFuse, IsCutAmong}
use Rattle.ee_flash.specs.declared.fuse.Fuse.{Fuse}
use Rattle.ee_flash.specs.declared.fuse.Tear.{Tear}

-- what no device in memory is: a cut is left, and the fuse is gone
pub record IsBurnt (device : Device) : Type 0 where
  pub gone : device.fuse ≡ Some None
  pub left : device.cuts_left ≡ Some 1

abbrev pub IsKnown : Device → Type 0
IsKnown device = HasFuse device ⊎ IsBurnt device

completed_fuse : (step : Step) (device : Device)
    → (device_after step device).fuse ≡ known_after device.fuse
completed_fuse (Program page at value) device = refl
completed_fuse (Erase page) device = refl

completed_left : (step : Step) (device : Device)
    → (device_after step device).cuts_left ≡ device.cuts_left
completed_left (Program page at value) device = refl
completed_left (Erase page) device = refl

burnt_on : (step : Step) (device : Device) → IsBurnt device → IsBurnt (device_after step device)
burnt_on step device burnt = record {
  gone = completed_fuse step device ∙ ap known_after burnt.gone;
  left = completed_left step device ∙ burnt.left;
}

abbrev less : Fuse → Fuse
less fuse = record { after = fuse.after - 1; tear = fuse.tear }

burns : (fuse : Option Fuse) (device : Device) → device.fuse ≡ Some (next_fuse fuse)
    → device.cuts_left ≡ cuts_left_of fuse → IsKnown device
burns None device known left = inl (record { fuse = None; known = known; left = left })
burns (Some fuse) device known left = elim (cases_eq fuse.after 0) [
  | inl last ↦
      inr
      (record {
        gone = known ∙ ap (λ b. Some (cond b None (Some (less fuse)))) (eq-eqb fuse.after 0 last);
        left = left;
      })
  | inr more ↦
      inl
      (record {
        fuse = Some (less fuse);
        known = known
            ∙ ap (λ b. Some (cond b None (Some (less fuse)))) (ne_eqb fuse.after 0 more);
        left = left;
      })
]

step_known : (step : Step) (device : Device) → IsKnown device → IsKnown (device_after step device)
step_known step device (inr burnt) = inr (burnt_on step device burnt)
step_known step device (inl has) =
    burns has.fuse (device_after step device)
    (completed_fuse step device ∙ ap known_after has.known)
    (completed_left step device ∙ has.left)

pub steps_known : (steps : List Step) (device : Device) → IsKnown device
    → IsKnown (all_completed steps device)
steps_known [] device known = known
steps_known (step ∷ steps) device known =
    steps_known steps (device_after step device) (step_known step device known)

pub steps_burnt : (steps : List Step) (device : Device) → IsBurnt device
    → IsBurnt (all_completed steps device)
steps_burnt [] device burnt = burnt
steps_burnt (step ∷ steps) device burnt =
    steps_burnt steps (device_after step device) (burnt_on step device burnt)

torn_known : (step : Step) (tear : Tear) (device : Device)
    → HasFuse (device_after_tear step tear device)
torn_known (Program page at value) tear device = record { fuse = None; known = refl; left = refl }
torn_known (Erase page) tear device = record { fuse = None; known = refl; left = refl }

cut_by_tear : (tear : Option Tear) (step : Step) (mid new : Device)
    → IsSomeAnd tear (λ (one : Tear). new ≡ device_after_tear step one mid) → HasFuse new
cut_by_tear None step mid new cut = absurd cut
cut_by_tear (Some tear) step mid new cut = subst HasFuse (sym cut) (torn_known step tear mid)

never_cut : (step : Step) (mid new : Device) → IsBurnt mid → IsCutIn step mid new → ⊥
never_cut step mid new burnt cut =
    subst (λ known. IsCutBy known step mid new) burnt.gone cut.by_fuse

pub cut_known : (steps : List Step) (old new : Device) → IsKnown old → IsCutAmong steps old new
    → HasFuse new
cut_known steps old new known (CutAt before step behind is cut) =
    let mid = all_completed before old in
    elim (steps_known before old known) [
      | inl has ↦
          cut_by_tear (next_tear has.fuse) step mid new
          (subst (λ one. IsCutBy one step mid new) has.known cut.by_fuse)
      | inr burnt ↦ absurd (never_cut step mid new burnt cut)
    ]

pub cut_burnt : (steps : List Step) (old new : Device) → IsBurnt old → IsCutAmong steps old new → ⊥
cut_burnt steps old new burnt (CutAt before step behind is cut) =
    never_cut step (all_completed before old) new (steps_burnt before old burnt) cut

-- the fuse of a device in memory isn't burnt
pub not_burnt : (device : Device) → HasFuse device → IsBurnt device → ⊥
not_burnt device has burnt =
    let none : has.fuse ≡ None = same_Some has.fuse None (sym has.known ∙ burnt.gone) in
    let same : 1 ≡ 0 =
    same_Some 1 0 (sym burnt.left ∙ has.left ∙ ap cuts_left_of none) in
    omega (arith, same)
