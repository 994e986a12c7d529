-- What a fuse does over many steps.
use Rattle.std.proofs.Common.{◌≡◌, inl, inr, ℕ, zero, suc, ◌-◌, ◌<◌, Bool, cond, List, [], ◌∷◌, ◌++◌, Option, Some, None, refl, sym, subst, ap, ◌∙◌, arith, length, ◌≤◌}
use Rattle.std.specs.Prelude.{IsSomeAnd}
use Rattle.std.proofs.Math.Dec.{eqb-suc-zero}
use Rattle.std.proofs.lemmas.Bool.{cases_lt}
use Rattle.std.proofs.lemmas.Option.{same_Some}
use Rattle.ee_flash.specs.Device.{Device, IsOff, IsOn}
use Rattle.ee_flash.specs.Fuse.{cuts_left_of, known_after, known_tear, next_fuse, next_tear}
use Rattle.ee_flash.specs.Laws.{after_steps, all_completed}
use Rattle.ee_flash.specs.Step.{IsCutBy, IsCutIn, Step, Program, Erase, device_after, device_after_tear, device_by_fuse, device_torn_by}
use Rattle.ee_flash.specs.Taking.{Completes, HasFuse, IsCutAmong, CutAt}
use Rattle.ee_flash.specs.declared.fuse.Fuse.{Fuse}
use Rattle.ee_flash.specs.declared.fuse.Tear.{Tear}

-- a step that begins on a device that is on
begun_step : (step : Step) (device : Device) (tear : Option Tear) → IsOn device
    → known_tear device.fuse ≡ tear → device_by_fuse step device ≡ device_torn_by step tear device
begun_step step device tear on is_tear =
    ap (λ (b : Bool). cond b (device_torn_by step (known_tear device.fuse) device) device) on
    ∙ ap (λ (t : Option Tear). device_torn_by step t device) is_tear

pub completed_on : (step : Step) (device : Device) → (device_after step device).on ≡ device.on
completed_on (Program page at value) device = refl
completed_on (Erase page) device = refl

pub all_completed_on : (steps : List Step) (device : Device)
    → (all_completed steps device).on ≡ device.on
all_completed_on [] device = refl
all_completed_on (step ∷ steps) device =
    all_completed_on steps (device_after step device) ∙ completed_on step device

completed_fuse : (step : Step) (device : Device)
    → (device_after step device).fuse ≡ known_after device.fuse
completed_fuse (Program page at value) device = refl
completed_fuse (Erase page) device = refl

completed_left : (step : Step) (device : Device)
    → (device_after step device).cuts_left ≡ device.cuts_left
completed_left (Program page at value) device = refl
completed_left (Erase page) device = refl

all_completed_left : (steps : List Step) (device : Device)
    → (all_completed steps device).cuts_left ≡ device.cuts_left
all_completed_left [] device = refl
all_completed_left (step ∷ steps) device =
    all_completed_left steps (device_after step device) ∙ completed_left step device

pub no_fuse_no_cut : (steps : List Step) (device : Device) → IsOn device → device.fuse ≡ Some None
    → after_steps steps device ≡ all_completed steps device
no_fuse_no_cut [] device on none = refl
no_fuse_no_cut (step ∷ steps) device on none =
    ap (after_steps steps) (begun_step step device None on (ap known_tear none))
    ∙ no_fuse_no_cut steps (device_after step device) (completed_on step device ∙ on)
    (completed_fuse step device ∙ ap known_after none)

burns_tear : (after : ℕ) (tear : Tear) → 0 < after
    → next_tear (Some (record { after = after; tear = tear })) ≡ None
burns_tear zero tear h = absurd (omega arith)
burns_tear (suc n) tear h = ap (λ (b : Bool). cond b (Some tear) None) (eqb-suc-zero n)

burns_fuse : (after : ℕ) (tear : Tear) → 0 < after
    → next_fuse (Some (record { after = after; tear = tear }))
    ≡ Some (record { after = after - 1; tear = tear })
burns_fuse zero tear h = absurd (omega arith)
burns_fuse (suc n) tear h =
    ap (λ (b : Bool). cond b None (Some (record { after = suc n - 1; tear = tear })))
    (eqb-suc-zero n)

pub fuse_waits : (steps : List Step) (device : Device) (fuse : Fuse) → IsOn device
    → device.fuse ≡ Some (Some fuse) → length steps ≤ fuse.after → let last : Device =
    after_steps steps device in (last ≡ all_completed steps device)
    × (last.fuse ≡ Some (Some (record fuse { after = fuse.after - length steps })))
fuse_waits [] device fuse on armed room = (
  refl,
  armed
      ∙ ap (λ (n : ℕ). Some (Some (record { after = n; tear = fuse.tear }))) (omega arith),
)
fuse_waits (step ∷ steps) device fuse on armed room =
    let some_left : 0 < fuse.after = omega arith in
    let less : Fuse = record { after = fuse.after - 1; tear = fuse.tear } in
    let next : Device = device_after step device in
    let is : device_by_fuse step device ≡ next =
    begun_step step device None on
    (ap known_tear armed ∙ burns_tear fuse.after fuse.tear some_left) in
    let rest =
    fuse_waits steps next less (completed_on step device ∙ on)
    (completed_fuse step device ∙ ap known_after armed
    ∙ ap (λ (f : Option Fuse). Some f) (burns_fuse fuse.after fuse.tear some_left))
    (omega arith) in (
      ap (after_steps steps) is ∙ rest.0,
      ap (λ (d : Device). (after_steps steps d).fuse) is ∙ rest.1
          ∙ ap (λ (n : ℕ). Some (Some (record { after = n; tear = fuse.tear }))) (omega arith),
    )

pub fuse_cuts : (steps : List Step) (step : Step) (device : Device) (fuse : Fuse)
    → IsOn device → device.fuse ≡ Some (Some fuse) → length steps ≡ fuse.after
    → device_by_fuse step (after_steps steps device)
    ≡ device_after_tear step fuse.tear (all_completed steps device)
fuse_cuts steps step device fuse on armed due =
    let waited = fuse_waits steps device fuse on armed (omega arith) in
    let last : Device = after_steps steps device in
    let still_on : IsOn last =
    ap (λ (d : Device). d.on) waited.0 ∙ all_completed_on steps device ∙ on in
    let burnt : last.fuse ≡ Some (Some (record { after = 0; tear = fuse.tear })) =
    waited.1
    ∙ ap (λ (n : ℕ). Some (Some (record { after = n; tear = fuse.tear }))) (omega arith) in
    begun_step step last (Some fuse.tear) still_on (ap known_tear burnt)
    ∙ ap (device_after_tear step fuse.tear) waited.0

-- ---- what is known of the fuse decides

-- without a fuse there is none later
none_stays : (steps : List Step) (device : Device) → device.fuse ≡ Some None
    → (all_completed steps device).fuse ≡ Some None
none_stays [] device none = none
none_stays (step ∷ steps) device none =
    none_stays steps (device_after step device)
    (completed_fuse step device ∙ ap known_after none)

-- whole steps, more than the fuse lets pass, would leave none
burnt_out : (steps : List Step) (device : Device) (after : ℕ) (tear : Tear)
    → device.fuse ≡ Some (Some (record { after = after; tear = tear })) → after < length steps
    → (all_completed steps device).fuse ≡ Some None
burnt_out [] device after tear armed more = absurd (omega arith)
burnt_out (step ∷ steps) device zero tear armed more =
    none_stays steps (device_after step device)
    (completed_fuse step device ∙ ap known_after armed)
burnt_out (step ∷ steps) device (suc n) tear armed more =
    burnt_out steps (device_after step device) n tear
    (completed_fuse step device ∙ ap known_after armed
    ∙ ap (λ (f : Option Fuse). Some f) (burns_fuse (suc n) tear (omega arith))
    ∙ ap (λ (k : ℕ). Some (Some (record { after = k; tear = tear }))) (omega arith))
    (omega arith)

off_stays : (steps : List Step) (device : Device) → IsOff device → after_steps steps device ≡ device
off_stays [] device off = refl
off_stays (step ∷ steps) device off =
    let same : device_by_fuse step device ≡ device =
    ap (λ (b : Bool). cond b (device_torn_by step (known_tear device.fuse) device) device) off in
    ap (after_steps steps) same ∙ off_stays steps device off

after-append : (steps more : List Step) (device : Device)
    → after_steps (steps ++ more) device ≡ after_steps more (after_steps steps device)
after-append [] more device = refl
after-append (step ∷ steps) more device = after-append steps more (device_by_fuse step device)

-- all were whole
whole_by : (fuse : Option Fuse) (steps : List Step) (old new : Device) → IsOn old
    → old.fuse ≡ Some fuse → new ≡ all_completed steps old → new.cuts_left ≡ cuts_left_of fuse
    → HasFuse new → new ≡ after_steps steps old
whole_by None steps old new on none done left has =
    done ∙ sym (no_fuse_no_cut steps old on none)
whole_by (Some fuse) steps old new on armed done left has =
    elim (cases_lt fuse.after (length steps)) [
      | inl more ↦
          let gone : Some has.fuse ≡ Some None =
          sym has.known ∙ ap (λ (d : Device). d.fuse) done
          ∙ burnt_out steps old fuse.after fuse.tear armed more in
          let none : has.fuse ≡ None = same_Some has.fuse None gone in
          let same : 1 ≡ 0 = same_Some 1 0 (sym left ∙ has.left ∙ ap cuts_left_of none) in
          absurd (omega (arith, same))
      | inr room ↦ done ∙ sym ((fuse_waits steps old fuse on armed room).0)
    ]

pub completed_by_fuse : (steps : List Step) (old new : Device) → HasFuse old → HasFuse new
    → IsOn old → Completes steps old new → (new ≡ after_steps steps old) × IsOn new
completed_by_fuse steps old new had has on taken = (
  whole_by had.fuse steps old new on had.known taken.done
      (ap (λ (d : Device). d.cuts_left) taken.done ∙ all_completed_left steps old ∙ had.left)
      has,
  ap (λ (d : Device). d.on) taken.done ∙ all_completed_on steps old ∙ on,
)

-- the fuse that cut a step had no step left to pass
due : (after : ℕ) (tear : Tear) (step : Step) (mid new : Device)
    → IsSomeAnd (next_tear (Some (record { after = after; tear = tear })))
    (λ (t : Tear). new ≡ device_after_tear step t mid)
    → (after ≡ 0) × (new ≡ device_after_tear step tear mid)
due zero tear step mid new is = (refl, is)
due (suc n) tear step mid new is =
    absurd
    (subst
    (λ (known : Option Tear). IsSomeAnd known (λ (t : Tear). new ≡ device_after_tear step t mid))
    (burns_tear (suc n) tear (omega arith)) is)

-- one was cut, behind those that were whole
cut_by : (fuse : Option Fuse) (before : List Step) (step : Step) (old new : Device) → IsOn old
    → old.fuse ≡ Some fuse → IsCutIn step (all_completed before old) new
    → new ≡ device_by_fuse step (after_steps before old)
cut_by None before step old new on none cut =
    absurd
    (subst (λ known. IsCutBy known step (all_completed before old) new)
    (none_stays before old none) cut.by_fuse)
cut_by (Some fuse) before step old new on armed cut =
    elim (cases_lt fuse.after (length before)) [
      | inl more ↦
          absurd
          (subst (λ known. IsCutBy known step (all_completed before old) new)
          (burnt_out before old fuse.after fuse.tear armed more) cut.by_fuse)
      | inr room ↦
          let waited = fuse_waits before old fuse on armed room in
          let last : (all_completed before old).fuse
          ≡ Some (Some (record { after = fuse.after - length before; tear = fuse.tear })) =
          ap (λ (d : Device). d.fuse) (sym waited.0) ∙ waited.1 in
          let is =
          due (fuse.after - length before) fuse.tear step (all_completed before old) new
          (subst (λ known. IsCutBy known step (all_completed before old) new) last cut.by_fuse) in
          is.1 ∙ sym (fuse_cuts before step old fuse on armed (omega (arith, is.0)))
    ]

pub cut_by_fuse : (steps : List Step) (old new : Device) → HasFuse old → IsOn old
    → IsCutAmong steps old new → (new ≡ after_steps steps old) × IsOff new
cut_by_fuse steps old new had on (CutAt before step behind is cut) =
    let cut_there = cut_by had.fuse before step old new on had.known cut in (
      sym
          (ap (λ list. after_steps list old) is
          ∙ after-append before (step ∷ behind) old
          ∙ ap (after_steps behind) (sym cut_there)
          ∙ off_stays behind new cut.is_off),
      cut.is_off,
    )

pub fuse_decides : (steps : List Step) (old new : Device) → HasFuse old → HasFuse new → IsOn old
    → (Completes steps old new → (new ≡ after_steps steps old) × IsOn new)
    × (IsCutAmong steps old new → (new ≡ after_steps steps old) × IsOff new)
fuse_decides steps old new had has on = (
  λ taken. completed_by_fuse steps old new had has on taken,
  λ cut. cut_by_fuse steps old new had on cut,
)
