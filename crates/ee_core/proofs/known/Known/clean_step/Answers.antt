use Rattle.ee_core.proofs.Words.{◌≡◌, ◌⊎◌, inl, inr, ℕ, ◌+◌, ◌-◌, ap, sym, ◌∙◌, arith}
use Rattle.ee_core.proofs.Sets.{Device, KeepsLiveSet, IsLive, other, pending_of, set_of, Side}
use Rattle.ee_core.proofs.Calls.{state_of, with_pending}
use Rattle.ee_core.proofs.Making.{clean_known}
use Rattle.ee_core.proofs.States.{state_is, state_kept}
use Rattle.ee_core.proofs.Taken.{among_on, cut_taken, ends_taken}
use Rattle.ee_core.proofs.known.Known.clean_step.Goals as goal

pub returns-in-Ok-clause-known : goal.returns-in-Ok-clause-known
returns-in-Ok-clause-known g c =
    let done =
    c.clean.ensures in clean_known g.L.Lookup.fits c.args.self.now _ _ c.clean.result
    (sym c.if-not-is_on.ensures) c.requires done.keeps done.marked
    (ends_taken _ _ done.steps)

pub returns-in-Err-clause-known : goal.returns-in-Err-clause-known
returns-in-Err-clause-known g c =
    let done =
    c.clean.ensures in clean_known g.L.Lookup.fits c.args.self.now _ _ c.clean.result
    (sym c.if-not-is_on.ensures) c.requires done.keeps done.marked
    (ends_taken _ _ done.steps)

-- as many pages wait as before, or one less
state_left : (old new : Device) (side : Side) (generation : ℕ) → IsLive old side generation
    → KeepsLiveSet old new side generation
    → (pending_of (set_of (other side) new) ≡ pending_of (set_of (other side) old))
    ⊎ (pending_of (set_of (other side) new) + 1 ≡ pending_of (set_of (other side) old))
    → (state_of new ≡ state_of old)
    ⊎ (state_of new ≡ with_pending ((state_of old).pending - 1) (state_of old))
state_left old new side generation live keeps left =
    let waited = ap (λ state. state.pending) (state_is old side generation live) in
    elim left [
      | inl same ↦ inl
          (state_kept old new side generation live keeps (state_of old).pending
          (same ∙ sym waited))
      | inr less ↦ inr
          (state_kept old new side generation live keeps ((state_of old).pending - 1)
          (omega (arith, less, waited)))
    ]

pub returns-in-Err-clause-cleans : goal.returns-in-Err-clause-cleans
returns-in-Err-clause-cleans g c =
    let old = g.F.Flash.device c.args.flash.now in
    let new = g.F.Flash.device c.clean.new.flash in
    let on = sym c.if-not-is_on.ensures in
    let ended = c.in-Err.ensures in
    let layout = c.args.self.now.layout in
    let live = (c.requires.layout on).live in
    let waited = ap (λ state. state.pending) (state_is old layout.side layout.generation live) in
    let steps = among_on on ended.steps.cut in
    record {
      cut = cut_taken steps;
      steps = steps;
      some = omega (arith, ended.cleans.some, waited);
      state_is = state_left old new layout.side layout.generation live ended.keeps ended.cleans.left;
      lowest = ended.cleans.lowest on;
    }
