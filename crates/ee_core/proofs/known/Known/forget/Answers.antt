use Rattle.std.proofs.Common.{◌≡◌, ◌∙◌, ap, arith, sym, rules}
use Rattle.ee_flash.specs.Size.{slot_count}
use Rattle.ee_core.specs.State.{State, capacity}
use Rattle.ee_core.proofs.Making.{all_written, store_marked}
use Rattle.ee_core.proofs.States.{state_is}
use Rattle.ee_core.proofs.known.Known.forget.Goals as goal

pub append-requires-clause-marked : goal.append-requires-clause-marked
append-requires-clause-marked g c =
    let on = sym c.if-not-is_on.ensures in
    store_marked _ _ _ c.requires.store on (c.requires.layout on).live

pub transfer-requires-clause-needed : goal.transfer-requires-clause-needed
transfer-requires-clause-needed g c =
    let device = g.F.Flash.device c.args.flash.now in
    let slots : c.slots.result ≡ capacity device =
    c.slots.ensures.value ∙ ap slot_count c.shape.ensures in
    all_written device c.args.self.now.layout (c.requires.layout (sym c.if-not-is_on.ensures))
    (omega (arith, slots, c.if-self-slots.false))

pub returns-then-self-clause-forgets : goal.returns-then-self-clause-forgets
returns-then-self-clause-forgets g c =
    let device = g.F.Flash.device c.args.flash.now in
    let layout = c.args.self.now.layout in
    let on = sym c.if-not-is_on.ensures in
    let slots : c.slots.result ≡ capacity device =
    c.slots.ensures.value ∙ ap slot_count c.shape.ensures in
    let all_used =
    all_written device layout (c.requires.layout on)
    (omega (arith, slots, c.if-self-slots.false)) in
    let generation =
    ap (λ (state : State). state.generation)
    (state_is device layout.side layout.generation (c.requires.layout on).live) in
    search (rules, all_used, generation)
