use Rattle.std.proofs.Common.{◌≡◌, ◌∙◌, ap, arith, sym}
use Rattle.ee_flash.specs.Size.{slot_count}
use Rattle.ee_core.specs.State.{capacity}
use Rattle.ee_core.proofs.Making.{all_written}
use Rattle.ee_core.proofs.known.Known.write.Goals as goal

pub move_value-requires-clause-used : goal.move_value-requires-clause-used
move_value-requires-clause-used g c =
    let device = g.F.Flash.device c.args.flash.now in
    let slots : c.slots.result ≡ capacity device =
    c.slots.ensures.value ∙ ap slot_count c.shape.ensures in
    all_written device c.args.self.now.layout (c.requires.layout (sym c.if-not-is_on.ensures))
    (omega (arith, slots, c.if-self-slots.false))
