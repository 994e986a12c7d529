use Rattle.std.proofs.Common.{arith}
use Rattle.ee_pages.proofs.Public.{live_within_fill}
use Rattle.ee_pages.specs.Sets.{set_of, slots_of}
use Rattle.ee_core.proofs.Making.{few_within}
use Rattle.ee_core.proofs.rescuing.rescue_set.Goals as goal

pub transfer_by_slots-requires-clause-fits : goal.transfer_by_slots-requires-clause-fits
transfer_by_slots-requires-clause-fits g c =
    let device = g.F.Flash.device c.args.flash.now in
    omega (
      arith,
      live_within_fill (slots_of (set_of c.args.side device)),
      few_within device c.args.side (g.met.F.Flash.formed c.args.flash.now),
    )
