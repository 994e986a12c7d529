use Rattle.std.proofs.Common.{arith}
use Rattle.ee_pages.specs.Sets.{set_of, slots_of}
use Rattle.ee_pages.proofs.Public.{length-slots}
use Rattle.ee_index.proofs.Indexing.{next_some, stands}
use Rattle.ee_index.proofs.reading.next_indexed.Goals as goal

pub value_in-requires : goal.value_in-requires
value_in-requires g c =
    let device = g.F.Flash.device c.args.flash.now in
    let slots = slots_of (set_of c.args.layout.now.side device) in
    let here = stands slots _ c.requires.index _ _ c.in-Some.ensures.1 in
    omega (
      arith,
      here.listed,
      length-slots c.args.layout.now.side device c.requires.layout.live.formed,
    )

pub returns-clause-next : goal.returns-clause-next
returns-clause-next g c =
    let device = g.F.Flash.device c.args.flash.now in
    let slots = slots_of (set_of c.args.layout.now.side device) in
    search (next_some slots _ c.requires.index _ _ _ _ c.in-Some.ensures c.value_in.ensures)
