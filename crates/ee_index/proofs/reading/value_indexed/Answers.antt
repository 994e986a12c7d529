use Rattle.std.proofs.Common.{sym}
use Rattle.ee_index.proofs.IndexedLookups.{has_index, value_found}
use Rattle.ee_index.proofs.IndexedStores.{slot_in_range}
use Rattle.ee_index.proofs.reading.value_indexed.Goals as goal

pub value_in-requires : goal.value_in-requires
value_in-requires g c =
    let device = g.F.Flash.device c.args.flash.now in
    let entries = g.L.Listing.list c.args.list.now in
    slot_in_range device c.args.layout.now entries
    (has_index device c.args.layout.now entries c.requires.layout c.requires.index)
    c.args.address c.in-Some.number (sym c.in-Some.ensures)

pub returns-in-Some : goal.returns-in-Some
returns-in-Some g c =
    let device = g.F.Flash.device c.args.flash.now in
    let entries = g.L.Listing.list c.args.list.now in
    value_found device c.args.layout.now entries
    (has_index device c.args.layout.now entries c.requires.layout c.requires.index)
    c.args.address c.in-Some.number c.value_in.result (sym c.in-Some.ensures) c.value_in.ensures
