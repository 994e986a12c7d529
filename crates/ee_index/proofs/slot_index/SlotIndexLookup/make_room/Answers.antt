use Rattle.std.proofs.Common.{rules}
use Rattle.ee_index.proofs.IndexedRooms.{new_in_map, no_room, room_made}
use Rattle.ee_index.proofs.IndexedLookups.{has_index}
use Rattle.ee_index.proofs.Indexing.{fill_small}
use Rattle.ee_index.proofs.slot_index.SlotIndexLookup.make_room.Goals as goal

pub returns-in_default-clause-new : goal.returns-in_default-clause-new
returns-in_default-clause-new g c = search (rules, has_index, new_in_map)

pub returns-in_default-clause-fits : goal.returns-in_default-clause-fits
returns-in_default-clause-fits g c =
    let kept = has_index _ _ _ c.requires.layout c.requires.fits in
    (no_room _ _ _ kept _ c.in_default.ensures.err).indexes

pub returns-clause-room : goal.returns-clause-room
returns-clause-room g c =
    let kept = has_index _ _ _ c.requires.layout c.requires.fits in
    room_made _ _ _ kept _ _ c.in-Ok.ensures.shown c.in-Ok.ensures.there

pub make_room-requires : goal.make_room-requires
make_room-requires g c = search (rules, fill_small)
