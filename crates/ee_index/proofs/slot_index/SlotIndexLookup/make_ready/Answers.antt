use Rattle.std.proofs.Common.{subst, rules}
use Rattle.ee_pages.specs.Meaning.{Put}
use Rattle.ee_pages.specs.Sets.{set_of, slots_of}
use Rattle.ee_index.specs.Index.{IsReadyFor, slot_for}
use Rattle.ee_index.proofs.Indexing.{fill_small}
use Rattle.ee_index.proofs.slot_index.SlotIndexLookup.make_ready.Goals as goal

pub returns-clause-ready : goal.returns-clause-ready
returns-clause-ready g c =
    subst
    (λ fill. IsReadyFor
    (slots_of (set_of c.args.layout.now.side (g.F.Flash.device c.args.flash.now)))
    (Put c.args.put.address 0) fill (slot_for c.insert.new.self)) c.requires.layout.fill
    (slot_for c.args.self.now.index, c.requires.fits, c.in-Ok.ensures.entered)

pub insert-requires : goal.insert-requires
insert-requires g c = search (rules, fill_small)
