use Rattle.ee_pages.specs.Sets.{set_of, slots_of}
use Rattle.ee_index.proofs.Gathered.{IndexesFrom}
use Rattle.ee_index.proofs.gathering.gather.Given as goal

abbrev pub invariant-slots : goal.invariant-slots
invariant-slots g l =
    IndexesFrom (slots_of (set_of l.layout.side (g.F.Flash.device l.flash))) l.layout.fill l.number
    l.entries.items
