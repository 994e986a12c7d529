use Rattle.std.proofs.Common.{◌-◌, length, true}
use Rattle.std.specs.List.{All}
use Rattle.ee_codec.specs.Words.{IsAddress}
use Rattle.ee_pages.specs.declared.batch_items.TheConstants.{BATCH}
use Rattle.ee_pages.specs.Sets.{set_of, slots_of}
use Rattle.ee_core.specs.CallSteps.{map_in}
use Rattle.ee_index.specs.Index.{IsLeft}
use Rattle.ee_index.proofs.IndexedBatches.{ReachesTo}
use Rattle.ee_index.proofs.reading.batch_indexed.Given as goal

abbrev pub invariant-batch : goal.invariant-batch
invariant-batch g l = record {
  reaches : ReachesTo (map_in l.layout.side (g.F.Flash.device l.flash)) l.fn.after l.behind
      l.found.items;
  left : IsLeft (slots_of (set_of l.layout.side (g.F.Flash.device l.flash))) (λ number. true)
      l.behind l.entries;
  proper : All (λ found. IsAddress found.0) l.found.items;
}

abbrev pub decreases-batch : goal.decreases-batch
decreases-batch g l = BATCH - length l.found.items
