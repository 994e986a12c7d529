use Rattle.std.proofs.Common.{◌≡◌, ◌≤◌, List, length, take}
use Rattle.ee_flash.specs.Runs.{AreReadings}
use Rattle.ee_flash.specs.declared.word.Word.{Word}
use Rattle.ee_pages.specs.Nearest.{HasPlaces, IsRising, with_each_named}
use Rattle.ee_pages.specs.declared.batch_items.TheConstants.{BATCH}
use Rattle.ee_pages.proofs.batch.note_all.Given as goal

abbrev pub invariant-loop-reading : goal.invariant-loop-reading
invariant-loop-reading g l = record {
  named : (words : List Word) → AreReadings (g.F.Flash.reads l.flash) words l.readings
      → l.nearest.named
      ≡ take BATCH (with_each_named l.above (take l.reading-index words) l.fn.nearest.named);
  rising : IsRising l.above l.nearest.named;
  few : length l.nearest.named ≤ BATCH;
  places : HasPlaces BATCH l.above l.span l.nearest.named;
}
