use Rattle.std.proofs.Common.{◌≤◌, List, drop, length}
use Rattle.ee_flash.specs.Runs.{AreReadings}
use Rattle.ee_flash.specs.declared.word.Word.{Word}
use Rattle.ee_pages.specs.Meaning.{latest_in}
use Rattle.ee_pages.specs.Spans.{TellsBefore}
use Rattle.ee_pages.proofs.span.tell_run.Given as goal

abbrev pub invariant-behind : goal.invariant-behind
invariant-behind g l = record {
  within : l.left ≤ length l.readings;
  tells : (words : List Word) → AreReadings (g.F.Flash.reads l.flash) words l.readings
      → TellsBefore (latest_in (drop l.left words)) l.fn.span l.span;
}

abbrev pub decreases-behind : goal.decreases-behind
decreases-behind g l = l.left
