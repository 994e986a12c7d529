use Rattle.std.proofs.Common.{◌≡◌, ◌≤◌, List, None, drop, length}
use Rattle.ee_flash.specs.Runs.{AreReadings}
use Rattle.ee_flash.specs.declared.word.Word.{Word}
use Rattle.ee_pages.specs.Meaning.{latest_in}
use Rattle.ee_pages.proofs.loading.said_in.Given as goal

abbrev pub invariant-behind : goal.invariant-behind
invariant-behind g l = record {
  within : l.left ≤ length l.readings;
  silent : (words : List Word) → AreReadings (g.F.Flash.reads l.flash) words l.readings
      → latest_in (drop l.left words) l.address ≡ None;
}

abbrev pub decreases-behind : goal.decreases-behind
decreases-behind g l = l.left
