use Rattle.std.proofs.Common.{drop, take, List, ◌++◌, ◌≡◌}
use Rattle.ee_flash.specs.Runs.{AreReadings}
use Rattle.ee_flash.specs.declared.word.Word.{Word}
use Rattle.ee_pages.specs.Loading.{told}
use Rattle.ee_pages.proofs.loading.tell_run.Given as goal

abbrev pub invariant-loop-at : goal.invariant-loop-at
invariant-loop-at g l =
    (words : List Word) → AreReadings (g.F.Flash.reads l.flash) words l.readings
    → l.entries ≡ told words (take l.at l.fn.entries) ++ drop l.at l.fn.entries
