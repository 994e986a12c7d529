use Rattle.std.proofs.Common.{◌≡◌, ℕ, ◌<◌, true, List, get_or}
use Rattle.ee_flash.specs.Runs.{AreReadings}
use Rattle.ee_flash.specs.declared.word.Word.{Word}
use Rattle.ee_flash.specs.declared.word.Word.TheVariants.{Erased}
use Rattle.ee_pages.specs.Legal.{holds_slot}
use Rattle.ee_pages.proofs.find.slots_in.Given as goal

abbrev pub invariant-loop-place : goal.invariant-loop-place
invariant-loop-place g l =
    (words : List Word) → AreReadings (g.F.Flash.reads l.flash) words l.readings → (k : ℕ)
    → k < l.place → holds_slot (get_or words k Erased) ≡ true
