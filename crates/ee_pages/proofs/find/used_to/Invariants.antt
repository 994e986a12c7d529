use Rattle.std.proofs.Common.{◌-◌, ◌≡◌, ℕ, ◌<◌, ◌≤◌, true}
use Rattle.ee_flash.specs.Device.{word_at}
use Rattle.ee_pages.specs.Legal.{holds_slot}
use Rattle.ee_pages.proofs.find.used_to.Given as goal

abbrev pub invariant-runs : goal.invariant-runs
invariant-runs g l = record {
  from : 4 ≤ l.at;
  within : l.at ≤ (g.F.Flash.device l.flash).size.words;
  before : (j : ℕ) → 4 ≤ j → j < l.at
      → holds_slot (word_at (g.F.Flash.device l.flash) l.page j) ≡ true;
}

abbrev pub decreases-runs : goal.decreases-runs
decreases-runs g l = l.words - l.at
