use Rattle.std.proofs.Common.{◌-◌, ◌≡◌, ℕ, ◌<◌, ◌≤◌, false}
use Rattle.ee_flash.specs.Device.{word_at}
use Rattle.ee_pages.specs.Page.{is_written}
use Rattle.ee_pages.proofs.state.blank_to.Given as goal

abbrev pub invariant-runs : goal.invariant-runs
invariant-runs g l = record {
  from : l.from ≤ l.at;
  within : l.at ≤ (g.F.Flash.device l.flash).size.words;
  next : l.at < (g.F.Flash.device l.flash).size.words
      → (l.at < l.end) × (l.end ≤ (g.F.Flash.device l.flash).size.words);
  before : (j : ℕ) → l.from ≤ j → j < l.at
      → is_written (word_at (g.F.Flash.device l.flash) l.page j) ≡ false;
}

abbrev pub decreases-runs : goal.decreases-runs
decreases-runs g l = l.words - l.at
