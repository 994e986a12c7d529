use Rattle.std.proofs.Common.{◌≡◌, ◌≤◌, ◌+◌, ◌-◌, ◌*◌, [], take}
use Rattle.ee_pages.specs.Nearest.{HasPlaces, with_each_named}
use Rattle.ee_pages.specs.Sets.{set_of, slots_of}
use Rattle.ee_pages.specs.declared.batch_items.TheConstants.{BATCH}
use Rattle.ee_pages.proofs.batch.gather_page.Given as goal

abbrev pub invariant-runs : goal.invariant-runs
invariant-runs g l = record {
  named : l.nearest.named
      ≡ take BATCH
      (with_each_named l.above
      (take (l.fn.page * ((g.F.Flash.device l.flash).size.words - 4) + (l.at - 4))
      (slots_of (set_of l.fn.side (g.F.Flash.device l.flash)))) []);
  from : 4 ≤ l.at;
  within : l.at ≤ (g.F.Flash.device l.flash).size.words;
  places : HasPlaces BATCH l.above l.span l.nearest.named;
}

abbrev pub decreases-runs : goal.decreases-runs
decreases-runs g l = l.words - l.at
