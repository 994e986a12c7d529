use Rattle.std.proofs.Common.{◌≡◌, ◌≤◌, ◌*◌, ◌-◌, drop, take}
use Rattle.ee_pages.specs.Loading.{told}
use Rattle.ee_pages.specs.Sets.{set_of, slots_of}
use Rattle.ee_pages.proofs.loading.tell_page.Given as goal

abbrev pub invariant-runs : goal.invariant-runs
invariant-runs g l =
    let device = g.F.Flash.device l.flash in
    record {
      so_far : l.entries
          ≡ told
          (take (l.at - 4)
          (drop (l.fn.page * (device.size.words - 4)) (slots_of (set_of l.fn.side device))))
          l.fn.entries;
      from : 4 ≤ l.at;
      within : l.at ≤ device.size.words;
    }

abbrev pub decreases-runs : goal.decreases-runs
decreases-runs g l = l.words - l.at
