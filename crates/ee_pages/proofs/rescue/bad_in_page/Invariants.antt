use Rattle.std.proofs.Common.{◌≡◌, ◌≤◌}
use Rattle.ee_pages.specs.Rescue.{count_below, is_bad}
use Rattle.ee_pages.specs.Sets.{set_of}
use Rattle.ee_pages.proofs.rescue.bad_in_page.Given as goal

abbrev pub invariant-loop-at : goal.invariant-loop-at
invariant-loop-at g l =
    let device = g.F.Flash.device l.fn.flash in
    record {
      bad : l.bad
          ≡ count_below (is_bad device.size (set_of l.fn.side device) l.fn.page) l.at;
      within : l.bad ≤ l.at;
    }
