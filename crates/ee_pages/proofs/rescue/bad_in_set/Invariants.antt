use Rattle.std.proofs.Common.{◌≡◌, ◌≤◌, ◌*◌}
use Rattle.ee_pages.specs.Rescue.{bad_in_pages}
use Rattle.ee_pages.specs.Sets.{set_of}
use Rattle.ee_pages.proofs.rescue.bad_in_set.Given as goal

abbrev pub invariant-loop-page : goal.invariant-loop-page
invariant-loop-page g l =
    let device = g.F.Flash.device l.fn.flash in
    record {
      bad : l.bad ≡ bad_in_pages device.size (set_of l.fn.side device) l.page;
      within : l.bad ≤ l.page * device.size.words;
    }
