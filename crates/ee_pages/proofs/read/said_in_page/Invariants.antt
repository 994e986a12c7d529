use Rattle.std.proofs.Common.{◌≡◌, ◌≤◌, ◌*◌, ◌-◌, None, drop, take}
use Rattle.ee_pages.specs.Meaning.{latest_in}
use Rattle.ee_pages.specs.Sets.{set_of, slots_of}
use Rattle.ee_pages.proofs.read.said_in_page.Given as goal

abbrev pub invariant-runs : goal.invariant-runs
invariant-runs g l =
    let device = g.F.Flash.device l.flash in
    let before = l.page * (device.size.words - 4) in
    let row = take l.used (drop before (slots_of (set_of l.fn.side device))) in
    record { within : l.left ≤ l.used; silent : latest_in (drop l.left row) l.address ≡ None }

abbrev pub decreases-runs : goal.decreases-runs
decreases-runs g l = l.left
