use Rattle.std.proofs.Common.{◌≡◌, ◌++◌}
use Rattle.ee_image_store.specs.Told.{each_below}
use Rattle.ee_shell.specs.Xcube.Pages.{slot_number}
use Rattle.ee_shell.proofs.xcube.pages.push_slots.Given as goal

-- what the places so far hold is written
abbrev pub invariant-places : goal.invariant-places
invariant-places g l =
    l.out.items
    ≡ l.fn.out.items ++ each_below l.at (slot_number (g.F.Flash.device l.fn.flash) l.fn.page)
