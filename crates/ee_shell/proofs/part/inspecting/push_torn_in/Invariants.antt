use Rattle.std.proofs.Common.{◌≡◌, ◌++◌}
use Rattle.ee_image_store.specs.Told.{each_below}
use Rattle.ee_shell.specs.Part.Inspecting.{torn_told}
use Rattle.ee_shell.proofs.part.inspecting.push_torn_in.Given as goal

-- the places so far are told
abbrev pub invariant-places : goal.invariant-places
invariant-places g l =
    l.out.items
    ≡ l.fn.out.items
    ++ each_below l.at (torn_told l.telling (g.F.Flash.device l.flash) l.live l.page)
