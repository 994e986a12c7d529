use Rattle.std.proofs.Common.{◌≡◌, ◌++◌}
use Rattle.ee_image_store.specs.Told.{each_below}
use Rattle.ee_shell.specs.Part.Inspecting.{torn_told}
use Rattle.ee_shell.proofs.part.inspecting.push_torn.Given as goal

-- the pages so far are told
abbrev pub invariant-pages : goal.invariant-pages
invariant-pages g l =
    let device = g.F.Flash.device l.flash in
    l.out.items
    ≡ l.fn.out.items
    ++ each_below l.page
    (λ page. each_below device.size.words (torn_told l.telling device l.live page))
