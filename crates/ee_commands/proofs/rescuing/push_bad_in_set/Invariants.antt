use Rattle.std.proofs.Common.{◌≡◌, ◌++◌}
use Rattle.ee_commands.specs.Rescuing.{bad_line}
use Rattle.ee_image_store.specs.Told.{each_below}
use Rattle.ee_commands.proofs.rescuing.push_bad_in_set.Given as goal

-- the lines of the pages so far are written
abbrev pub invariant-pages : goal.invariant-pages
invariant-pages g l =
    let device = g.F.Flash.device l.fn.flash in
    l.out.items
    ≡ l.fn.out.items
    ++ each_below l.page
    (λ page. each_below device.size.words (bad_line device l.fn.set.side page))
