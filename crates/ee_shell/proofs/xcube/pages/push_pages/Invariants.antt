use Rattle.std.proofs.Common.{◌≡◌, ◌++◌}
use Rattle.ee_image_store.specs.Told.{each_below}
use Rattle.ee_shell.specs.Xcube.Pages.{page_numbers}
use Rattle.ee_shell.proofs.xcube.pages.push_pages.Given as goal

-- what the pages so far hold is written
abbrev pub invariant-pages : goal.invariant-pages
invariant-pages g l =
    l.out.items
    ≡ l.fn.out.items ++ each_below l.page (page_numbers (g.F.Flash.device l.fn.flash) l.fn.state)
