use Rattle.std.proofs.Common.{◌≡◌, ◌++◌, take}
use Rattle.ee_flash.specs.Device.{page_at, wear_at}
use Rattle.ee_image.specs.Text.{page_text}
use Rattle.ee_image.proofs.writing.push_page.Given as goal

-- the wear and the words so far are written
abbrev pub invariant-loop-at : goal.invariant-loop-at
invariant-loop-at g l =
    let device = g.F.Flash.device l.flash in
    l.out.items
    ≡ l.fn.out.items ++ page_text (wear_at device l.page) (take l.at (page_at device l.page))
