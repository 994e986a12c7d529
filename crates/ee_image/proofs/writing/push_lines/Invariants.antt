use Rattle.std.proofs.Common.{◌≡◌, ◌++◌, take}
use Rattle.ee_text.specs.Line.{line_of}
use Rattle.ee_image.specs.Text.{page_lines, size_text}
use Rattle.ee_image.proofs.writing.push_lines.Given as goal

-- the first line and the lines of the pages so far are written
abbrev pub invariant-loop-page : goal.invariant-loop-page
invariant-loop-page g l =
    let device = g.F.Flash.device l.flash in
    l.out.items
    ≡ l.fn.out.items
    ++ (line_of (size_text device.size)
    ++ page_lines (take l.page device.image) (take l.page device.wear))
