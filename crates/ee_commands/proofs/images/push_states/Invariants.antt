use Rattle.std.proofs.Common.{◌≡◌, ◌++◌, take}
use Rattle.ee_commands.specs.Images.{state_lines}
use Rattle.ee_commands.proofs.images.push_states.Given as goal

-- the lines of the pages so far are written
abbrev pub invariant-pages : goal.invariant-pages
invariant-pages g l =
    l.out.items ≡ l.fn.out.items ++ state_lines 0 (take l.page (g.F.Flash.device l.flash).image)
