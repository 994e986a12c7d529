use Rattle.std.proofs.Common.{◌≡◌, ◌++◌, take}
use Rattle.ee_commands.specs.Json.{state_items}
use Rattle.ee_commands.proofs.json.states.push_states.Given as goal

-- the objects of the pages so far are written
abbrev pub invariant-pages : goal.invariant-pages
invariant-pages g l =
    l.out.items
    ≡ l.fn.out.items
    ++ state_items 0 (take l.page (g.F.Flash.device l.flash).image)
