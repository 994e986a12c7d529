use Rattle.std.proofs.Common.{◌≡◌, ◌++◌, take}
use Rattle.ee_commands.specs.Json.{count_items}
use Rattle.ee_commands.proofs.json.wear.push_counts.Given as goal

-- the objects of the pages so far are written
abbrev pub invariant-pages : goal.invariant-pages
invariant-pages g l =
    l.out.items ≡ l.fn.out.items ++ count_items 0 (take l.page l.ledger)
