use Rattle.std.proofs.Common.{◌≡◌, ◌++◌, take}
use Rattle.ee_commands.specs.Wear.{count_lines}
use Rattle.ee_commands.proofs.wear.push_counts.Given as goal

-- the lines of the pages so far are written
abbrev pub invariant-pages : goal.invariant-pages
invariant-pages g l = l.out.items ≡ l.fn.out.items ++ count_lines 0 (take l.page l.ledger)
