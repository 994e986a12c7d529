use Rattle.std.proofs.Common.{◌≡◌, ◌++◌, take}
use Rattle.ee_shell.specs.ByName.Listing.{listed_lines}
use Rattle.ee_shell.proofs.by_name.listing.push_lines.Given as goal

-- the lines so far are written
abbrev pub invariant-loop-one : goal.invariant-loop-one
invariant-loop-one g l =
    l.out.items ≡ l.fn.out.items ++ listed_lines l.schema (take l.one-index l.listed)
