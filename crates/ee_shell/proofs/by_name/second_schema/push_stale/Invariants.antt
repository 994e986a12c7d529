use Rattle.std.proofs.Common.{◌≡◌, ◌++◌, take}
use Rattle.ee_shell.specs.ByName.SecondSchema.{stale_lines}
use Rattle.ee_shell.proofs.by_name.second_schema.push_stale.Given as goal

-- the lines so far are written
abbrev pub invariant-loop-one : goal.invariant-loop-one
invariant-loop-one g l =
    l.out.items ≡ l.fn.out.items ++ stale_lines l.schema.settings (take l.one-index l.stale)
