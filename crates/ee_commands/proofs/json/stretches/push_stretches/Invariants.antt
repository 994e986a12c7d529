use Rattle.std.proofs.Common.{◌≡◌, ◌++◌, take}
use Rattle.ee_commands.specs.Json.{stretch_items}
use Rattle.ee_commands.proofs.json.stretches.push_stretches.Given as goal

-- the objects of the stretches so far are written
abbrev pub invariant-loop-stretch : goal.invariant-loop-stretch
invariant-loop-stretch g l =
    l.out.items ≡ l.fn.out.items ++ stretch_items (take l.stretch-index l.stretches)
