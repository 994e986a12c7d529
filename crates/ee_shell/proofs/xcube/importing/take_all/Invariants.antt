use Rattle.std.proofs.Common.{drop}
use Rattle.ee_shell.specs.Xcube.Values.{HoldsValues, latest}
use Rattle.ee_shell.proofs.xcube.importing.take_all.Given as goal

-- the store has the values of the numbers from this one on
abbrev pub invariant-numbers : goal.invariant-numbers
invariant-numbers g l =
    HoldsValues l.fn.store.size (latest (drop l.index l.fn.numbers)) l.store
