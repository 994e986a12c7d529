use Rattle.std.proofs.Common.{None, drop, take, ◌++◌, ◌≡◌}
use Rattle.ee_pages.specs.Loading.{loaded}
use Rattle.ee_pages.proofs.loading.clear_values.Given as goal

abbrev pub invariant-loop-at : goal.invariant-loop-at
invariant-loop-at l =
    l.entries ≡ loaded (λ address. None) (take l.at l.fn.entries) ++ drop l.at l.fn.entries
