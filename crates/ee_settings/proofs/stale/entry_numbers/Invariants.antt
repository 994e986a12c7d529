use Rattle.std.proofs.Common.{◌≡◌, map, take}
use Rattle.ee_settings.specs.declared.stale.Stale.{Stale}
use Rattle.ee_settings.proofs.stale.entry_numbers.Given as goal

-- the entries so far
abbrev pub invariant-loop-stale : goal.invariant-loop-stale
invariant-loop-stale g l =
    l.entries.items ≡ map (λ (one : Stale). one.entry) (take l.stale-index l.values)
