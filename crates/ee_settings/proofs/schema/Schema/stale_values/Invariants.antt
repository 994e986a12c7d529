use Rattle.std.proofs.Common.{◌≡◌, ◌+◌, ◌++◌, drop}
use Rattle.ee_core.specs.State.{state_of}
use Rattle.ee_settings.specs.Stale.{stale_from, stale_in}
use Rattle.ee_settings.proofs.schema.Schema.stale_values.Given as goal

-- the rest is left to look at
abbrev pub invariant-loop-index : goal.invariant-loop-index
invariant-loop-index g l =
    let stored = (state_of (g.V.Variables.device l.store)).map in
    l.stale.items ++ stale_from (l.index + 1) stored (drop l.index l.setting-items)
    ≡ stale_in stored l.self.settings
