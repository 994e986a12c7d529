use Rattle.std.proofs.Common.{◌≡◌, ◌+◌, drop}
use Rattle.ee_commands.specs.Sizing.{fewest_enough}
use Rattle.ee_commands.proofs.sizing.fewest_of.Given as goal

-- no fewer are enough, so what is left decides
abbrev pub invariant-loop-demand : goal.invariant-loop-demand
invariant-loop-demand l = record {
  counted : l.pages ≡ 1 + l.demand-index;
  so_far : fewest_enough l.cycles 1 l.demands
      ≡ fewest_enough l.cycles l.pages (drop l.demand-index l.demands);
}
