use Rattle.std.proofs.Common.{◌≡◌, ◌+◌, length}
use Rattle.ee_commands.specs.Sizing.{AreDemands}
use Rattle.ee_commands.proofs.sizing.demands_of.Given as goal

-- the demands of fewer pages are there
abbrev pub invariant-loop-pages : goal.invariant-loop-pages
invariant-loop-pages g l = record {
  so_far : AreDemands l.words l.rounds 1 l.demands.items;
  counted : l.pages ≡ 1 + length l.demands.items;
}
