use Rattle.std.proofs.Common.{◌≡◌, take}
use Rattle.ee_commands.specs.Sizing.{size_lines}
use Rattle.ee_commands.proofs.sizing.text_of_sizes.Given as goal

-- the lines of fewer pages are written
abbrev pub invariant-loop-demand : goal.invariant-loop-demand
invariant-loop-demand g l = record {
  counted : l.pages ≡ l.demand-index;
  so_far : l.text.items
      ≡ size_lines l.words l.cycles l.changes 1 (take l.demand-index l.demands);
}
