use Rattle.std.proofs.Common.{◌≡◌, take}
use Rattle.ee_commands.specs.Json.{size_items}
use Rattle.ee_commands.proofs.json.sizes.objects_of.Given as goal

-- the objects of fewer pages are written
abbrev pub invariant-loop-demand : goal.invariant-loop-demand
invariant-loop-demand g l = record {
  counted : l.pages ≡ l.demand-index;
  so_far : l.text.items
      ≡ size_items l.words l.cycles l.changes 1 (take l.demand-index l.demands);
}
