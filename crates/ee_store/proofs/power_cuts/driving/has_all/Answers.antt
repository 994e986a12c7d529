use Rattle.std.proofs.Common.{sym, ◌∙◌}
use Rattle.ee_core.specs.State.{state_of}
use Rattle.ee_store.proofs.PowerCutsLemmas.ListedValues.{has_at, has_one_more, other_value, same_value}
use Rattle.ee_store.proofs.power_cuts.driving.has_all.Goals as goal

pub returns-then-ne : goal.returns-then-ne
returns-then-ne g c =
    let map = (state_of (g.F.Flash.device c.args.flash.now)).map in (
      λ wrong. absurd (cc wrong),
      λ there. absurd (other_value c.value_in.result c.put-item.result.value c.if-ne.ensures
          (c.value_in.ensures
          ∙ has_at map c.args.puts.now c.entries.put-index c.put-item.result there
          c.entries-test.true c.put-item.is)),
    )

pub entries-preserved : goal.entries-preserved
entries-preserved g c =
    let map = (state_of (g.F.Flash.device c.args.flash.now)).map in
    has_one_more map c.args.puts.now c.entries.put-index c.put-item.result c.entries.invariant
    c.entries-test.true c.put-item.is
    (sym c.value_in.ensures ∙ same_value c.value_in.result c.put-item.result.value c.if-ne.ensures)
