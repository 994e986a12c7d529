use Rattle.std.proofs.Common.{length, ap, arith}
use Rattle.ee_check.proofs.Tables.{IsClear, is_clear}
use Rattle.ee_check.proofs.live_table.LiveTable.new.Goals as goal

pub invariant_of-result : goal.invariant_of-result
invariant_of-result g c =
    let clear : IsClear c.in_ok-vec.field-0.items 65536 =
    is_clear _ _ (c.in_ok-vec.ensures.items_if_clones_equal (λ y same. same)) in
    let none = ap length clear.none in
    (clear.as_many, omega arith)

pub returns : goal.returns
returns g c =
    let clear : IsClear c.in_ok-vec.field-0.items 65536 =
    is_clear _ _ (c.in_ok-vec.ensures.items_if_clones_equal (λ y same. same)) in
    clear.none
