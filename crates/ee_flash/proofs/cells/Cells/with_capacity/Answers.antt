use Rattle.ee_flash.proofs.Kept.{kept_none, no_words}
use Rattle.ee_flash.proofs.cells.Cells.with_capacity.Goals as goal

pub invariant_of-result : goal.invariant_of-result
invariant_of-result g c =
    kept_none _ _ c.in_ok-with_capacity.ensures.items c.in_ok-with_capacity-2.ensures.items

pub returns : goal.returns
returns g c = no_words _ _ c.in_ok-with_capacity.ensures.items
