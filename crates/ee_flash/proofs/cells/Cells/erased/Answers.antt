use Rattle.ee_flash.proofs.Kept.{kept_erased, erased_words}
use Rattle.ee_flash.proofs.cells.Cells.erased.Goals as goal

pub invariant_of-result : goal.invariant_of-result
invariant_of-result g c =
    kept_erased c.args.count _ _ (c.in_ok-vec.ensures.items_if_clones_equal (λ y same. same))
    (c.in_ok-vec-2.ensures.items_if_clones_equal (λ y same. same))

pub returns : goal.returns
returns g c =
    erased_words c.args.count _ _ (c.in_ok-vec.ensures.items_if_clones_equal (λ y same. same))
    (c.in_ok-vec-2.ensures.items_if_clones_equal (λ y same. same))
