use Rattle.std.proofs.Common.{arith}
use Rattle.ee_flash.proofs.Kept.{kept_set, length-kept, set_words}
use Rattle.ee_flash.proofs.cells.Cells.set.Goals as goal

pub invariant_of-self : goal.invariant_of-self
invariant_of-self g c =
    kept_set _ _ _ c.self.view_is c.self.invariant.0 c.args.place c.number.result c.is_torn.result
    c.args.word c.requires.below_all_ones c.number.ensures c.is_torn.ensures
    (rw (← c.self.view_is) c.self.invariant.1)

pub returns : goal.returns
returns g c =
    set_words _ _ _ c.self.view_is c.self.invariant.0 c.args.place c.number.result c.is_torn.result
    c.args.word c.requires.below_all_ones c.number.ensures c.is_torn.ensures

pub index_mut-requires : goal.index_mut-requires
index_mut-requires g c =
    omega (
      arith,
      length-kept _ _ _ c.self.view_is c.self.invariant.0,
      c.self.inside.numbers.ok.0,
      c.requires.within,
    )

pub index_mut-requires-2 : goal.index_mut-requires-2
index_mut-requires-2 g c =
    omega (
      arith,
      length-kept _ _ _ c.self.view_is c.self.invariant.0,
      c.self.invariant.0,
      c.self.inside.torn.ok.0,
      c.requires.within,
    )
