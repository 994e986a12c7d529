use Rattle.std.proofs.Common.{arith}
use Rattle.ee_flash.proofs.Kept.{length-kept, word_kept}
use Rattle.ee_flash.proofs.cells.Cells.word.Goals as goal

pub index-requires : goal.index-requires
index-requires g c =
    omega (arith, length-kept _ _ _ c.self.view_is c.self.invariant.0, c.self.inside.numbers.ok.0)

pub index-requires-2 : goal.index-requires-2
index-requires-2 g c =
    omega (
      arith,
      length-kept _ _ _ c.self.view_is c.self.invariant.0,
      c.self.invariant.0,
      c.self.inside.torn.ok.0,
    )

pub returns-clause-value : goal.returns-clause-value
returns-clause-value g c =
    word_kept _ _ _ c.self.view_is c.self.invariant.0 c.args.place c.index.result.now
    c.index-2.result.now c.word_from.result c.requires c.index.ensures c.index-2.ensures
    c.word_from.ensures
