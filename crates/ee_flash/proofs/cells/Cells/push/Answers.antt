use Rattle.std.proofs.Common.{rules}
use Rattle.ee_flash.proofs.Kept.{kept_pushed, pushed_words}
use Rattle.ee_flash.proofs.cells.Cells.push.Goals as goal

pub invariant_of-self-in_default : goal.invariant_of-self-in_default
invariant_of-self-in_default g c =
    kept_pushed _ _ _ c.self.view_is c.self.invariant.0 c.number.result c.is_torn.result c.args.word
    _ _ c.requires c.number.ensures c.is_torn.ensures
    (search rules) (search rules) (rw (← c.self.view_is) c.self.invariant.1)

pub returns-clause-pushed : goal.returns-clause-pushed
returns-clause-pushed g c =
    pushed_words _ _ _ c.self.view_is c.self.invariant.0 c.number.result c.is_torn.result
    c.args.word _ _ c.requires c.number.ensures c.is_torn.ensures
    (search rules) (search rules)
