use Rattle.std.proofs.Common.{sym, ◌∙◌}
use Rattle.ee_flash.proofs.Kept.{length-kept}
use Rattle.ee_flash.proofs.cells.Cells.len.Goals as goal

pub returns-clause-value : goal.returns-clause-value
returns-clause-value g c =
    c.len.ensures ∙ c.self.inside.numbers.ok.0
    ∙ sym (length-kept _ _ _ c.self.view_is c.self.invariant.0)
