use Rattle.ee_index.proofs.InOrder.{above_found, above_gap}
use Rattle.ee_index.proofs.reading.place_above.Goals as goal

pub returns-in-Ok-clause-above : goal.returns-in-Ok-clause-above
returns-in-Ok-clause-above g c =
    above_found _ _ c.in-Ok.place c.requires.ordered c.in-Ok.ensures.found

pub returns-in-Err-clause-above : goal.returns-in-Err-clause-above
returns-in-Err-clause-above g c =
    above_gap _ _ c.in-Err.place c.requires.ordered c.in-Err.ensures.absent
