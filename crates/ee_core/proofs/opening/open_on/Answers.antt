use Rattle.ee_core.proofs.LiveMarks.{layout_stays}
use Rattle.ee_core.proofs.OpeningFacts.{opening_cut, opens}
use Rattle.ee_core.proofs.opening.open_on.Goals as goal

pub returns-in-Ok-finish-clause-opened : goal.returns-in-Ok-finish-clause-opened
returns-in-Ok-finish-clause-opened g c =
    let old = g.F.Flash.device c.args.flash.now in
    let new = g.F.Flash.device c.finish.new.flash in
    search (opens c.in-Ok.layout old new c.in-Ok.ensures.layout c.in-Ok-finish.ensures.stays
    c.in-Ok-finish.ensures.finished c.in-Ok-finish.ensures.shows c.in-Ok-finish.ensures.steps.done)

pub returns-in-Ok-finish-clause-layout : goal.returns-in-Ok-finish-clause-layout
returns-in-Ok-finish-clause-layout g c = search (layout_stays c.in-Ok.layout
    (g.F.Flash.device c.args.flash.now) (g.F.Flash.device c.finish.new.flash) c.in-Ok.ensures.layout
    c.finish.ensures.stays)

pub returns-in-Err-finish-clause-failed : goal.returns-in-Err-finish-clause-failed
returns-in-Err-finish-clause-failed g c =
    let old = g.F.Flash.device c.args.flash.now in
    let new = g.F.Flash.device c.finish.new.flash in
    search (opening_cut c.in-Ok.layout old new c.in-Ok.ensures.layout c.in-Err-finish.ensures.stays
    c.in-Err-finish.ensures.begun c.requires c.in-Err-finish.ensures.steps.cut)
