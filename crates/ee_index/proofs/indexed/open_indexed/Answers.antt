use Rattle.std.proofs.Common.{subst, sym}
use Rattle.ee_core.specs.Openings.{Opens}
use Rattle.ee_core.proofs.Public.{layout_stays, opening_cut, opens}
use Rattle.ee_index.specs.Index.{IsIndex, slot_for}
use Rattle.ee_index.proofs.indexed.open_indexed.Goals as goal

pub returns-in-Ok-finish-clause-opened : goal.returns-in-Ok-finish-clause-opened
returns-in-Ok-finish-clause-opened g c =
    let old = g.F.Flash.device c.args.flash in
    let new = g.F.Flash.device c.finish.new.flash in
    subst (λ device. Opens old device) (sym c.store_of.ensures)
    (opens c.in-Ok.layout old new c.in-Ok.ensures.layout c.in-Ok-finish.ensures.stays
    c.in-Ok-finish.ensures.finished c.in-Ok-finish.ensures.shows c.in-Ok-finish.ensures.steps.done)

pub returns-in-Err-finish-clause-failed : goal.returns-in-Err-finish-clause-failed
returns-in-Err-finish-clause-failed g c =
    let old = g.F.Flash.device c.args.flash in
    let new = g.F.Flash.device c.finish.new.flash in
    opening_cut c.in-Ok.layout old new c.in-Ok.ensures.layout c.in-Err-finish.ensures.stays
    c.in-Err-finish.ensures.begun c.requires c.in-Err-finish.ensures.steps.cut

pub store_of-requires : goal.store_of-requires
store_of-requires g c =
    let old = g.F.Flash.device c.args.flash in
    let new = g.F.Flash.device c.finish.new.flash in
    let found = c.in-Ok.ensures.layout in
    let ended = c.in-Ok-finish.ensures in
    let opened =
    opens c.in-Ok.layout old new found ended.stays ended.finished ended.shows ended.steps.done in
    record {
      store = opened.store;
      layout = λ on. layout_stays c.in-Ok.layout old new found ended.stays;
      fits = λ on. subst (λ slots. IsIndex slots (slot_for c.in-Ok-index_of.index.index))
          (sym ended.stays.keeps.same_slots) c.in-Ok-index_of.ensures;
    }
