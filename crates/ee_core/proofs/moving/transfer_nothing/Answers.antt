use Rattle.std.proofs.Common.{[], ap, refl, ◌∙◌}
use Rattle.std.proofs.lemmas.Result.{err_from_is_err_and}
use Rattle.ee_pages.specs.Sets.{first_page}
use Rattle.ee_core.specs.Puts.{each_forgotten}
use Rattle.ee_core.proofs.MapMoves.{map_cut, mark_cut, set_moved}
use Rattle.ee_core.proofs.MovingFacts.{layout_emptied}
use Rattle.ee_core.proofs.MovedSteps.{move_below, move_done, move_first, move_stops}
use Rattle.ee_core.proofs.Taken.{takes_err, takes_ok}
use Rattle.ee_core.proofs.moving.transfer_nothing.Goals as goal

pub finish-requires : goal.finish-requires
finish-requires g c =
    let mid = g.F.Flash.device c.move_nothing.new.flash in
    let moves = c.in_ok-move_nothing.ensures.moves in
    layout_emptied (g.F.Flash.device c.args.flash.now) mid c.args.layout.now each_forgotten _ _
    moves.moved c.other.ensures moves.each_once
    (c.first_page.ensures ∙ ap (first_page mid.size) c.other-2.ensures)

pub returns-in_err-move_nothing : goal.returns-in_err-move_nothing
returns-in_err-move_nothing g c =
    let old = g.F.Flash.device c.args.flash.now in
    let cut = c.in_err-move_nothing.ensures in
    record {
      moves =
          rw (err_from_is_err_and c.from_residual.result c.from_residual.ensures.1).1
          (map_cut old (g.F.Flash.device c.move_nothing.new.flash) c.args.layout.now _ _
          cut.moves);
      steps = takes_err _ c.from_residual.ensures.0
          (move_first old c.args.layout.now.side c.args.layout.now.generation []
          (g.F.Flash.device c.move_nothing.new.flash) cut.steps.cut);
    }

pub returns-in_err-finish : goal.returns-in_err-finish
returns-in_err-finish g c =
    let failed = c.from_residual-in_err-finish in
    let cut = c.in_err-finish.ensures in
    let mid = g.F.Flash.device c.move_nothing.new.flash in
    let found =
    layout_emptied (g.F.Flash.device c.args.flash.now) mid c.args.layout.now each_forgotten _ _
    c.in_ok-move_nothing.ensures.moves.moved c.other.ensures
    c.in_ok-move_nothing.ensures.moves.each_once
    (c.first_page.ensures ∙ ap (first_page mid.size) c.other-2.ensures) in
    record {
      moves = rw (err_from_is_err_and failed.result failed.ensures.1).1
          (mark_cut (g.F.Flash.device c.args.flash.now) (g.F.Flash.device c.move_nothing.new.flash)
          (g.F.Flash.device c.finish.new.flash) c.args.layout.now c.other.result _ _ _
          (g.met.F.Flash.formed c.args.flash.now) c.in_ok-move_nothing.ensures.moves c.other.ensures
          cut.stays cut.begun);
      steps = takes_err _ failed.ensures.0
          (move_stops (g.F.Flash.device c.args.flash.now) mid
          c.args.layout.now _ _ _ (g.met.F.Flash.formed c.args.flash.now)
          c.in_ok-move_nothing.ensures.moves
          (move_below mid c.args.layout.now.side c.other.result c.other.ensures _ found refl)
          c.other.result c.other.ensures (g.F.Flash.device c.finish.new.flash)
          c.in_ok-move_nothing.ensures.steps.done cut.steps.cut);
    }

pub returns : goal.returns
returns g c =
    let old = g.F.Flash.device c.args.flash.now in
    let mid = g.F.Flash.device c.move_nothing.new.flash in
    let new = g.F.Flash.device c.finish.new.flash in
    let layout = c.args.layout.now in
    let map = c.in_ok-move_nothing.ensures in
    let done = c.in_ok-finish.ensures in
    let found =
    layout_emptied old mid layout each_forgotten _ _ map.moves.moved c.other.ensures
    map.moves.each_once
    (c.first_page.ensures ∙ ap (first_page mid.size) c.other-2.ensures) in
    record {
      moves =
          set_moved old mid new layout c.other.result _ _ _ (g.met.F.Flash.formed c.args.flash.now)
          map.moves c.other.ensures done.stays _ found done.shows done.finished;
      steps = takes_ok
          (move_done old mid layout _ _ _ (g.met.F.Flash.formed c.args.flash.now) map.moves
          (move_below mid layout.side c.other.result c.other.ensures _ found refl)
          c.other.result c.other.ensures new map.steps.done done.steps.done);
    }
