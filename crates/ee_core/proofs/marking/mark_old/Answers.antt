use Rattle.ee_core.proofs.Words.{◌≡◌, ◌<◌, arith, true}
use Rattle.ee_core.proofs.Sets.{page_count, other, Erasing, is_marked, marking}
use Rattle.ee_core.proofs.AfterCalls.{not_ok}
use Rattle.ee_core.proofs.Marks.{marks, old_mark_stays, page_in_device, proper_old}
use Rattle.ee_core.proofs.OneMark.{mark_cut, mark_set}
use Rattle.ee_core.proofs.Taken.{completes_unless, stops_unless, takes_err, takes_ok}
use Rattle.ee_core.proofs.marking.mark_old.Goals as goal

pub returns-in_err-mark : goal.returns-in_err-mark
returns-in_err-mark g c =
    let old = g.F.Flash.device c.args.flash.now in
    let new = g.F.Flash.device c.mark.new.flash in
    let layout = c.args.layout.now in
    let formed = g.met.F.Flash.formed c.args.flash.now in
    let h : c.args.page < page_count old.size =
    page_in_device old (other layout.side) c.args.page c.requires.page.from
    (omega (arith, c.requires.page.from, c.requires.page.below)) in
    let left =
    marks c.args.page Erasing old new c.mark.result formed h proper_old c.mark.ensures.present
    c.mark.ensures.on c.mark.ensures.done c.mark.ensures.cut in
    let failed = c.from_residual.ensures.0 in
    let unset : ¬ (is_marked old c.args.page Erasing ≡ true) =
    λ set. not_ok (c.mark.ensures.present set).0 c.in_err-mark.was in
    record {
      marks =
          mark_cut c.args.page Erasing old new layout.side layout.generation formed h
          (old_mark_stays c.args.page old new layout.side layout.generation c.requires.layout.live
          c.requires.page c.requires.not_blank left) left
          (λ set. (c.mark.ensures.present set).1) c.from_residual.result failed unset
          c.in_err-mark.ensures.cut;
      steps = takes_err _ failed
          (stops_unless (is_marked old c.args.page Erasing) (marking c.args.page Erasing)
          unset c.in_err-mark.ensures.cut);
    }

pub returns : goal.returns
returns g c =
    let old = g.F.Flash.device c.args.flash.now in
    let new = g.F.Flash.device c.mark.new.flash in
    let layout = c.args.layout.now in
    let formed = g.met.F.Flash.formed c.args.flash.now in
    let h : c.args.page < page_count old.size =
    page_in_device old (other layout.side) c.args.page c.requires.page.from
    (omega (arith, c.requires.page.from, c.requires.page.below)) in
    let left =
    marks c.args.page Erasing old new c.mark.result formed h proper_old c.mark.ensures.present
    c.mark.ensures.on c.mark.ensures.done c.mark.ensures.cut in
    let same =
    λ (set : is_marked old c.args.page Erasing ≡ true). (c.in_ok-mark.ensures.present set).1 in
    record {
      marks =
          mark_set c.args.page Erasing old new layout.side layout.generation formed h
          (old_mark_stays c.args.page old new layout.side layout.generation c.requires.layout.live
          c.requires.page c.requires.not_blank left) left same
          proper_old c.in_ok-mark.ensures.on c.in_ok-mark.ensures.done;
      steps = takes_ok
          (completes_unless (is_marked old c.args.page Erasing) (marking c.args.page Erasing) old
          same c.in_ok-mark.ensures.on c.in_ok-mark.ensures.done);
    }
