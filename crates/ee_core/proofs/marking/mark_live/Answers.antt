use Rattle.ee_core.proofs.Words.{◌≡◌, ◌<◌, true}
use Rattle.ee_core.proofs.Sets.{page_count, is_marked, marking}
use Rattle.ee_core.proofs.AfterCalls.{not_ok}
use Rattle.ee_core.proofs.Marks.{live_mark_stays, marks, page_in_device, proper_live}
use Rattle.ee_core.proofs.OneMark.{mark_cut, mark_set}
use Rattle.ee_core.proofs.Taken.{completes_unless, stops_unless, takes_err, takes_ok}
use Rattle.ee_core.proofs.marking.mark_live.Goals as goal

pub returns-in_err-mark : goal.returns-in_err-mark
returns-in_err-mark g c =
    let old = g.F.Flash.device c.args.flash.now in
    let new = g.F.Flash.device c.mark.new.flash in
    let layout = c.args.layout.now in
    let formed = g.met.F.Flash.formed c.args.flash.now in
    let h : c.args.page < page_count old.size =
    page_in_device old layout.side c.args.page c.requires.from c.requires.behind.in_range in
    let proper = proper_live c.args.kind c.requires.behind.active_or_valid in
    let left =
    marks c.args.page c.args.kind old new c.mark.result formed h proper c.mark.ensures.present
    c.mark.ensures.on c.mark.ensures.done c.mark.ensures.cut in
    let failed = c.from_residual.ensures.0 in
    let unset : ¬ (is_marked old c.args.page c.args.kind ≡ true) =
    λ set. not_ok (c.mark.ensures.present set).0 c.in_err-mark.was in
    record {
      marks =
          mark_cut c.args.page c.args.kind old new layout.side layout.generation formed h
          (live_mark_stays c.args.page c.args.kind old new layout.side layout.generation
          c.requires.layout.live c.requires.from c.requires.behind left) left
          (λ set. (c.mark.ensures.present set).1) c.from_residual.result failed unset
          c.in_err-mark.ensures.cut;
      steps = takes_err _ failed
          (stops_unless (is_marked old c.args.page c.args.kind) (marking c.args.page c.args.kind)
          unset c.in_err-mark.ensures.cut);
    }

pub returns : goal.returns
returns g c =
    let old = g.F.Flash.device c.args.flash.now in
    let new = g.F.Flash.device c.mark.new.flash in
    let layout = c.args.layout.now in
    let formed = g.met.F.Flash.formed c.args.flash.now in
    let h : c.args.page < page_count old.size =
    page_in_device old layout.side c.args.page c.requires.from c.requires.behind.in_range in
    let proper = proper_live c.args.kind c.requires.behind.active_or_valid in
    let left =
    marks c.args.page c.args.kind old new c.mark.result formed h proper c.mark.ensures.present
    c.mark.ensures.on c.mark.ensures.done c.mark.ensures.cut in
    let same =
    λ (set : is_marked old c.args.page c.args.kind ≡ true).
    (c.in_ok-mark.ensures.present set).1 in
    record {
      marks =
          mark_set c.args.page c.args.kind old new layout.side layout.generation formed h
          (live_mark_stays c.args.page c.args.kind old new layout.side layout.generation
          c.requires.layout.live c.requires.from c.requires.behind left) left same
          proper c.in_ok-mark.ensures.on c.in_ok-mark.ensures.done;
      steps = takes_ok
          (completes_unless (is_marked old c.args.page c.args.kind)
          (marking c.args.page c.args.kind) old same c.in_ok-mark.ensures.on
          c.in_ok-mark.ensures.done);
    }
