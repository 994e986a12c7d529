use Rattle.ee_core.proofs.Words.{ap, refl, sym, ◌∙◌}
use Rattle.ee_core.proofs.Sets.{other}
use Rattle.ee_core.proofs.Calls.{IsOldMarked, last_used}
use Rattle.ee_core.proofs.AfterCalls.{never_on_ok}
use Rattle.ee_core.proofs.LiveMarks.{layout_stays, live_marks_kept, stays_both}
use Rattle.ee_core.proofs.MarkedSets.{shows}
use Rattle.ee_core.proofs.CutMarks.{cut_live, cut_old}
use Rattle.ee_core.proofs.Making.{always_on_err}
use Rattle.std.specs.Prelude.{List}
use Rattle.std.proofs.Common.{subst}
use Rattle.ee_flash.specs.Step.{Step}
use Rattle.ee_core.specs.StepLists.{steps_to_mark_live, steps_to_retire}
use Rattle.ee_flash.specs.Laws.{all_completed}
use Rattle.ee_flash.specs.Taking.{Completes, StopsAmong}
use Rattle.ee_core.proofs.LiveSteps.{no_marks, none_to_finish}
use Rattle.ee_core.proofs.ClosedSets.{retire_kept}
use Rattle.ee_core.proofs.Taken.{completes_both, ends_taken, stops_first, stops_then, takes_err, takes_ok}
use Rattle.ee_core.proofs.marking.finish.Goals as goal

pub mark_old_set-requires : goal.mark_old_set-requires
mark_old_set-requires g c = search layout_stays

pub returns-in_err-mark_live_set : goal.returns-in_err-mark_live_set
returns-in_err-mark_live_set g c =
    let old = g.F.Flash.device c.args.flash.now in
    let new = g.F.Flash.device c.mark_live_set.new.flash in
    let failed = c.from_residual.ensures.0 in
    let side = c.args.layout.now.side in
    let steps =
    takes_err c.from_residual.result failed
    (stops_first (steps_to_mark_live old side (last_used old side))
    (steps_to_retire old (other side)) c.in_err-mark_live_set.ensures.steps.cut) in
    record {
      stays = c.mark_live_set.ensures.stays;
      finished = never_on_ok _ _ failed;
      shows = never_on_ok _ _ failed;
      begun = always_on_err _
          (cut_live c.args.layout.now.side old new c.mark_live_set.ensures.stays.keeps.same_size
          c.in_err-mark_live_set.ensures.begun c.in_err-mark_live_set.ensures.old_pages_stay);
      steps = steps;
      no_step = λ marked. absurd (c.in_err-mark_live_set.ensures.fails marked.live);
      power = ends_taken _ _ steps;
    }

pub returns-in_err-mark_old_set : goal.returns-in_err-mark_old_set
returns-in_err-mark_old_set g c =
    let old = g.F.Flash.device c.args.flash.now in
    let mid = g.F.Flash.device c.mark_live_set.new.flash in
    let new = g.F.Flash.device c.mark_old_set.new.flash in
    let side = c.args.layout.now.side in
    let failed = c.from_residual-in_err-mark_old_set.ensures.0 in
    let steps =
    takes_err c.from_residual-in_err-mark_old_set.result failed
    (stops_then (steps_to_mark_live old side (last_used old side))
    (steps_to_retire old (other side)) c.in_ok-mark_live_set.ensures.steps.done
    (subst (λ (list : List Step). StopsAmong list mid new)
    (retire_kept (other side) old mid c.requires.live.formed
    c.mark_live_set.ensures.stays.keeps.live.formed
    c.mark_live_set.ensures.stays.keeps.same_size c.in_ok-mark_live_set.ensures.old_pages)
    c.in_err-mark_old_set.ensures.steps.cut)) in
    record {
      stays = stays_both _ _ _ _ _ c.mark_live_set.ensures.stays c.mark_old_set.ensures.stays;
      finished = never_on_ok _ _ failed;
      shows = never_on_ok _ _ failed;
      begun = always_on_err _
          (cut_old side old mid new c.mark_live_set.ensures.stays.keeps.same_size
          c.mark_old_set.ensures.stays.keeps.same_size
          c.in_ok-mark_live_set.ensures.live_pages c.in_ok-mark_live_set.ensures.old_pages
          c.in_err-mark_old_set.ensures.live_pages_stay c.in_err-mark_old_set.ensures.begun);
      steps = steps;
      no_step = λ marked.
          let same =
          c.in_ok-mark_live_set.ensures.steps.done.done
          ∙ ap (λ list. all_completed list old) (no_marks old side marked.live) in
          absurd
          (c.in_err-mark_old_set.ensures.fails
          (subst (λ device. IsOldMarked device (other side)) (sym same) marked.old));
      power = ends_taken _ _ steps;
    }

pub returns : goal.returns
returns g c =
    let old = g.F.Flash.device c.args.flash.now in
    let mid = g.F.Flash.device c.mark_live_set.new.flash in
    let new = g.F.Flash.device c.mark_old_set.new.flash in
    let layout = c.args.layout.now in
    let first = c.in_ok-mark_live_set.ensures in
    let then = c.in_ok-mark_old_set.ensures in
    let taken =
    completes_both (steps_to_mark_live old layout.side (last_used old layout.side))
    (steps_to_retire old (other layout.side)) first.steps.done
    (subst (λ (list : List Step). Completes list mid new)
    (retire_kept (other layout.side) old mid c.requires.live.formed
    first.stays.keeps.live.formed first.stays.keeps.same_size first.old_pages)
    then.steps.done) in
    let both =
    shows layout.side old mid new (last_used old layout.side) first.stays.keeps.same_size
    then.stays.keeps.same_size first.live_pages first.old_pages then.live_pages
    then.old_pages in
    record {
      stays = stays_both _ _ _ _ _ first.stays then.stays;
      finished = record {
        live =
            live_marks_kept layout.side mid new layout.generation then.stays then.marks
            first.marked;
        old = then.marked;
      };
      shows = record { live_pages = both.0; old_pages = both.1 };
      begun = tt;
      steps = takes_ok taken;
      no_step = λ marked. (
        refl,
        taken.done
            ∙ ap (λ list. all_completed list old)
            (none_to_finish old layout.side c.requires.live.formed marked),
      );
      power = ends_taken _ _ (takes_ok taken);
    }
