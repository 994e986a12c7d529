use Rattle.ee_core.proofs.Words.{◌<◌, subst, ◌∙◌, err_from_is_err_and, rules}
use Rattle.ee_core.proofs.Sets.{kept_side_is_live, pending_of, set_of, Side}
use Rattle.ee_core.proofs.AfterCalls.{goes_on_same, never_on_ok, not_both_ok}
use Rattle.ee_core.proofs.LowestPending.{erases_lowest, keeps_all_but_lowest}
use Rattle.ee_core.proofs.KeptMarks.{cleaned_marked}
use Rattle.ee_core.proofs.MovingFacts.{keeps_same}
use Rattle.ee_core.proofs.ClearedPages.{clean_is, clean_none}
use Rattle.ee_core.proofs.PublicSteps.{clean_of}
use Rattle.ee_core.proofs.Taken.{ends_taken, takes_err, takes_ok}
use Rattle.ee_flash.specs.Taking.{Completes, StopsAmong}
use Rattle.ee_core.proofs.cleaning.clean.Goals as goal

pub returns-in_default-clause-keeps : goal.returns-in_default-clause-keeps
returns-in_default-clause-keeps g c = search (rules, keeps_same)

pub returns-in_default-clause-cleans : goal.returns-in_default-clause-cleans
returns-in_default-clause-cleans g c = search rules

pub returns-in_default-clause-marked : goal.returns-in_default-clause-marked
returns-in_default-clause-marked g c = search rules

pub returns-in_default-clause-power : goal.returns-in_default-clause-power
returns-in_default-clause-power g c = search (rules, keeps_same, not_both_ok, goes_on_same)

pub returns-in_default-clause-steps : goal.returns-in_default-clause-steps
returns-in_default-clause-steps g c =
    let old = g.F.Flash.device c.args.flash.now in
    takes_ok
    (subst (λ list. Completes list old old) (clean_of old c.args.layout.now c.requires.layout)
    (clean_none old c.args.layout.now.side c.other.result c.other.ensures
    c.in_default.ensures.none))

pub erase_other-requires-clause-page : goal.erase_other-requires-clause-page
erase_other-requires-clause-page g c = search rules

pub returns : goal.returns
returns g c =
    let old = g.F.Flash.device c.args.flash.now in
    let new = g.F.Flash.device c.erase_other.new.flash in
    let layout = c.args.layout.now in
    let found = c.in-Some.ensures in
    let left = c.in_ok-erase_other.ensures.erases in
    let live = c.requires.layout.live in
    let taken =
    subst (λ list. Completes list old new)
    (clean_is old layout.side c.other.result c.in-Some.page live.formed c.other.ensures
    found.page found.not_blank found.lowest ∙ clean_of old layout c.requires.layout)
    c.in_ok-erase_other.ensures.steps.done in
    record {
      keeps = kept_side_is_live old new layout.side layout.generation live left.keeps;
      cleans = record {
        one_less = left.one_less;
        lowest =
            erases_lowest old new layout.side c.other.result layout.generation c.in-Some.page
            live.live c.other.ensures found.page found.not_blank found.lowest left.others
            left.wear left.blank live
            (kept_side_is_live old new layout.side layout.generation live left.keeps);
      };
      marked =
          cleaned_marked layout.side c.in-Some.page old new live.formed left.keeps.same_size
          left.keeps.same_set left.others left.blank;
      steps = takes_ok taken;
      power = ends_taken _ _ (takes_ok taken);
    }

pub returns-in_err-erase_other : goal.returns-in_err-erase_other
returns-in_err-erase_other g c =
    let old = g.F.Flash.device c.args.flash.now in
    let new = g.F.Flash.device c.erase_other.new.flash in
    let layout = c.args.layout.now in
    let found = c.in-Some.ensures in
    let cut = c.in_err-erase_other.ensures.erases in
    let failed = c.from_residual.ensures.0 in
    let is_err = err_from_is_err_and c.from_residual.result c.from_residual.ensures.1 in
    let steps =
    takes_err c.from_residual.result failed
    (subst (λ list. StopsAmong list old new)
    (clean_is old layout.side c.other.result c.in-Some.page c.requires.layout.live.formed
    c.other.ensures found.page found.not_blank found.lowest ∙ clean_of old layout c.requires.layout)
    c.in_err-erase_other.ensures.steps.cut) in
    record {
      keeps =
          kept_side_is_live old new layout.side layout.generation c.requires.layout.live cut.keeps;
      cleans = rw is_err.1 (record {
        some =
            subst (λ (set : Side). 0 < pending_of (set_of set old)) c.other.ensures found.some;
        left = cut.cut;
        lowest =
            λ on. keeps_all_but_lowest old new layout.side c.other.result layout.generation
            c.in-Some.page c.requires.layout.live.live c.other.ensures found.page
            found.not_blank found.lowest cut.others (cut.wear on) cut.partly;
      });
      marked = λ marked. never_on_ok _ _ failed;
      steps = steps;
      power = ends_taken _ _ steps;
    }
