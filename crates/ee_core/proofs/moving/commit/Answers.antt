use Rattle.std.proofs.Common.{◌≡◌, ◌+◌, ◌∙◌, ap, inl, inr}
use Rattle.std.proofs.lemmas.Result.{err_from_is_err_and}
use Rattle.ee_pages.specs.Sets.{first_page, other as other_of}
use Rattle.ee_core.proofs.Marks.{program_keeps_wear}
use Rattle.ee_core.proofs.OtherSteps.{active_commits, active_done, active_unmarked}
use Rattle.ee_core.proofs.Cuts.{cut_size, mark_partly_at}
use Rattle.ee_core.proofs.CutMoves.{commit_partly}
use Rattle.ee_core.proofs.SetPages.{page_of_device}
use Rattle.ee_pages.specs.declared.state.Mark.TheVariants.{Active}
use Rattle.ee_pages.proofs.Public.{first_in_set}
use Rattle.ee_core.specs.Cuts.{SetsPartly}
use Rattle.ee_core.proofs.Drawings.{sets_mark_at}
use Rattle.std.proofs.Common.{[], ◌∷◌, subst}
use Rattle.ee_pages.specs.Page.{marking}
use Rattle.ee_flash.specs.Taking.{Completes, StopsAmong}
use Rattle.ee_core.proofs.Taken.{completes_one, stops_one, takes_err, takes_ok}
use Rattle.ee_core.proofs.moving.commit.Goals as goal

pub returns-in_err-mark : goal.returns-in_err-mark
returns-in_err-mark g c =
    let old = g.F.Flash.device c.args.flash.now in
    let new = g.F.Flash.device c.mark.new.flash in
    let side = other_of c.args.layout.now.side in
    let formed = g.met.F.Flash.formed c.args.flash.now in
    let page : c.first_page-first.result ≡ first_page old.size side =
    c.first_page-first.ensures ∙ ap (first_page old.size) c.other.ensures in
    let cut = c.in_err-mark.ensures.cut in
    let commits =
    active_commits old _ c.args.layout.now.side c.args.layout.now.generation _ c.requires.older
    c.requires.generation c.requires.filling.1 _ page (inr cut) in
    let sets : SetsPartly (first_page old.size side) Active old new =
    mark_partly_at _ (first_page old.size side) Active old new formed
    (page_of_device old.size side (first_page old.size side) (first_in_set side old formed))
    page (λ set. (c.mark.ensures.present set).1) cut in
    record {
      commits =
          rw (err_from_is_err_and c.from_residual.result c.from_residual.ensures.1).1 (record {
            cut = commits.1;
            same_set = commits.0;
            begun =
                λ words holds. commit_partly side old new (c.args.layout.now.generation + 1) words
                formed (cut_size _ _ _ cut) sets holds;
            same_size = cut_size _ _ _ cut;
            wear = program_keeps_wear _ _ _ old new (inr cut);
          });
      steps = takes_err _ c.from_residual.ensures.0
          (subst (λ n. StopsAmong (marking n Active ∷ []) old new) page (stops_one _ cut));
    }

pub returns : goal.returns
returns g c =
    let old = g.F.Flash.device c.args.flash.now in
    let layout = c.args.layout.now in
    let page : c.first_page-first.result ≡ first_page old.size (other_of layout.side) =
    c.first_page-first.ensures ∙ ap (first_page old.size) c.other.ensures in
    let unmarked =
    active_unmarked old old layout.side layout.generation _ c.requires.older
    c.requires.generation c.requires.filling.1 _ page in
    let on = c.in_ok-mark.ensures.on unmarked in
    let done = c.in_ok-mark.ensures.done unmarked in
    let formed = g.met.F.Flash.formed c.args.flash.now in
    record {
      commits = record {
        committed =
            active_done old _ layout.side layout.generation _ c.requires.older c.requires.generation
            c.requires.filling.1 _ page on done;
        same_set = (active_commits old _ layout.side layout.generation _ c.requires.older
            c.requires.generation c.requires.filling.1 _ page
            (inl (record { was_on = on; done = done }))).0;
        sets = sets_mark_at _ (first_page old.size (other_of layout.side)) Active old _ formed
            (page_of_device old.size (other_of layout.side)
            (first_page old.size (other_of layout.side))
            (first_in_set (other_of layout.side) old formed)) page
            (λ set. (c.mark.ensures.present set).1) c.in_ok-mark.ensures.done;
        wear = ap (λ device. device.wear) done;
      };
      steps = takes_ok
          (subst
          (λ n. Completes (marking n Active ∷ []) old (g.F.Flash.device c.mark.new.flash)) page
          (completes_one _ old on done));
    }
