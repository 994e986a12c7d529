use Rattle.std.proofs.Common.{◌≡◌, ◌+◌, ◌∙◌, ap, inl, inr}
use Rattle.std.proofs.lemmas.Result.{err_from_is_err_and}
use Rattle.ee_pages.specs.declared.state.Mark.TheVariants.{Receive}
use Rattle.ee_pages.specs.Sets.{first_page, other as other_of}
use Rattle.ee_pages.proofs.Public.{first_in_set}
use Rattle.ee_core.proofs.Drawings.{sets_mark_at}
use Rattle.ee_core.proofs.MovedSets.{blank_drawn, opens_blank}
use Rattle.ee_core.proofs.SetPages.{page_of_device}
use Rattle.ee_core.proofs.Marks.{program_keeps_wear}
use Rattle.ee_core.proofs.OtherSteps.{opening_done, opening_keeps, opening_unmarked}
use Rattle.ee_core.proofs.Cuts.{mark_partly_at}
use Rattle.ee_core.proofs.CutMoves.{open_partly}
use Rattle.ee_core.specs.Cuts.{SetsPartly}
use Rattle.std.proofs.Common.{[], ◌∷◌, subst}
use Rattle.ee_pages.specs.Page.{marking}
use Rattle.ee_flash.specs.Taking.{Completes, StopsAmong}
use Rattle.ee_core.proofs.Taken.{completes_one, stops_one, takes_err, takes_ok}
use Rattle.ee_core.proofs.moving.open_set.Goals as goal

pub returns-in_err-mark : goal.returns-in_err-mark
returns-in_err-mark g c =
    let old = g.F.Flash.device c.args.flash.now in
    let new = g.F.Flash.device c.mark.new.flash in
    let layout = c.args.layout.now in
    let side = other_of layout.side in
    let formed = g.met.F.Flash.formed c.args.flash.now in
    let page : c.first_page-first.result ≡ first_page old.size side =
    c.first_page-first.ensures ∙ ap (first_page old.size) c.other.ensures in
    let cut = c.in_err-mark.ensures.cut in
    let keeps =
    opening_keeps old new layout.side layout.generation formed c.requires.generation
    c.requires.blank _ page (inr cut) in
    let sets : SetsPartly (first_page old.size side) (Receive (layout.generation + 1)) old new =
    mark_partly_at _ (first_page old.size side) (Receive (layout.generation + 1)) old new formed
    (page_of_device old.size side (first_page old.size side) (first_in_set side old formed)) page
    (λ set. (c.mark.ensures.present set).1) cut in
    record {
      opens = rw (err_from_is_err_and c.from_residual.result c.from_residual.ensures.1).1 (record {
        keeps = keeps;
        begun =
            λ words. open_partly side old new (layout.generation + 1) words formed keeps.same_size
            (blank_drawn side old formed c.requires.blank) sets;
        wear = program_keeps_wear _ _ _ old new (inr cut);
      });
      steps = takes_err _ c.from_residual.ensures.0
          (subst (λ n. StopsAmong (marking n (Receive (layout.generation + 1)) ∷ []) old new) page
          (stops_one _ cut));
    }

pub returns : goal.returns
returns g c =
    let old = g.F.Flash.device c.args.flash.now in
    let new = g.F.Flash.device c.mark.new.flash in
    let layout = c.args.layout.now in
    let side = other_of layout.side in
    let formed = g.met.F.Flash.formed c.args.flash.now in
    let page : c.first_page-first.result ≡ first_page old.size side =
    c.first_page-first.ensures ∙ ap (first_page old.size) c.other.ensures in
    let unmarked =
    opening_unmarked old old layout.side layout.generation formed c.requires.generation
    c.requires.blank _ page in
    let on = c.in_ok-mark.ensures.on unmarked in
    let done = c.in_ok-mark.ensures.done unmarked in
    let keeps =
    opening_keeps old new layout.side layout.generation formed c.requires.generation
    c.requires.blank _ page (inl (record { was_on = on; done = done })) in
    let opened =
    opening_done old new layout.side layout.generation formed c.requires.generation
    c.requires.blank _ page on done in
    let sets =
    sets_mark_at _ (first_page old.size side) (Receive (layout.generation + 1)) old new formed
    (page_of_device old.size side (first_page old.size side) (first_in_set side old formed)) page
    (λ set. (c.in_ok-mark.ensures.present set).1) c.in_ok-mark.ensures.done in
    record {
      opens = record {
        keeps = keeps;
        opened =
            record { generation = c.requires.generation; filling = opened.0; nothing = opened.1 };
        holds =
            opens_blank side old new (layout.generation + 1) formed keeps.same_size c.requires.blank
            sets;
        wear = ap (λ device. device.wear) done;
      };
      steps = takes_ok
          (subst (λ n. Completes (marking n (Receive (layout.generation + 1)) ∷ []) old new) page
          (completes_one _ old on done));
    }
