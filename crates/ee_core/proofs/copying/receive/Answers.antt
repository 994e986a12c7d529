use Rattle.std.proofs.Common.{◌≡◌, ◌+◌, inr, refl, true, arith}
use Rattle.std.proofs.lemmas.Result.{err_from_is_err_and}
use Rattle.ee_pages.proofs.Public.{page_in_range}
use Rattle.ee_pages.specs.Page.{is_marked}
use Rattle.ee_pages.specs.Sets.{first_page, other as other_of, page_of_slot}
use Rattle.ee_pages.specs.declared.state.Mark.TheVariants.{Receive}
use Rattle.ee_core.proofs.Drawings.{sets_mark_at}
use Rattle.ee_core.proofs.FilledSets.{receive_opens}
use Rattle.ee_core.proofs.SetPages.{page_in_device}
use Rattle.ee_core.proofs.OtherSteps.{receive_cut, receive_done}
use Rattle.ee_core.proofs.Cuts.{mark_partly_at}
use Rattle.ee_core.proofs.AfterCalls.{mark_keeps_wear}
use Rattle.ee_core.proofs.Marks.{one_receive, program_keeps_wear}
use Rattle.ee_pages.specs.Page.{marking}
use Rattle.ee_core.proofs.AfterCalls.{not_ok}
use Rattle.ee_core.proofs.Taken.{completes_unless, stops_unless, takes_err, takes_ok}
use Rattle.ee_core.proofs.copying.receive.Goals as goal

pub mark-requires-clause-page_in_range : goal.mark-requires-clause-page_in_range
mark-requires-clause-page_in_range g c =
    let old = g.F.Flash.device c.args.flash.now in
    let within =
    page_in_device old.size (other_of c.args.layout.now.side)
    (page_of_slot old.size c.args.place.slot)
    (page_in_range old c.args.place.slot c.requires.free) in
    omega (arith, within, c.requires.at.stands.page)

pub mark-requires-clause-generation : goal.mark-requires-clause-generation
mark-requires-clause-generation g c =
    one_receive (c.args.layout.now.generation + 1) c.requires.at.generation

pub returns-in_err-mark : goal.returns-in_err-mark
returns-in_err-mark g c =
    let old = g.F.Flash.device c.args.flash.now in
    let new = g.F.Flash.device c.mark.new.flash in
    let layout = c.args.layout.now in
    let side = other_of layout.side in
    let page = page_of_slot old.size c.args.place.slot in
    let cut = c.in_err-mark.ensures.cut in
    record {
      receives =
          rw (err_from_is_err_and c.from_residual.result c.from_residual.ensures.1).1 (record {
            keeps =
                receive_cut old new layout.side layout.generation c.args.place.slot
                c.requires.at.filling c.requires.free c.requires.at.generation _ _ _ refl _
                c.requires.at.stands.page c.in_err-mark.ensures.present cut;
            begun =
                mark_partly_at _ (first_page old.size side + page) (Receive (layout.generation + 1))
                old
                new c.requires.at.filling.formed
                (page_in_device old.size side page
                (page_in_range old c.args.place.slot c.requires.free)) c.requires.at.stands.page
                (λ set. (c.mark.ensures.present set).1) cut;
            wear = program_keeps_wear _ _ _ old new (inr cut);
          });
      steps = takes_err _ c.from_residual.ensures.0
          (stops_unless (is_marked old c.args.place.page (Receive (layout.generation + 1)))
          (marking c.args.place.page (Receive (layout.generation + 1)))
          (λ set. not_ok (c.mark.ensures.present set).0 c.in_err-mark.was) cut);
    }

pub returns : goal.returns
returns g c =
    let old = g.F.Flash.device c.args.flash.now in
    let new = g.F.Flash.device c.mark.new.flash in
    let layout = c.args.layout.now in
    let side = other_of layout.side in
    let page = page_of_slot old.size c.args.place.slot in
    let formed = c.requires.at.filling.formed in
    let in_range = page_in_range old c.args.place.slot c.requires.free in
    let same =
    λ (set : is_marked old c.args.place.page (Receive (layout.generation + 1)) ≡ true).
    (c.in_ok-mark.ensures.present set).1 in
    let received =
    receive_done old new layout.side layout.generation c.args.place.slot c.requires.at.filling
    c.requires.free c.requires.at.generation _ c.requires.at.stands.page same
    c.in_ok-mark.ensures.on c.in_ok-mark.ensures.done in
    let sets =
    sets_mark_at _ (first_page old.size side + page) (Receive (layout.generation + 1)) old new
    formed (page_in_device old.size side page in_range) c.requires.at.stands.page same
    c.in_ok-mark.ensures.done in
    record {
      receives = record {
        keeps = received.0;
        filling = received.1;
        same_slots = received.2;
        opens =
            λ words long drawn. receive_opens side old new (layout.generation + 1) c.args.place.slot
            words formed received.0.same_size in_range sets drawn;
        wear = mark_keeps_wear c.args.place.page (Receive (layout.generation + 1)) old same
            c.in_ok-mark.ensures.done;
      };
      steps = takes_ok
          (completes_unless (is_marked old c.args.place.page (Receive (layout.generation + 1)))
          (marking c.args.place.page (Receive (layout.generation + 1))) old same
          c.in_ok-mark.ensures.on c.in_ok-mark.ensures.done);
    }
