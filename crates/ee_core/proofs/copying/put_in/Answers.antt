use Rattle.std.proofs.Common.{inl, inr, ap, ◌+◌, ◌∙◌, arith}
use Rattle.std.proofs.lemmas.Result.{err_from_is_err_and}
use Rattle.ee_flash.specs.Device.{word_at}
use Rattle.ee_pages.specs.Sets.{first_page, other as other_of, page_of_slot, place_of_slot}
use Rattle.ee_pages.proofs.Public.{page_in_range, place_in_range}
use Rattle.ee_core.specs.CallSteps.{map_change}
use Rattle.ee_core.proofs.Drawings.{put_there, same_size_of}
use Rattle.ee_core.proofs.FilledSets.{slot_holds}
use Rattle.ee_core.proofs.SetPages.{page_in_device}
use Rattle.ee_core.proofs.OtherSteps.{free_slot, put_cut, put_done}
use Rattle.ee_core.proofs.Cuts.{program_partly_at}
use Rattle.ee_core.proofs.Marks.{program_keeps_wear}
use Rattle.ee_core.proofs.Taken.{completes_one, stops_one, takes_err, takes_ok}
use Rattle.ee_core.proofs.copying.put_in.Goals as goal

pub program-requires-clause-page_in_range : goal.program-requires-clause-page_in_range
program-requires-clause-page_in_range g c =
    let old = g.F.Flash.device c.args.flash.now in
    let within =
    page_in_device old.size (other_of c.args.layout.now.side)
    (page_of_slot old.size c.args.place.slot)
    (page_in_range old c.args.place.slot c.requires.free) in
    omega (arith, within, c.requires.at.stands.page)

pub program-requires-clause-erased : goal.program-requires-clause-erased
program-requires-clause-erased g c =
    let old = g.F.Flash.device c.args.flash.now in
    let free =
    free_slot old (other_of c.args.layout.now.side) _ c.args.place.slot c.requires.at.filling
    c.requires.free in
    ap (λ n. word_at old n c.args.place.at) c.requires.at.stands.page
    ∙ ap (word_at old _) c.requires.at.stands.at ∙ free

pub returns-in_err-program : goal.returns-in_err-program
returns-in_err-program g c =
    let old = g.F.Flash.device c.args.flash.now in
    let new = g.F.Flash.device c.program.new.self in
    let layout = c.args.layout.now in
    let side = other_of layout.side in
    let slot = c.args.place.slot in
    let formed = c.requires.at.filling.formed in
    let cut = c.in_err-program.ensures.cut in
    record {
      programs =
          rw (err_from_is_err_and c.from_residual.result c.from_residual.ensures.1).1 (record {
            keeps =
                put_cut old new layout.side layout.generation slot _ c.requires.at.filling
                c.requires.free c.word.ensures.below_all_ones _ _ c.requires.at.stands.page
                c.requires.at.stands.at (inr cut);
            begun =
                program_partly_at _ _ _ old new
                (first_page old.size side + page_of_slot old.size slot)
                (place_of_slot old.size slot) _ formed
                (page_in_device old.size side (page_of_slot old.size slot)
                (page_in_range old slot c.requires.free)) (place_in_range old slot formed)
                c.requires.at.stands.page c.requires.at.stands.at c.word.ensures.number
                (free_slot old side _ slot c.requires.at.filling c.requires.free) cut;
            wear = program_keeps_wear _ _ _ old new (inr cut);
          });
      steps = takes_err _ c.from_residual.ensures.0
          (stops_one _
          (rw (c.requires.at.stands.page, c.requires.at.stands.at, c.word.ensures.number) at cut));
    }

pub returns : goal.returns
returns g c =
    let old = g.F.Flash.device c.args.flash.now in
    let new = g.F.Flash.device c.program.new.self in
    let layout = c.args.layout.now in
    let side = other_of layout.side in
    let slot = c.args.place.slot in
    let formed = c.requires.at.filling.formed in
    let in_range = page_in_range old slot c.requires.free in
    let on = c.in_ok-program.ensures.on in
    let done = c.in_ok-program.ensures.done in
    let sizes = same_size_of _ _ _ old new done in
    let all =
    put_done old new layout.side layout.generation slot _ c.requires.at.filling c.requires.free
    c.word.ensures.below_all_ones (map_change c.args.change) _ _
    c.requires.at.stands.page c.requires.at.stands.at c.word.ensures.spells on done in
    let puts =
    put_there _ _ _ old new (first_page old.size side + page_of_slot old.size slot)
    (place_of_slot old.size slot) _ formed
    (page_in_device old.size side (page_of_slot old.size slot) in_range)
    (place_in_range old slot formed) c.requires.at.stands.page c.requires.at.stands.at
    c.word.ensures.number done in
    record {
      programs = record {
        keeps =
            put_cut old new layout.side layout.generation slot _ c.requires.at.filling
            c.requires.free c.word.ensures.below_all_ones _ _ c.requires.at.stands.page
            c.requires.at.stands.at (inl (record { was_on = on; done = done }));
        filling = all.0;
        slot = (_, c.word.ensures.spells, all.1);
        map_is = all.2;
        puts = λ words long drawn. slot_holds side old new (layout.generation + 1)
            (page_of_slot old.size slot) slot words _ long sizes puts drawn;
        wear = ap (λ device. device.wear) done;
      };
      steps = takes_ok
          (completes_one _ old on
          (rw (c.requires.at.stands.page, c.requires.at.stands.at, c.word.ensures.number) at done));
    }
