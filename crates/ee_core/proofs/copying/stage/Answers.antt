use Rattle.std.proofs.Common.{◌+◌, ◌<◌, ◌∙◌, List, refl, ap, sym, subst, arith}
use Rattle.std.proofs.lemmas.Result.{err_from_is_err_and}
use Rattle.std.specs.Prelude.{slice_set}
use Rattle.ee_flash.specs.Size.{slot_count}
use Rattle.ee_flash.specs.declared.word.Word.TheVariants.{Held}
use Rattle.ee_pages.specs.Meaning.{map_after, meaning}
use Rattle.ee_flash.specs.declared.word.Word.{Word}
use Rattle.ee_core.specs.CallSteps.{map_change, number_written}
use Rattle.ee_core.proofs.FilledSets.{open_already, stages}
use Rattle.ee_core.specs.Transfers.{OpensForSlot}
use Rattle.ee_core.proofs.copying.stage.Goals.{then-place-eq-HEADER_WORDS+in_ok-receive, else-place-eq-HEADER_WORDS}
use Rattle.ee_core.proofs.CutMoves.{receive_partly, stage_partly}
use Rattle.ee_pages.proofs.Public.{keeps_side_both, page_in_range, place_in_range}
use Rattle.ee_core.proofs.AfterCalls.{never_on_ok}
use Rattle.ee_pages.specs.Sets.{other as other_of}
use Rattle.ee_core.proofs.FilledSteps.{Receives, receive_stops, received_done, received_none, word_done, word_stops}
use Rattle.ee_core.proofs.copying.stage.Goals as goal

pub put_in-requires : goal.put_in-requires
put_in-requires g c = elim c.if-place-eq-HEADER_WORDS.branch [
  | then-place-eq-HEADER_WORDS+in_ok-receive w ↦
      let receives = w.in_ok-receive.ensures.receives in
      rw w.flash-is (record {
        at = record {
          generation = c.requires.at.generation;
          filling = receives.filling;
          stands = rw receives.keeps.same_size c.requires.at.stands;
        };
        free = rw receives.keeps.same_size c.requires.free;
      })
  | else-place-eq-HEADER_WORDS w ↦ rw w.flash-is
      (record { at = c.requires.at; free = c.requires.free })
]

pub returns : goal.returns
returns g c =
    let old = g.F.Flash.device c.args.flash.now in
    let mid = g.F.Flash.device c.if-place-eq-HEADER_WORDS.flash in
    let new = g.F.Flash.device c.put_in.new.flash in
    let layout = c.args.layout.now in
    let slot = c.args.place.slot in
    let first : OpensForSlot old mid layout slot =
    elim c.if-place-eq-HEADER_WORDS.branch [
      | then-place-eq-HEADER_WORDS+in_ok-receive w ↦ rw w.flash-is
          w.in_ok-receive.ensures.receives
      | else-place-eq-HEADER_WORDS w ↦ rw w.flash-is
          (open_already old layout slot c.requires.at.filling
          (λ e.
          w.if-place-eq-HEADER_WORDS.false (omega (arith, c.requires.at.stands.at, e))))
    ] in
    let puts = c.in_ok-put_in.ensures.programs in
    let received : Receives old mid (other_of layout.side) (layout.generation + 1) slot =
    elim c.if-place-eq-HEADER_WORDS.branch [
      | then-place-eq-HEADER_WORDS+in_ok-receive w ↦ rw w.flash-is
          (received_done old (other_of layout.side) (layout.generation + 1) slot
          c.requires.at.filling.formed c.requires.free _ c.args.place.page
          c.requires.at.stands.page w.in_ok-receive.ensures.steps.done)
      | else-place-eq-HEADER_WORDS w ↦ rw w.flash-is
          (received_none old (other_of layout.side) (layout.generation + 1) slot
          c.requires.at.filling.formed c.requires.free
          (λ e.
          w.if-place-eq-HEADER_WORDS.false (omega (arith, c.requires.at.stands.at, e))))
    ] in
    record {
      fills = record {
        keeps = keeps_side_both old mid new layout.side first.keeps puts.keeps;
        filling = puts.filling;
        map_is =
            λ address. puts.map_is address
            ∙ ap
            (λ (slots : List Word).
            map_after (map_change c.args.change) (meaning slots) address)
            first.same_slots;
        adds = stages old mid new layout slot c.args.change first puts;
        as_many = refl;
        wear = puts.wear ∙ first.wear;
        steps = record {
          taken =
              word_done old mid new (other_of layout.side) (layout.generation + 1) slot
              (number_written c.args.change) first.keeps.same_size received
              c.in_ok-put_in.ensures.steps.done;
        };
      };
      slot = (
        puts.slot.0,
        puts.slot.1,
        puts.slot.2
            ∙ ap (λ (slots : List Word). slice_set slots slot (Held puts.slot.0))
            first.same_slots,
      );
    }

pub returns-in_err-receive : goal.returns-in_err-receive
returns-in_err-receive g c =
    let old = g.F.Flash.device c.args.flash.now in
    let new = g.F.Flash.device c.receive.new.flash in
    let slot = c.args.place.slot in
    let failed = c.from_residual.ensures.0 in
    let cut = c.in_err-receive.ensures.receives in
    record {
      fills = rw (err_from_is_err_and c.from_residual.result c.from_residual.ensures.1).1 (record {
        keeps = cut.keeps;
        begun =
            receive_partly old new c.args.layout.now.side (c.args.layout.now.generation + 1) slot
            (Held (number_written c.args.change)) c.requires.at.filling.formed
            cut.keeps.same_size
            (page_in_range old slot c.requires.free) cut.begun;
        wear = cut.wear;
        steps = record {
          stopped =
              receive_stops old (other_of c.args.layout.now.side)
              (c.args.layout.now.generation + 1) slot c.requires.at.filling.formed
              c.requires.free new c.args.place.page (number_written c.args.change)
              c.requires.at.stands.page c.in_err-receive.ensures.steps.cut;
        };
      });
      slot = never_on_ok _ _ failed;
    }

pub returns-in_err-put_in : goal.returns-in_err-put_in
returns-in_err-put_in g c =
    let old = g.F.Flash.device c.args.flash.now in
    let mid = g.F.Flash.device c.if-place-eq-HEADER_WORDS.flash in
    let new = g.F.Flash.device c.put_in.new.flash in
    let layout = c.args.layout.now in
    let slot = c.args.place.slot in
    let first : OpensForSlot old mid layout slot =
    elim c.if-place-eq-HEADER_WORDS.branch [
      | then-place-eq-HEADER_WORDS+in_ok-receive w ↦ rw w.flash-is
          w.in_ok-receive.ensures.receives
      | else-place-eq-HEADER_WORDS w ↦ rw w.flash-is
          (open_already old layout slot c.requires.at.filling
          (λ e.
          w.if-place-eq-HEADER_WORDS.false (omega (arith, c.requires.at.stands.at, e))))
    ] in
    let formed = g.met.F.Flash.formed c.if-place-eq-HEADER_WORDS.flash in
    let free =
    subst (λ size. slot < slot_count size) (sym first.keeps.same_size) c.requires.free in
    let left = c.from_residual-in_err-put_in in
    let failed = left.ensures.0 in
    let cut = c.in_err-put_in.ensures.programs in
    let received : Receives old mid (other_of layout.side) (layout.generation + 1) slot =
    elim c.if-place-eq-HEADER_WORDS.branch [
      | then-place-eq-HEADER_WORDS+in_ok-receive w ↦ rw w.flash-is
          (received_done old (other_of layout.side) (layout.generation + 1) slot
          c.requires.at.filling.formed c.requires.free _ c.args.place.page
          c.requires.at.stands.page w.in_ok-receive.ensures.steps.done)
      | else-place-eq-HEADER_WORDS w ↦ rw w.flash-is
          (received_none old (other_of layout.side) (layout.generation + 1) slot
          c.requires.at.filling.formed c.requires.free
          (λ e.
          w.if-place-eq-HEADER_WORDS.false (omega (arith, c.requires.at.stands.at, e))))
    ] in
    record {
      fills = rw (err_from_is_err_and left.result left.ensures.1).1 (record {
        keeps = keeps_side_both old mid new layout.side first.keeps cut.keeps;
        begun =
            stage_partly old mid new layout slot (Held (number_written c.args.change)) first
            formed cut.keeps.same_size (page_in_range mid slot free)
            (place_in_range mid slot formed) cut.begun;
        wear = cut.wear ∙ first.wear;
        steps = record {
          stopped =
              word_stops old mid new (other_of layout.side) (layout.generation + 1) slot
              (number_written c.args.change) first.keeps.same_size received
              c.in_err-put_in.ensures.steps.cut;
        };
      });
      slot = never_on_ok _ _ failed;
    }
