use Rattle.std.proofs.Common.{◌+◌, ◌≤◌, length, arith, ◌∙◌, subst}
use Rattle.std.proofs.lemmas.Result.{IfOk-from_err, err_from_is_err_and}
use Rattle.ee_flash.specs.Size.{slot_count}
use Rattle.ee_pages.specs.Meaning.{Map}
use Rattle.ee_pages.specs.Sets.{other as other_of}
use Rattle.ee_core.specs.CallSteps.{map_in}
use Rattle.ee_core.specs.Picture.{elements_of}
use Rattle.ee_core.specs.Puts.{changes_of_puts}
use Rattle.ee_core.proofs.Fillings.{carried_first, carried_names, carried_partly, carried_without, first_partly, only_these, others_carried, others_carried_partly, others_filled, others_fit, others_partly, puts_fit}
use Rattle.ee_core.proofs.ShownStates.{moved_words_are_live_lem}
use Rattle.ee_core.proofs.copying.fill_set.Goals as goal

pub put_all-requires-clause-fits : goal.put_all-requires-clause-fits
put_all-requires-clause-fits g c =
    let old = g.F.Flash.device c.args.flash.now in
    puts_fit c.args.puts.now c.args.forgets c.values_put.result.now
    (map_in c.args.layout.now.side old) (slot_count old.size) c.values_put.ensures
    c.requires.apart c.requires.fits

pub copy_others-requires-clause-at : goal.copy_others-requires-clause-at
copy_others-requires-clause-at g c =
    let fills = c.in_ok-first.ensures.fills in
    record {
      generation = c.requires.opened.generation;
      filling = fills.filling;
      behind = c.in_ok-first.ensures.behind;
    }

pub copy_others-requires-clause-first : goal.copy_others-requires-clause-first
copy_others-requires-clause-first g c = c.requires.first

pub copy_others-requires-clause-over : goal.copy_others-requires-clause-over
copy_others-requires-clause-over g c =
    rw c.in_ok-first.ensures.fills.keeps.same_slots c.requires.over

pub copy_others-requires-clause-only : goal.copy_others-requires-clause-only
copy_others-requires-clause-only g c =
    let old = g.F.Flash.device c.args.flash.now in
    let mid = g.F.Flash.device c.put_all.new.flash in
    let layout = c.args.layout.now in
    let slot = c.in_ok-first.first.slot in
    let first =
    carried_first old mid layout c.args.puts.now c.args.forgets c.values_put.result.now slot
    c.values_put.ensures c.in_ok-first.ensures.fills in
    λ address away. only_these (changes_of_puts c.args.puts.now c.args.forgets) old mid mid layout
    slot first address (carried_names c.args.puts.now c.args.forgets address ∙ away)

pub copy_others-requires-clause-fits : goal.copy_others-requires-clause-fits
copy_others-requires-clause-fits g c =
    let old = g.F.Flash.device c.args.flash.now in
    let mid = g.F.Flash.device c.put_all.new.flash in
    let layout = c.args.layout.now in
    let slot = c.in_ok-first.first.slot in
    let first =
    carried_first old mid layout c.args.puts.now c.args.forgets c.values_put.result.now slot
    c.values_put.ensures c.in_ok-first.ensures.fills in
    subst (λ (left : Map). slot + length (elements_of left) ≤ slot_count mid.size)
    (carried_without c.args.puts.now c.args.forgets (map_in layout.side mid))
    (others_fit (changes_of_puts c.args.puts.now c.args.forgets) old mid mid layout slot first
    c.requires.apart c.requires.fits)

pub returns : goal.returns
returns g c =
    let old = g.F.Flash.device c.args.flash.now in
    let mid = g.F.Flash.device c.put_all.new.flash in
    let new = g.F.Flash.device c.copy_others.new.flash in
    let layout = c.args.layout.now in
    let changes = changes_of_puts c.args.puts.now c.args.forgets in
    let slot = c.in_ok-first.first.slot in
    let first =
    carried_first old mid layout c.args.puts.now c.args.forgets c.values_put.result.now slot
    c.values_put.ensures c.in_ok-first.ensures.fills in
    let filled = others_filled changes old mid new layout slot first c.in_ok-all.all.slot
    (others_carried mid new layout c.args.puts.now c.args.forgets slot c.in_ok-all.all.slot
    (map_in (other_of layout.side) mid) (map_in layout.side mid) c.in_ok-all.ensures.fills) in
    record {
      fills = filled;
      each_once =
          omega (
            arith,
            moved_words_are_live_lem changes (map_in layout.side old) c.requires.apart,
            filled.as_many,
          );
      behind = c.in_ok-all.ensures.behind;
    }

pub returns-in_err-first : goal.returns-in_err-first
returns-in_err-first g c =
    let old = g.F.Flash.device c.args.flash.now in
    let new = g.F.Flash.device c.put_all.new.flash in
    let is = err_from_is_err_and c.from_residual.result c.from_residual.ensures.1 in
    record {
      fills =
          rw is.1 (first_partly (changes_of_puts c.args.puts.now c.args.forgets) old new
          c.args.layout.now (map_in c.args.layout.now.side old)
          (carried_partly old new c.args.layout.now c.args.puts.now c.args.forgets
          c.values_put.result.now c.values_put.ensures c.in_err-first.ensures.fills));
      each_once = IfOk-from_err _ _ c.from_residual.ensures.0;
      behind = IfOk-from_err _ _ c.from_residual.ensures.0;
    }

pub returns-in_err-all : goal.returns-in_err-all
returns-in_err-all g c =
    let old = g.F.Flash.device c.args.flash.now in
    let mid = g.F.Flash.device c.put_all.new.flash in
    let new = g.F.Flash.device c.copy_others.new.flash in
    let layout = c.args.layout.now in
    let slot = c.in_ok-first.first.slot in
    let first =
    carried_first old mid layout c.args.puts.now c.args.forgets c.values_put.result.now slot
    c.values_put.ensures c.in_ok-first.ensures.fills in
    let is =
    err_from_is_err_and c.from_residual-in_err-all.result
    c.from_residual-in_err-all.ensures.1 in
    record {
      fills =
          rw is.1 (others_partly (changes_of_puts c.args.puts.now c.args.forgets) old mid new layout
          slot first
          (others_carried_partly mid new layout c.args.puts.now c.args.forgets slot
          (map_in layout.side mid) c.in_err-all.ensures.fills));
      each_once = IfOk-from_err _ _ c.from_residual-in_err-all.ensures.0;
      behind = IfOk-from_err _ _ c.from_residual-in_err-all.ensures.0;
    }
