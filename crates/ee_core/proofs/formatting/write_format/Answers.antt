use Rattle.std.proofs.Common.{◌≡◌, ◌<◌, inl, inr, ap, arith, refl, ◌∙◌}
use Rattle.std.proofs.lemmas.Result.{err_from_is_err_and}
use Rattle.ee_flash.specs.Device.{Device}
use Rattle.ee_pages.specs.Page.{marking}
use Rattle.ee_core.specs.Openings.{not_blank_pages}
use Rattle.ee_core.proofs.Wears.{wears_still}
use Rattle.ee_core.proofs.Marks.{mark_step, program_keeps_wear}
use Rattle.ee_core.proofs.Cuts.{mark_partly}
use Rattle.ee_core.proofs.CutMoves.{format_cut, format_cut_then}
use Rattle.ee_flash.specs.Size.{page_count}
use Rattle.ee_flash.proofs.Public.{step_changes_one_page}
use Rattle.ee_pages.specs.declared.state.Mark.TheVariants.{Active, Receive}
use Rattle.ee_core.proofs.FirstSet.{active_unset, first_layout, first_marked, first_state, proper_active, proper_first, receiving, unmarked}
use Rattle.ee_core.proofs.OpeningFacts.{formats}
use Rattle.ee_core.proofs.Startable.{active_starting, received_startable}
use Rattle.ee_core.proofs.Drawings.{sets_mark}
use Rattle.ee_core.proofs.MovedSets.{formats_first, formats_second}
use Rattle.std.proofs.Common.{[], ◌∷◌}
use Rattle.std.specs.Prelude.{map}
use Rattle.ee_flash.specs.Step.{Erase}
use Rattle.ee_core.proofs.Taken.{completes_both, completes_one, ends_taken, stops_first, stops_one, stops_then, takes_err, takes_ok}
use Rattle.ee_core.proofs.formatting.write_format.Goals as goal

pub returns : goal.returns
returns g c =
    let old = g.F.Flash.device c.args.flash.now in
    let blank = g.F.Flash.device c.erase_all.new.flash in
    let mid = g.F.Flash.device c.mark.new.flash in
    let new = g.F.Flash.device c.mark-2.new.flash in
    let formed = g.met.F.Flash.formed c.erase_all.new.flash in
    let all = c.in_ok-erase_all.ensures.erases.blank in
    let erased = c.in_ok-erase_all.ensures.erases.wear in
    let h : 0 < page_count blank.size = omega (arith, formed.within_limits.some_pages) in
    let unset = unmarked blank 0 (Receive 1) formed all h in
    let mid_formed = g.met.F.Flash.formed c.mark.new.flash in
    let still : 0 < page_count mid.size = omega (arith, mid_formed.within_limits.some_pages) in
    let on = c.in_ok-mark.ensures.on unset in
    let whole = c.in_ok-mark.ensures.done unset in
    let next = active_unset blank mid formed all on whole in
    let sets =
    sets_mark 0 (Receive 1) blank mid formed h (λ set. (c.in_ok-mark.ensures.present set).1)
    c.in_ok-mark.ensures.done in
    let on_then = c.in_ok-mark-2.ensures.on next in
    let done = c.in_ok-mark-2.ensures.done next in
    let sets_then =
    sets_mark 0 Active mid new mid_formed still (λ set. (c.in_ok-mark-2.ensures.present set).1)
    c.in_ok-mark-2.ensures.done in
    let size = ap (λ (device : Device). device.size) whole in
    let size_then = ap (λ (device : Device). device.size) done in
    let wear : new.wear ≡ blank.wear =
    ap (λ (device : Device). device.wear) done ∙ ap (λ (device : Device). device.wear) whole in
    let all_steps =
    (completes_both (map Erase (not_blank_pages old))
    (marking 0 (Receive 1) ∷ marking 0 Active ∷ []) c.in_ok-erase_all.ensures.steps.done
    (completes_both (marking 0 (Receive 1) ∷ []) (marking 0 Active ∷ [])
    (completes_one (marking 0 (Receive 1)) blank on whole)
    (completes_one (marking 0 Active) mid on_then done))) in
    let layout = first_layout blank mid formed all on whole new on_then done in
    let marked = first_marked blank mid formed all on whole new on_then done in
    record {
      writes = record {
        layout_is = layout;
        first = refl;
        marked = marked;
        formatted =
            formats _ old new layout refl marked
            (first_state blank mid formed all on whole new on_then done)
            (formats_first blank mid new formed mid_formed size size_then all sets sets_then)
            (formats_second blank mid new formed mid_formed size size_then all sets sets_then)
            (wears_still (not_blank_pages old) old blank new erased wear) all_steps;
      };
      steps = takes_ok all_steps;
      power = ends_taken _ _ (takes_ok all_steps);
    }

pub returns-in_err-erase_all : goal.returns-in_err-erase_all
returns-in_err-erase_all g c =
    let cut = c.in_err-erase_all.ensures in
    let steps =
    takes_err c.from_residual.result c.from_residual.ensures.0
    (stops_first (map Erase (not_blank_pages (g.F.Flash.device c.args.flash.now)))
    (marking 0 (Receive 1) ∷ marking 0 Active ∷ []) cut.steps.cut) in
    record {
      writes = rw (err_from_is_err_and c.from_residual.result c.from_residual.ensures.1).1 (record {
        words = λ on. inl (cut.erases.partly on);
        starting = λ on startable. inl (cut.erases.startable startable);
      });
      steps = steps;
      power = ends_taken _ _ steps;
    }

pub returns-in_err-mark : goal.returns-in_err-mark
returns-in_err-mark g c =
    let old = g.F.Flash.device c.args.flash.now in
    let blank = g.F.Flash.device c.erase_all.new.flash in
    let mid = g.F.Flash.device c.mark.new.flash in
    let formed = g.met.F.Flash.formed c.erase_all.new.flash in
    let all = c.in_ok-erase_all.ensures.erases.blank in
    let erased = c.in_ok-erase_all.ensures.erases.wear in
    let h : 0 < page_count blank.size = omega (arith, formed.within_limits.some_pages) in
    let unset = unmarked blank 0 (Receive 1) formed all h in
    let cut = c.in_err-mark.ensures.cut in
    let taken = mark_step 0 (Receive 1) blank mid formed h proper_first unset (inr cut) in
    let same : mid.wear ≡ blank.wear = program_keeps_wear 0 0 _ blank mid (inr cut) in
    let failed = c.from_residual-in_err-mark in
    let partly =
    format_cut old blank mid (wears_still (not_blank_pages old) old blank mid erased same)
    formed (step_changes_one_page _ blank mid taken).same_size all
    (mark_partly 0 (Receive 1) blank mid formed h (λ set. (c.mark.ensures.present set).1) cut) in
    let steps =
    takes_err failed.result failed.ensures.0
    (stops_then (map Erase (not_blank_pages old))
    (marking 0 (Receive 1) ∷ marking 0 Active ∷ []) c.in_ok-erase_all.ensures.steps.done
    (stops_first (marking 0 (Receive 1) ∷ []) (marking 0 Active ∷ [])
    (stops_one (marking 0 (Receive 1)) cut))) in
    record {
      writes =
          rw (err_from_is_err_and failed.result failed.ensures.1).1
          (record {
            words = λ on. inr partly;
            starting = λ on startable. inl (received_startable blank mid formed all taken);
          });
      steps = steps;
      power = ends_taken _ _ steps;
    }

pub returns-in_err-mark-2 : goal.returns-in_err-mark-2
returns-in_err-mark-2 g c =
    let old = g.F.Flash.device c.args.flash.now in
    let blank = g.F.Flash.device c.erase_all.new.flash in
    let mid = g.F.Flash.device c.mark.new.flash in
    let new = g.F.Flash.device c.mark-2.new.flash in
    let formed = g.met.F.Flash.formed c.erase_all.new.flash in
    let all = c.in_ok-erase_all.ensures.erases.blank in
    let erased = c.in_ok-erase_all.ensures.erases.wear in
    let h : 0 < page_count blank.size = omega (arith, formed.within_limits.some_pages) in
    let unset = unmarked blank 0 (Receive 1) formed all h in
    let mid_formed = g.met.F.Flash.formed c.mark.new.flash in
    let still : 0 < page_count mid.size = omega (arith, mid_formed.within_limits.some_pages) in
    let on_mark = c.in_ok-mark.ensures.on unset in
    let whole = c.in_ok-mark.ensures.done unset in
    let next = active_unset blank mid formed all on_mark whole in
    let sets =
    sets_mark 0 (Receive 1) blank mid formed h (λ set. (c.in_ok-mark.ensures.present set).1)
    c.in_ok-mark.ensures.done in
    let size = ap (λ (device : Device). device.size) whole in
    let cut = c.in_err-mark-2.ensures.cut in
    let taken = mark_step 0 Active mid new mid_formed still proper_active next (inr cut) in
    let wear : new.wear ≡ blank.wear =
    program_keeps_wear 0 1 _ mid new (inr cut) ∙ ap (λ (device : Device). device.wear) whole in
    let failed = c.from_residual-in_err-mark-2 in
    let partly =
    format_cut_then old blank mid new
    (wears_still (not_blank_pages old) old blank new erased wear) formed mid_formed size
    (step_changes_one_page _ mid new taken).same_size all sets
    (mark_partly 0 Active mid new mid_formed still (λ set. (c.mark-2.ensures.present set).1) cut) in
    let steps =
    takes_err failed.result failed.ensures.0
    (stops_then (map Erase (not_blank_pages old))
    (marking 0 (Receive 1) ∷ marking 0 Active ∷ []) c.in_ok-erase_all.ensures.steps.done
    (stops_then (marking 0 (Receive 1) ∷ []) (marking 0 Active ∷ [])
    (completes_one (marking 0 (Receive 1)) blank on_mark whole)
    (stops_one (marking 0 Active) cut))) in
    record {
      writes = rw (err_from_is_err_and failed.result failed.ensures.1).1 (record {
        words = λ on. inr partly;
        starting =
            λ on startable. active_starting blank mid new formed all on_mark whole taken
            (received_startable blank mid formed all
            (receiving blank mid formed all on_mark whole));
      });
      steps = steps;
      power = ends_taken _ _ steps;
    }

pub mark-requires : goal.mark-requires
mark-requires g c = record {
  page_in_range =
      omega (arith, (g.met.F.Flash.formed c.erase_all.new.flash).within_limits.some_pages);
  generation = proper_first;
}

pub mark-requires-2 : goal.mark-requires-2
mark-requires-2 g c = record {
  page_in_range =
      omega (arith, (g.met.F.Flash.formed c.mark.new.flash).within_limits.some_pages);
  generation = proper_active;
}
