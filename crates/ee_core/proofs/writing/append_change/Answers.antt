use Rattle.ee_core.proofs.Words.{arith, ◌+◌, refl, sym, ap, ◌∙◌, fun_ext, rules}
use Rattle.ee_core.proofs.Sets.{map_after, page_in_range, place_in_range}
use Rattle.ee_core.proofs.Calls.{map_change, number_written}
use Rattle.ee_core.proofs.Appending.{cut_after, cut_size, taken_after}
use Rattle.ee_core.proofs.MarkedSets.{appends_word}
use Rattle.ee_core.proofs.LiveMarks.{layout_stays}
use Rattle.ee_core.proofs.MovingFacts.{few_slots}
use Rattle.ee_core.proofs.KeptMarks.{appended_marked}
use Rattle.ee_core.proofs.CutMarks.{cut_marks, cut_word}
use native.Mathlib.Numerals.{unary_clauses}
use Rattle.std.specs.Prelude.{[], ◌∷◌}
use Rattle.std.proofs.Common.{inl, subst, arith}
use Rattle.ee_pages.specs.Pushing.{slot_step}
use Rattle.ee_core.specs.StepLists.{steps_to_turn}
use Rattle.ee_flash.specs.Taking.{Completes, StopsAmong}
use Rattle.ee_core.proofs.Taken.{completes_both, stops_first, stops_then, among_on, cut_taken, goes_on_taken}
use Rattle.ee_core.specs.CallSteps.{map_change, number_written}
use Rattle.ee_core.specs.State.{state_of}
use Rattle.ee_core.proofs.AfterCalls.{never_on_ok, not_both}
use Rattle.ee_core.proofs.Making.{always_on_err, append_is, appends, cut_in_append, live_after_append, marked_store, number_is, off_store, shows_appended, shows_cut_append}
use Rattle.ee_core.proofs.writing.append_change.Goals as goal

pub returns : goal.returns
returns g c =
    let old = g.F.Flash.device c.args.flash.now in
    let mid = g.F.Flash.device c.open_page.new.flash in
    let new = g.F.Flash.device c.push.new.flash in
    let layout = c.args.layout.now in
    let opened = c.in_ok-open_page.ensures in
    let keeps = opened.stays.keeps in
    let push = c.in_ok-push.ensures in
    let pushed = push.pushes in
    let takes = pushed.takes in
    let grown = takes.one_more ∙ ap (λ n. n + 1) (keeps.same_fill ∙ sym c.requires.layout.fill) in
    let steps =
    completes_both (steps_to_turn old layout.side layout.fill)
    (slot_step old.size layout.side layout.fill (number_written c.args.change) ∷ [])
    opened.steps.done
    (subst
    (λ size. Completes
    (slot_step size layout.side layout.fill (number_written c.args.change) ∷ []) mid new)
    keeps.same_size push.steps.done) in
    let on = goes_on_taken _ steps in
    let took =
    taken_after old mid new layout.side layout.generation _ _ keeps
    (ap (map_after (map_change c.args.change)) (fun_ext keeps.same_map)) takes in
    let drawn =
    appends_word layout.side old mid new layout.fill (number_written c.args.change)
    keeps.same_size takes.same_size opened.drawn pushed.puts in
    let marked =
    appended_marked layout.side layout.fill old mid new c.requires.layout.live.formed
    keeps.same_size takes.same_size grown opened.ready pushed.marks opened.other pushed.other
    c.requires.marked in
    let other = pushed.other ∙ opened.other in
    let wear = pushed.wear ∙ opened.stays.same_wear in
    record {
      appended =
          appends old new layout.side layout.generation c.requires.layout.live
          (map_change c.args.change) c.requires.proceeds on
          (omega (arith, c.requires.free, c.requires.layout.fill)) took other wear
          (shows_appended old new layout.side layout.generation c.requires.layout.live
          (map_change c.args.change) layout.fill (number_written c.args.change)
          c.requires.layout.fill
          (number_is c.args.change (state_of old).map c.requires.forgets) on.same_size drawn other)
          (subst (λ list. Completes list old new)
          (append_is old layout c.args.change c.requires.layout c.requires.forgets) steps);
      written = record {
        takes = took;
        spells = pushed.spells;
        drawn = drawn;
        layout_is = record {
          live = takes.live;
          fill = sym grown;
          current =
              rw takes.same_size
              (simp unary_clauses (rw (sym keeps.same_size) at c.free_slot-page.ensures.page));
        };
        same_set = refl;
        marked = marked;
        other = other;
        wear = wear;
      };
      cut = tt;
      store = marked_store new layout.side layout.generation takes.live marked;
      layout = λ _. record {
        live = takes.live;
        fill = sym grown;
        current =
            rw takes.same_size
            (simp unary_clauses (rw (sym keeps.same_size) at c.free_slot-page.ensures.page));
      };
    }

pub returns-in_err-open_page : goal.returns-in_err-open_page
returns-in_err-open_page g c =
    let old = g.F.Flash.device c.args.flash.now in
    let new = g.F.Flash.device c.open_page.new.flash in
    let layout = c.args.layout.now in
    let opened = c.in_err-open_page.ensures in
    let steps =
    stops_first (steps_to_turn old layout.side layout.fill)
    (slot_step old.size layout.side layout.fill (number_written c.args.change) ∷ [])
    opened.steps.cut in
    let cut = cut_taken (among_on c.requires.proceeds.on steps) in
    let failed = c.from_residual.ensures.0 in
    let left = cut_marks layout.side old new layout.fill _ opened.begun in
    record {
      appended = never_on_ok _ _ failed;
      written = never_on_ok _ _ failed;
      cut = always_on_err _
          (cut_in_append old new layout.side layout.generation c.requires.layout.live
          (map_change c.args.change) c.requires.proceeds cut
          (omega (arith, c.requires.free, c.requires.layout.fill)) opened.other
          (inl opened.stays.keeps) opened.stays.same_wear
          (shows_cut_append old new layout.side layout.generation c.requires.layout.live
          (map_change c.args.change) layout.fill (number_written c.args.change)
          c.requires.layout.fill
          (number_is c.args.change (state_of old).map c.requires.forgets) cut.same_size left
          opened.other)
          (subst (λ list. StopsAmong list old new)
          (append_is old layout c.args.change c.requires.layout c.requires.forgets) steps));
      store = off_store new layout.side layout.generation opened.stays.keeps.live cut.is_off;
      layout = λ on. absurd (not_both new on cut.is_off);
    }

pub returns-in_err-push : goal.returns-in_err-push
returns-in_err-push g c =
    let old = g.F.Flash.device c.args.flash.now in
    let mid = g.F.Flash.device c.open_page.new.flash in
    let new = g.F.Flash.device c.push.new.flash in
    let layout = c.args.layout.now in
    let opened = c.in_ok-open_page.ensures in
    let keeps = opened.stays.keeps in
    let ended = c.in_err-push.ensures in
    let pushed = ended.pushes in
    let failed = c.from_residual-in_err-push.ensures.0 in
    let steps =
    stops_then (steps_to_turn old layout.side layout.fill)
    (slot_step old.size layout.side layout.fill (number_written c.args.change) ∷ [])
    opened.steps.done
    (subst
    (λ size. StopsAmong
    (slot_step size layout.side layout.fill (number_written c.args.change) ∷ []) mid new)
    keeps.same_size ended.steps.cut) in
    let cut = cut_taken (among_on c.requires.proceeds.on steps) in
    let other = pushed.other ∙ opened.other in
    let may =
    cut_after old mid new layout.side layout.generation (map_change c.args.change) keeps
    (fun_ext keeps.same_map) pushed.cut in
    let left =
    cut_word layout.side old mid new layout.fill (number_written c.args.change) keeps.same_size
    (cut_size _ pushed.cut) (page_in_range old layout.fill c.requires.free)
    (place_in_range old layout.fill c.requires.layout.live.formed) opened.drawn pushed.begun in
    record {
      appended = never_on_ok _ _ failed;
      written = never_on_ok _ _ failed;
      cut = always_on_err _
          (cut_in_append old new layout.side layout.generation c.requires.layout.live
          (map_change c.args.change) c.requires.proceeds cut
          (omega (arith, c.requires.free, c.requires.layout.fill)) other may
          (pushed.wear ∙ opened.stays.same_wear)
          (shows_cut_append old new layout.side layout.generation c.requires.layout.live
          (map_change c.args.change) layout.fill (number_written c.args.change)
          c.requires.layout.fill
          (number_is c.args.change (state_of old).map c.requires.forgets) cut.same_size left other)
          (subst (λ list. StopsAmong list old new)
          (append_is old layout c.args.change c.requires.layout c.requires.forgets) steps));
      store =
          off_store new layout.side layout.generation
          (live_after_append old new layout.side layout.generation _ may) cut.is_off;
      layout = λ on. absurd (not_both new on cut.is_off);
    }

pub push-requires : goal.push-requires
push-requires g c = search (rules, layout_stays)

pub overflow_add-layout : goal.overflow_add-layout
overflow_add-layout g c =
    omega (
      arith,
      c.requires.free,
      few_slots (g.F.Flash.device c.args.flash.now) c.requires.layout.live.formed,
    )
