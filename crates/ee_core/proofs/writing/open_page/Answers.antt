use Rattle.ee_core.proofs.Words.{◌≡◌, ◌+◌, ◌-◌, ap, ◌∙◌, ◌<◌, arith, refl, sym, subst, rules}
use Rattle.ee_core.proofs.Sets.{Size, page_in_range, first_page, page_of_slot, Active, Valid}
use Rattle.ee_core.proofs.Calls.{SetsMark, IsDrawn, marked_to, picture_of, IsDrawnPartly, SetsPartly}
use Rattle.ee_core.proofs.AfterCalls.{never_on_ok}
use Rattle.ee_core.proofs.Drawings.{marks_drawn}
use Rattle.ee_core.proofs.LiveMarks.{current_below, last_behind, layout_stays, stays_both}
use Rattle.ee_core.proofs.Marks.{same_stays}
use Rattle.ee_core.proofs.MarkedSets.{opens_next}
use Rattle.ee_core.proofs.OpenedPages.{first_other, further, last_is, next_behind, ready_already, ready_now, second_other, stays_in, turns}
use Rattle.ee_core.proofs.CutMarks.{opens_partly, opens_partly_then}
use Rattle.ee_core.proofs.Making.{always_on_err}
use Rattle.ee_core.proofs.Taken.{takes_err, takes_ok}
use Rattle.ee_core.proofs.TurnedPages.{turn_done, turn_stops, turn_stops_then, turned_already}
use Rattle.ee_core.proofs.writing.open_page.Goals as goal

pub returns-then-page-layout-clause-stays : goal.returns-then-page-layout-clause-stays
returns-then-page-layout-clause-stays g c = search (rules, same_stays)

pub returns-then-page-layout-clause-ready : goal.returns-then-page-layout-clause-ready
returns-then-page-layout-clause-ready g c = search (rules, stays_in, ready_already)

pub returns-then-page-layout-clause-drawn : goal.returns-then-page-layout-clause-drawn
returns-then-page-layout-clause-drawn g c = search (rules, stays_in, ready_already, marks_drawn)

pub returns-then-page-layout-clause-steps : goal.returns-then-page-layout-clause-steps
returns-then-page-layout-clause-steps g c =
    turned_already (g.F.Flash.device c.args.flash.now) c.args.layout.now c.args.page
    c.requires.page c.if-page-layout.true c.requires.layout

pub mark_live-requires-2-clause-behind : goal.mark_live-requires-2-clause-behind
mark_live-requires-2-clause-behind g c =
    let turned =
    turns (g.F.Flash.device c.args.flash.now) c.args.layout.now c.requires.layout
    c.requires.free (g.F.Flash.device c.args.flash.now).size.words refl c.args.page
    c.requires.page c.if-page-layout.false in
    next_behind (g.F.Flash.device c.args.flash.now) c.args.layout.now c.requires.layout
    c.requires.free _ refl turned.0 turned.1 _ c.mark_live.ensures.marks.stays

pub returns-in_err-mark_live : goal.returns-in_err-mark_live
returns-in_err-mark_live g c =
    let old = g.F.Flash.device c.args.flash.now in
    let new = g.F.Flash.device c.mark_live.new.flash in
    let layout = c.args.layout.now in
    let turned =
    turns (g.F.Flash.device c.args.flash.now) c.args.layout.now c.requires.layout
    c.requires.free (g.F.Flash.device c.args.flash.now).size.words refl c.args.page
    c.requires.page c.if-page-layout.false in
    let k = page_of_slot old.size (layout.fill - 1) in
    let next : page_of_slot old.size layout.fill ≡ k + 1 =
    further old layout c.requires.layout c.requires.free _ refl turned.0 turned.1 in
    let last = last_is old layout c.requires.layout c.requires.free _ refl in
    let here : layout.current ≡ first_page old.size layout.side + k = c.requires.layout.current in
    let first = c.mark_live.ensures.marks in
    let failed = c.from_residual.ensures.0 in
    record {
      stays = first.stays;
      other =
          first_other old layout c.requires.layout c.requires.free _ refl _ first.stays
          first.others;
      ready = never_on_ok _ _ failed;
      drawn = never_on_ok _ _ failed;
      begun = always_on_err _
          (subst
          (λ n. IsDrawnPartly layout.side new (picture_of layout.side old)
          (marked_to n (picture_of layout.side old))) (sym next)
          (opens_partly layout.side old new k c.requires.layout.live.formed
          first.stays.keeps.same_size
          (omega (arith, next, page_in_range old layout.fill c.requires.free))
          (λ page below. c.requires.marked.live.valid page (subst (λ n. page < n) last below))
          (subst (λ n. SetsPartly n Valid old new) here c.in_err-mark_live.ensures.marks.begun)));
      steps = takes_err _ failed
          (turn_stops old layout.side layout.fill layout.current here next new
          c.in_err-mark_live.ensures.steps.cut);
    }

pub returns-in_err-mark_live-2 : goal.returns-in_err-mark_live-2
returns-in_err-mark_live-2 g c =
    let old = g.F.Flash.device c.args.flash.now in
    let mid = g.F.Flash.device c.mark_live.new.flash in
    let new = g.F.Flash.device c.mark_live-2.new.flash in
    let layout = c.args.layout.now in
    let turned =
    turns (g.F.Flash.device c.args.flash.now) c.args.layout.now c.requires.layout
    c.requires.free (g.F.Flash.device c.args.flash.now).size.words refl c.args.page
    c.requires.page c.if-page-layout.false in
    let k = page_of_slot old.size (layout.fill - 1) in
    let next : page_of_slot old.size layout.fill ≡ k + 1 =
    further old layout c.requires.layout c.requires.free _ refl turned.0 turned.1 in
    let last = last_is old layout c.requires.layout c.requires.free _ refl in
    let here : layout.current ≡ first_page old.size layout.side + k = c.requires.layout.current in
    let there : layout.current + 1 ≡ first_page old.size layout.side + (k + 1) =
    omega (arith, here) in
    let first = c.mark_live.ensures.marks in
    let second = c.mark_live-2.ensures.marks in
    let same =
    first_other old layout c.requires.layout c.requires.free _ refl _ first.stays
    first.others in
    let failed = c.from_residual-in_err-mark_live-2.ensures.0 in
    record {
      stays = stays_both _ _ _ _ _ first.stays second.stays;
      other =
          second_other old layout c.requires.layout c.requires.free _ refl turned.0 turned.1 _ _
          second.stays.keeps.live.formed first.stays second.stays.keeps.same_size same
          second.others;
      ready = never_on_ok _ _ failed;
      drawn = never_on_ok _ _ failed;
      begun = always_on_err _
          (subst
          (λ n. IsDrawnPartly layout.side new (picture_of layout.side old)
          (marked_to n (picture_of layout.side old))) (sym next)
          (opens_partly_then layout.side old mid new k c.requires.layout.live.formed
          first.stays.keeps.live.formed first.stays.keeps.same_size second.stays.keeps.same_size
          (omega (arith, next, page_in_range old layout.fill c.requires.free))
          (λ page below. c.requires.marked.live.valid page (subst (λ n. page < n) last below))
          (subst (λ n. SetsMark n Valid old mid) here c.in_ok-mark_live.ensures.marks.sets)
          (subst (λ n. SetsPartly n Active mid new) there c.in_err-mark_live-2.ensures.marks.begun)));
      steps = takes_err _ failed
          (turn_stops_then old layout.side layout.fill layout.current here next mid new
          c.in_ok-mark_live.ensures.steps.done first.others
          c.in_err-mark_live-2.ensures.steps.cut);
    }

pub returns : goal.returns
returns g c =
    let old = g.F.Flash.device c.args.flash.now in
    let mid = g.F.Flash.device c.mark_live.new.flash in
    let new = g.F.Flash.device c.mark_live-2.new.flash in
    let layout = c.args.layout.now in
    let turned =
    turns (g.F.Flash.device c.args.flash.now) c.args.layout.now c.requires.layout
    c.requires.free (g.F.Flash.device c.args.flash.now).size.words refl c.args.page
    c.requires.page c.if-page-layout.false in
    let k = page_of_slot old.size (layout.fill - 1) in
    let next : page_of_slot old.size layout.fill ≡ k + 1 =
    further old layout c.requires.layout c.requires.free _ refl turned.0 turned.1 in
    let last = last_is old layout c.requires.layout c.requires.free _ refl in
    let here : layout.current ≡ first_page old.size layout.side + k = c.requires.layout.current in
    let there : layout.current + 1 ≡ first_page old.size layout.side + (k + 1) =
    omega (arith, here) in
    let first = c.mark_live.ensures.marks in
    let second = c.mark_live-2.ensures.marks in
    let same =
    first_other old layout c.requires.layout c.requires.free _ refl _ first.stays
    first.others in
    record {
      stays = stays_both _ _ _ _ _ first.stays second.stays;
      other =
          second_other old layout c.requires.layout c.requires.free _ refl turned.0 turned.1 _ _
          second.stays.keeps.live.formed first.stays second.stays.keeps.same_size same
          second.others;
      ready =
          ready_now old layout c.requires.layout c.requires.free _ refl turned.0 turned.1 mid new
          (second.stays.keeps.same_size ∙ first.stays.keeps.same_size) c.requires.marked.live
          first.marks second.marks c.in_ok-mark_live.ensures.marks.marked
          c.in_ok-mark_live-2.ensures.marks.marked;
      drawn =
          subst (λ n. IsDrawn layout.side new (marked_to n (picture_of layout.side old))) (sym next)
          (opens_next layout.side old mid new k c.requires.layout.live.formed
          first.stays.keeps.live.formed first.stays.keeps.same_size second.stays.keeps.same_size
          (omega (arith, next, page_in_range old layout.fill c.requires.free))
          (λ page below. c.requires.marked.live.valid page (subst (λ n. page < n) last below))
          (subst (λ n. SetsMark n Valid old mid) here c.in_ok-mark_live.ensures.marks.sets)
          (subst (λ n. SetsMark n Active mid new) there c.in_ok-mark_live-2.ensures.marks.sets));
      begun = tt;
      steps = takes_ok
          (turn_done old layout.side layout.fill layout.current here next mid new
          c.in_ok-mark_live.ensures.steps.done first.others
          c.in_ok-mark_live-2.ensures.steps.done);
    }

pub mark_live-requires-clause-behind : goal.mark_live-requires-clause-behind
mark_live-requires-clause-behind g c = search (rules, last_behind)

pub mark_live-requires-2-clause-from : goal.mark_live-requires-2-clause-from
mark_live-requires-2-clause-from g c =
    omega (
      arith,
      c.requires.layout.current,
      ap (λ (size : Size). first_page size c.args.layout.now.side)
          c.mark_live.ensures.marks.stays.keeps.same_size,
    )

pub mark_live-requires-2-clause-layout : goal.mark_live-requires-2-clause-layout
mark_live-requires-2-clause-layout g c = search layout_stays

pub overflow_add-layout : goal.overflow_add-layout
overflow_add-layout g c =
    omega (
      arith,
      current_below c.args.layout.now (g.F.Flash.device c.args.flash.now) c.requires.layout,
    )
