use Rattle.ee_core.proofs.Words.{◌≡◌, ◌≤◌, ◌<◌, ◌+◌, ◌-◌, ap, arith, inl, refl, subst, rules}
use Rattle.ee_core.proofs.Sets.{Size, first_page, Active, Valid}
use Rattle.ee_core.proofs.Calls.{IsLiveMarked, last_used, IsDrawn, picture_of, SetsPartly}
use Rattle.ee_core.proofs.AfterCalls.{never_on_ok}
use Rattle.ee_core.proofs.Drawings.{valid_to}
use Rattle.ee_core.proofs.MarkedSets.{active_then, other_stays, valid_next, valid_start}
use Rattle.ee_core.proofs.Marks.{same_stays}
use Rattle.ee_core.proofs.LiveMarks.{last_behind, last_in_range, last_is, layout_stays, live_marked, stays_both, valid_behind, valid_more}
use Rattle.ee_core.proofs.CutMarks.{active_partly, valid_partly}
use Rattle.ee_core.proofs.Making.{always_on_err}
use Rattle.std.specs.List.{flat_map, range_with_len}
use Rattle.ee_core.specs.StepLists.{steps_to_mark}
use Rattle.ee_flash.specs.Taking.{Completes}
use Rattle.ee_core.proofs.LiveSteps.{live_done, live_stops, live_stops_then, still_active, still_valid}
use Rattle.ee_core.proofs.Taken.{each_next, each_start, mark_below, mark_words, takes_err, takes_ok}
use Rattle.ee_core.proofs.marking.mark_live_set.Goals as goal

pub mark_live-requires-clause-behind : goal.mark_live-requires-clause-behind
mark_live-requires-clause-behind g c = search (rules, valid_behind, layout_stays)

pub pages-preserved : goal.pages-preserved
pages-preserved g c =
    let old = g.F.Flash.device c.args.flash.now in
    let mid = g.F.Flash.device c.pages.flash in
    let new = g.F.Flash.device c.mark_live.new.flash in
    let layout = c.args.layout.now in
    let from : first_page old.size layout.side ≤ c.pages.page =
    omega (arith, c.first_page-first.ensures, c.pages.auto.page) in
    let sizes = ap (λ (size : Size). size.pages) c.pages.invariant.stays.keeps.same_size in
    let behind : c.pages.page - c.first_page-first.result < mid.size.pages =
    omega (
      arith,
      sizes,
      c.pages-test.true,
      c.pages.auto.page,
      c.first_page-first.ensures,
      last_is layout old c.requires,
      last_in_range layout old c.requires,
    ) in
    record {
      stays =
          stays_both old mid new layout.side layout.generation c.pages.invariant.stays
          c.mark_live.ensures.marks.stays;
      valid =
          valid_more (first_page old.size layout.side) c.pages.page mid new from
          c.pages.invariant.valid c.mark_live.ensures.marks.marks c.in_ok-mark_live.ensures.marks.marked;
      drawn =
          valid_next layout.side old c.first_page-first.result c.first_page-first.ensures mid new
          c.pages.page
          (g.met.F.Flash.formed c.pages.flash) c.pages.invariant.stays.keeps.same_size
          c.mark_live.ensures.marks.stays.keeps.same_size c.pages.auto.page behind
          c.in_ok-mark_live.ensures.marks.sets c.pages.invariant.drawn;
      other =
          other_stays layout.side old c.first_page-first.result c.first_page-first.ensures mid new
          c.pages.page
          (g.met.F.Flash.formed c.pages.flash) (g.met.F.Flash.formed c.mark_live.new.flash)
          c.pages.invariant.stays.keeps.same_size c.mark_live.ensures.marks.stays.keeps.same_size
          c.pages.auto.page behind c.mark_live.ensures.marks.others c.pages.invariant.other;
      steps =
          each_next (mark_words Valid) (mark_below Valid) old mid new c.first_page-first.result
          c.pages.page c.pages.auto.page c.pages.invariant.steps c.in_ok-mark_live.ensures.steps.done;
    }

pub mark_live-requires-2-clause-behind : goal.mark_live-requires-2-clause-behind
mark_live-requires-2-clause-behind g c =
    let old = g.F.Flash.device c.args.flash.now in
    let mid = g.F.Flash.device c.pages.flash in
    last_behind c.args.layout.now mid Active
    (layout_stays c.args.layout.now old mid c.requires c.pages.invariant.stays) (inl refl)

pub mark_live-requires-clause-layout : goal.mark_live-requires-clause-layout
mark_live-requires-clause-layout g c = search layout_stays

pub mark_live-requires-2-clause-layout : goal.mark_live-requires-2-clause-layout
mark_live-requires-2-clause-layout g c = search layout_stays

pub pages-init : goal.pages-init
pages-init g c =
    let steps =
    each_start (mark_words Valid) (g.F.Flash.device c.args.flash.now) c.first_page-first.result in
    search (rules, same_stays, valid_start)

pub returns-in_err-mark_live : goal.returns-in_err-mark_live
returns-in_err-mark_live g c =
    let old = g.F.Flash.device c.args.flash.now in
    let mid = g.F.Flash.device c.pages.flash in
    let new = g.F.Flash.device c.mark_live.new.flash in
    let layout = c.args.layout.now in
    let failed = c.from_residual.ensures.0 in
    let sizes = c.pages.invariant.stays.keeps.same_size in
    let counted = ap (λ (size : Size). size.pages) sizes in
    let last = last_is layout old c.requires in
    let k = c.pages.page - c.first_page-first.result in
    let from : first_page old.size layout.side ≤ c.pages.page =
    omega (arith, c.first_page-first.ensures, c.pages.auto.page) in
    let at : c.pages.page ≡ first_page mid.size layout.side + k =
    omega (
      arith,
      c.first_page-first.ensures,
      c.pages.auto.page,
      ap (λ (size : Size). first_page size layout.side) sizes,
    ) in
    let before : k < last_used old layout.side =
    omega (arith, last, c.first_page-first.ensures, c.pages.auto.page, c.pages-test.true) in
    let inside : k < mid.size.pages =
    omega (arith, before, last_in_range layout old c.requires, counted) in
    let unmarked : ¬ IsLiveMarked old layout.side =
    λ marked. c.in_err-mark_live.ensures.marks.fails
    (still_valid layout.side old mid c.first_page-first.result c.pages.page
    c.first_page-first.ensures marked c.pages.auto.page
    (omega (arith, last, c.first_page-first.ensures, c.pages-test.true)) c.pages.invariant.steps) in
    record {
      stays = stays_both _ _ _ _ _ c.pages.invariant.stays c.mark_live.ensures.marks.stays;
      marked = never_on_ok _ _ failed;
      live_pages = never_on_ok _ _ failed;
      old_pages = never_on_ok _ _ failed;
      begun = always_on_err _
          (valid_partly layout.side mid new k (last_used old layout.side)
          (picture_of layout.side old) (g.met.F.Flash.formed c.pages.flash)
          c.mark_live.ensures.marks.stays.keeps.same_size inside before
          (subst (λ n. SetsPartly n Valid mid new) at c.in_err-mark_live.ensures.marks.begun)
          c.pages.invariant.drawn);
      old_pages_stay = always_on_err _
          (other_stays layout.side old c.first_page-first.result c.first_page-first.ensures mid new
          c.pages.page (g.met.F.Flash.formed c.pages.flash)
          (g.met.F.Flash.formed c.mark_live.new.flash)
          sizes c.mark_live.ensures.marks.stays.keeps.same_size c.pages.auto.page inside
          c.mark_live.ensures.marks.others c.pages.invariant.other);
      steps = takes_err _ failed
          (live_stops layout.side old mid new c.first_page-first.result c.pages.page
          (last_used old layout.side) c.first_page-first.ensures c.pages.auto.page
          (omega (arith, last, c.first_page-first.ensures, c.pages-test.true))
          c.pages.invariant.steps c.in_err-mark_live.ensures.steps.cut);
      fails = always_on_err _ unmarked;
    }

pub returns-in_err-mark_live-2 : goal.returns-in_err-mark_live-2
returns-in_err-mark_live-2 g c =
    let old = g.F.Flash.device c.args.flash.now in
    let mid = g.F.Flash.device c.pages.flash in
    let new = g.F.Flash.device c.mark_live-2.new.flash in
    let layout = c.args.layout.now in
    let failed = c.from_residual-in_err-mark_live-2.ensures.0 in
    let sizes = c.pages.invariant.stays.keeps.same_size in
    let last = last_is layout old c.requires in
    let from : c.first_page-first.result ≤ layout.current =
    omega (arith, last, c.first_page-first.ensures) in
    let reached : c.pages.page - c.first_page-first.result ≡ last_used old layout.side =
    omega
    (arith, last, c.first_page-first.ensures, c.pages-test.false, c.pages.auto.page-end) in
    let below : last_used old layout.side < mid.size.pages =
    omega
    (arith, last_in_range layout old c.requires, ap (λ (size : Size). size.pages) sizes) in
    let behind : layout.current - c.first_page-first.result < mid.size.pages =
    omega (arith, below, last, c.first_page-first.ensures) in
    let drawn =
    subst (λ n. IsDrawn layout.side mid (valid_to n (picture_of layout.side old))) reached
    c.pages.invariant.drawn in
    let at : layout.current ≡ first_page mid.size layout.side + last_used old layout.side =
    omega (arith, last, ap (λ (size : Size). first_page size layout.side) sizes) in
    let so_far =
    subst
    (λ n. Completes
    (flat_map (steps_to_mark old Valid) (range_with_len c.first_page-first.result n)) old mid)
    reached c.pages.invariant.steps in
    let unmarked : ¬ IsLiveMarked old layout.side =
    λ marked. c.in_err-mark_live-2.ensures.marks.fails
    (still_active layout.side old mid c.first_page-first.result layout.current
    c.first_page-first.ensures marked (omega (arith, last, c.first_page-first.ensures)) so_far) in
    record {
      stays = stays_both _ _ _ _ _ c.pages.invariant.stays c.mark_live-2.ensures.marks.stays;
      marked = never_on_ok _ _ failed;
      live_pages = never_on_ok _ _ failed;
      old_pages = never_on_ok _ _ failed;
      begun = always_on_err _
          (active_partly layout.side mid new (last_used old layout.side)
          (picture_of layout.side old) (g.met.F.Flash.formed c.pages.flash)
          c.mark_live-2.ensures.marks.stays.keeps.same_size below
          (subst (λ n. SetsPartly n Active mid new) at c.in_err-mark_live-2.ensures.marks.begun) drawn);
      old_pages_stay = always_on_err _
          (other_stays layout.side old c.first_page-first.result c.first_page-first.ensures mid new
          layout.current (g.met.F.Flash.formed c.pages.flash)
          (g.met.F.Flash.formed c.mark_live-2.new.flash)
          sizes c.mark_live-2.ensures.marks.stays.keeps.same_size from behind c.mark_live-2.ensures.marks.others
          c.pages.invariant.other);
      steps = takes_err _ failed
          (live_stops_then layout.side old mid new c.first_page-first.result layout.current
          (last_used old layout.side) c.first_page-first.ensures
          (omega (arith, last, c.first_page-first.ensures))
          so_far c.in_err-mark_live-2.ensures.steps.cut);
      fails = always_on_err _ unmarked;
    }

pub returns : goal.returns
returns g c =
    let old = g.F.Flash.device c.args.flash.now in
    let mid = g.F.Flash.device c.pages.flash in
    let new = g.F.Flash.device c.mark_live-2.new.flash in
    let layout = c.args.layout.now in
    let done = c.in_ok-mark_live-2.ensures.marks in
    let sizes = c.pages.invariant.stays.keeps.same_size in
    let formed = g.met.F.Flash.formed c.pages.flash in
    let last = last_is layout old c.requires in
    let from : c.first_page-first.result ≤ layout.current =
    omega (arith, last, c.first_page-first.ensures) in
    let reached : c.pages.page - c.first_page-first.result ≡ last_used old layout.side =
    omega
    (arith, last, c.first_page-first.ensures, c.pages-test.false, c.pages.auto.page-end) in
    let below : last_used old layout.side < mid.size.pages =
    omega
    (arith, last_in_range layout old c.requires, ap (λ (size : Size). size.pages) sizes) in
    let behind : layout.current - c.first_page-first.result < mid.size.pages =
    omega (arith, below, last, c.first_page-first.ensures) in
    let drawn =
    subst (λ n. IsDrawn layout.side mid (valid_to n (picture_of layout.side old))) reached
    c.pages.invariant.drawn in
    let stays =
    stays_both old mid new layout.side layout.generation c.pages.invariant.stays done.stays in
    record {
      stays = stays;
      marked =
          live_marked layout old mid new c.requires stays
          (λ k below. c.pages.invariant.valid k (omega (arith, c.pages-test.false, below)))
          done.marks done.marked;
      live_pages =
          active_then layout.side old c.first_page-first.result c.first_page-first.ensures mid new
          layout.current (last_used old layout.side) formed sizes done.stays.keeps.same_size
          (omega (arith, last, c.first_page-first.ensures)) below done.sets drawn;
      old_pages =
          other_stays layout.side old c.first_page-first.result c.first_page-first.ensures mid new
          layout.current formed (g.met.F.Flash.formed c.mark_live-2.new.flash)
          sizes done.stays.keeps.same_size from behind done.others c.pages.invariant.other;
      begun = tt;
      old_pages_stay = tt;
      steps = takes_ok
          (live_done layout.side old mid new c.first_page-first.result layout.current
          (last_used old layout.side) c.first_page-first.ensures
          (omega (arith, last, c.first_page-first.ensures))
          (subst
          (λ n. Completes
          (flat_map (steps_to_mark old Valid) (range_with_len c.first_page-first.result n)) old mid)
          reached c.pages.invariant.steps) c.in_ok-mark_live-2.ensures.steps.done);
      fails = tt;
    }
