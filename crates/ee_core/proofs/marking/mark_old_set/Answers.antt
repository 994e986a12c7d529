use Rattle.ee_core.proofs.Words.{◌≡◌, arith, false, ap, ◌∙◌, sym, rules}
use Rattle.ee_core.proofs.Sets.{page_at, Size, is_blank, first_page, other}
use Rattle.ee_core.proofs.Calls.{IsOldMarked}
use Rattle.ee_core.proofs.AfterCalls.{never_on_ok}
use Rattle.ee_core.proofs.CutMarks.{marked_all, marked_cut, marked_next, marked_start, retired_cut, retired_still, retired_steps}
use Rattle.ee_core.proofs.Taken.{takes_err}
use Rattle.ee_core.proofs.LiveMarks.{MarksPage, layout_stays, marks_none, marks_one, stays_both}
use Rattle.ee_core.proofs.Making.{always_on_err}
use Rattle.ee_core.proofs.MarkedSets.{retired_end}
use Rattle.ee_core.proofs.SetPages.{page_of_device, page_reached}
use Rattle.ee_core.proofs.marking.mark_old_set.Goals.{then-not-is_blank+in_ok-mark_old, else-not-is_blank}
use Rattle.ee_core.proofs.marking.mark_old_set.Goals as goal

pub pages-init : goal.pages-init
pages-init g c = search (rules, marked_start)

pub pages-preserved : goal.pages-preserved
pages-preserved g c =
    let old = g.F.Flash.device c.args.flash.now in
    let side = c.args.layout.now.side in
    let generation = c.args.layout.now.generation in
    let mid = g.F.Flash.device c.pages.flash in
    let new = g.F.Flash.device c.if-not-is_blank.flash in
    let first : c.first_page-first.result ≡ first_page old.size (other side) =
    c.first_page-first.ensures ∙ ap (first_page old.size) c.other.ensures in
    let pages : c.pages-2.result ≡ old.size.pages =
    c.pages-2.ensures.value ∙ ap (λ (size : Size). size.pages) c.shape.ensures in
    let step : MarksPage mid new side generation c.pages.page = elim c.if-not-is_blank.branch [
      | then-not-is_blank+in_ok-mark_old w ↦
          let left = w.in_ok-mark_old.ensures.marks in
          rw w.flash-is
          (marks_one mid _ side generation c.pages.page
          (sym c.is_blank.ensures ∙ w.if-not-is_blank.true) left.stays left.marks
          left.others left.marked left.sets
          w.in_ok-mark_old.ensures.steps.done)
      | else-not-is_blank w ↦ rw w.flash-is
          (marks_none mid side generation c.pages.page c.pages.invariant.stays.keeps.live
          (sym c.is_blank.ensures ∙ w.if-not-is_blank.false))
    ] in
    marked_next side generation old _ _ first pages mid c.pages.page
    (g.met.F.Flash.formed c.pages.flash) c.pages.auto.page c.pages-test.true c.pages.invariant
    new (g.met.F.Flash.formed c.if-not-is_blank.flash) step

pub is_blank-requires : goal.is_blank-requires
is_blank-requires g c = search (rules, page_of_device, page_reached)

pub mark_old-requires : goal.mark_old-requires
mark_old-requires g c = search (rules, layout_stays, page_reached)

pub returns-in_err-mark_old : goal.returns-in_err-mark_old
returns-in_err-mark_old g c =
    let old = g.F.Flash.device c.args.flash.now in
    let side = c.args.layout.now.side in
    let generation = c.args.layout.now.generation in
    let mid = g.F.Flash.device c.pages.flash in
    let new = g.F.Flash.device c.mark_old.new.flash in
    let failed = c.from_residual.ensures.0 in
    let first : c.first_page-first.result ≡ first_page old.size (other side) =
    c.first_page-first.ensures ∙ ap (first_page old.size) c.other.ensures in
    let pages : c.pages-2.result ≡ old.size.pages =
    c.pages-2.ensures.value ∙ ap (λ (size : Size). size.pages) c.shape.ensures in
    let formed = g.met.F.Flash.formed c.pages.flash in
    let written : is_blank (page_at mid c.pages.page) ≡ false =
    sym c.is_blank.ensures ∙ c.if-not-is_blank.true in
    let left = c.mark_old.ensures.marks in
    let unmarked : ¬ IsOldMarked old (other side) =
    λ marked. c.in_err-mark_old.ensures.marks.fails
    (retired_still side generation old _ _ first pages mid c.pages.page formed
    c.pages.auto.page c.pages-test.true c.pages.invariant written marked) in
    let cut =
    marked_cut side generation old _ _ first pages mid c.pages.page formed c.pages.auto.page
    c.pages-test.true c.pages.invariant new (g.met.F.Flash.formed c.mark_old.new.flash)
    written left.stays left.others c.in_err-mark_old.ensures.marks.begun in
    record {
      stays = stays_both old mid new side generation c.pages.invariant.stays left.stays;
      marks = λ page mark was. left.marks page mark (c.pages.invariant.marks page mark was);
      marked = never_on_ok _ _ failed;
      live_pages = never_on_ok _ _ failed;
      old_pages = never_on_ok _ _ failed;
      begun = always_on_err c.from_residual.result cut.0;
      live_pages_stay = always_on_err c.from_residual.result cut.1;
      steps = takes_err _ failed
          (retired_cut side generation old _ _ first pages mid c.pages.page formed
          c.pages.auto.page c.pages-test.true c.pages.invariant new c.requires.live.formed written
          c.in_err-mark_old.ensures.steps.cut);
      fails = always_on_err _ unmarked;
    }

pub returns-clause-marked : goal.returns-clause-marked
returns-clause-marked g c = search (rules, marked_all)

pub returns-clause-old_pages : goal.returns-clause-old_pages
returns-clause-old_pages g c =
    let old = g.F.Flash.device c.args.flash.now in
    let new = g.F.Flash.device c.pages.flash in
    let first : c.first_page-first.result ≡ first_page old.size (other c.args.layout.now.side) =
    c.first_page-first.ensures ∙ ap (first_page old.size) c.other.ensures in
    let pages : c.pages-2.result ≡ old.size.pages =
    c.pages-2.ensures.value ∙ ap (λ (size : Size). size.pages) c.shape.ensures in
    retired_end (other c.args.layout.now.side) old c.first_page-first.result first new c.pages.page
    c.pages.invariant.stays.keeps.same_size
    (omega (arith, pages, c.pages-test.false, c.pages.auto.page-end)) c.pages.invariant.drawn

pub returns-clause-steps : goal.returns-clause-steps
returns-clause-steps g c =
    let old = g.F.Flash.device c.args.flash.now in
    let side = c.args.layout.now.side in
    let new = g.F.Flash.device c.pages.flash in
    let first : c.first_page-first.result ≡ first_page old.size (other side) =
    c.first_page-first.ensures ∙ ap (first_page old.size) c.other.ensures in
    let pages : c.pages-2.result ≡ old.size.pages =
    c.pages-2.ensures.value ∙ ap (λ (size : Size). size.pages) c.shape.ensures in
    retired_steps side c.args.layout.now.generation old _ _ first pages new c.pages.page
    c.requires.live.formed (omega (arith, c.pages-test.false, c.pages.auto.page-end))
    c.pages.invariant
