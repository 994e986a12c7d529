use Rattle.std.proofs.Common.{rules, ◌≡◌, ◌≢◌, ◌<◌, ◌+◌, inl, inr, true, false, length, ap, arith, ◌∙◌, sym}
use Rattle.std.proofs.lemmas.Result.{err_from_is_err_and}
use Rattle.ee_flash.specs.Device.{IsOn, page_at}
use Rattle.ee_flash.specs.Size.{page_count}
use Rattle.ee_pages.specs.Page.{is_blank}
use Rattle.ee_core.proofs.FormatFacts.{BlanksPage, all_blank, blank_already, blank_more, blanks_page}
use Rattle.ee_core.proofs.Startable.{erase_startable}
use Rattle.ee_core.specs.Starts.{IsStartable}
use Rattle.ee_core.proofs.ErasedPages.{all_wear, wears_next, wears_to}
use Rattle.ee_core.proofs.Cuts.{erase_partly, erases_partly}
use Rattle.ee_pages.proofs.Public.{step_keeps_other_pages}
use Rattle.ee_flash.specs.Step.{Erase}
use Rattle.ee_core.specs.CallSteps.{IsSameBut}
use Rattle.ee_core.specs.Cuts.{ErasesPartly}
use Rattle.ee_core.proofs.Wears.{cut_page_wears}
use Rattle.ee_core.proofs.formatting.erase_all.Goals.{then-not-is_blank+in_ok-erase, else-not-is_blank}
use Rattle.std.proofs.Common.{List, [], ◌∷◌, ◌-◌, refl, subst}
use Rattle.ee_flash.specs.Step.{Step}
use Rattle.ee_core.specs.Openings.{not_blank_pages}
use Rattle.ee_flash.specs.Taking.{Completes, StopsAmong}
use Rattle.ee_core.proofs.Taken.{goes_on_taken, completes_none, each_next, each_stops, erase_below, erase_words, erases_in, in_device, stops_one, takes_err, takes_ok}
use Rattle.ee_core.proofs.formatting.erase_all.Goals as goal

pub pages-preserved : goal.pages-preserved
pages-preserved g c =
    let old = g.F.Flash.device c.args.flash.now in
    let mid = g.F.Flash.device c.pages.flash in
    let new = g.F.Flash.device c.if-not-is_blank.flash in
    let page = c.pages.page in
    let pages = ap (λ size. size.pages) c.shape.ensures in
    let same = ap page_count (goes_on_taken _ c.pages.invariant.steps).same_size in
    let in_range : page < page_count old.size =
    omega (arith, c.pages-page-end.ensures.value, pages, c.pages-test.true) in
    let now_in_range : page < page_count mid.size = omega (arith, in_range, same) in
    let formed = g.met.F.Flash.formed c.args.flash.now in
    let within : page < length old.image = omega (arith, in_range, formed.image_length) in
    let step : BlanksPage mid new page = elim c.if-not-is_blank.branch [
      | then-not-is_blank+in_ok-erase w ↦
          let written : is_blank (page_at mid page) ≡ false =
          sym c.is_blank.ensures ∙ w.if-not-is_blank.true in
          rw w.flash-is
          (blanks_page page mid _ (g.met.F.Flash.formed c.pages.flash) now_in_range written
          w.in_ok-erase.ensures.on w.in_ok-erase.ensures.done)
      | else-not-is_blank w ↦
          let blank : is_blank (page_at mid page) ≡ true =
          sym c.is_blank.ensures ∙ w.if-not-is_blank.false in
          rw w.flash-is (blank_already mid page blank)
    ] in
    let stays : IsStartable mid → IsStartable new = elim c.if-not-is_blank.branch [
      | then-not-is_blank+in_ok-erase w ↦
          rw w.flash-is
          (erase_startable page mid _ (g.met.F.Flash.formed c.pages.flash) now_in_range
          (inl
          (record {
            was_on = w.in_ok-erase.ensures.on;
            done = w.in_ok-erase.ensures.done;
          })))
      | else-not-is_blank w ↦ rw w.flash-is (λ before. before)
    ] in
    let at : 0 + page ≡ page = omega arith in
    let same_page = sym (c.pages.invariant.rest page (omega arith)) in
    record {
      blank = blank_more page mid new c.pages.invariant.blank step;
      rest = λ k h.
          let apart : k ≢ page = λ e. omega (arith, e, h) in
          step.others k apart ∙ c.pages.invariant.rest k (omega (arith, h));
      wear = wears_next old.image 0 page page old mid new at within same_page c.pages.invariant.wear
          step.wear;
      steps =
          each_next erase_words erase_below old mid new 0 page (omega arith)
          c.pages.invariant.steps step.steps;
      startable = λ before. stays (c.pages.invariant.startable before);
    }

pub returns-clause-erases : goal.returns-clause-erases
returns-clause-erases g c =
    let old = g.F.Flash.device c.args.flash.now in
    let new = g.F.Flash.device c.pages.flash in
    let pages = ap (λ size. size.pages) c.shape.ensures in
    let same = ap page_count (goes_on_taken _ c.pages.invariant.steps).same_size in
    let formed = g.met.F.Flash.formed c.args.flash.now in
    let new_formed = g.met.F.Flash.formed c.pages.flash in
    let all : c.pages.page ≡ length old.image =
    omega (
      arith,
      c.pages-page-end.ensures.value,
      pages,
      formed.image_length,
      c.pages.auto.page-end,
      c.pages-test.false,
    ) in
    record {
      blank =
          all_blank new c.pages.page
          (omega (
            arith,
            c.pages-page-end.ensures.value,
            pages,
            same,
            new_formed.image_length,
            c.pages-test.false,
          )) c.pages.invariant.blank;
      startable = c.pages.invariant.startable;
      wear = all_wear old.image 0 c.pages.page old new all c.pages.invariant.wear;
    }

pub is_blank-requires : goal.is_blank-requires
is_blank-requires g c =
    omega (
      arith,
      c.pages-page-end.ensures.value,
      ap (λ size. size.pages) c.shape.ensures,
      c.pages-test.true,
      ap page_count (goes_on_taken _ c.pages.invariant.steps).same_size,
    )

pub pages-init : goal.pages-init
pages-init g c = search (rules, completes_none) fits 100 parts 0

pub returns-in_err-erase : goal.returns-in_err-erase
returns-in_err-erase g c =
    let old = g.F.Flash.device c.args.flash.now in
    let mid = g.F.Flash.device c.pages.flash in
    let new = g.F.Flash.device c.erase.new.self in
    let page = c.pages.page in
    let cut = c.in_err-erase.ensures.cut in
    let pages = ap (λ size. size.pages) c.shape.ensures in
    let formed = g.met.F.Flash.formed c.args.flash.now in
    let mid_formed = g.met.F.Flash.formed c.pages.flash in
    let in_range : page < page_count old.size =
    omega (arith, c.pages-page-end.ensures.value, pages, c.pages-test.true) in
    let now_in_range : page < page_count mid.size =
    omega (arith, in_range, ap page_count (goes_on_taken _ c.pages.invariant.steps).same_size) in
    let within : page < length old.image = omega (arith, in_range, formed.image_length) in
    let has_wear : page < length mid.wear = omega (arith, now_in_range, mid_formed.wear_length) in
    let written : is_blank (page_at mid page) ≡ false =
    sym c.is_blank.ensures ∙ c.if-not-is_blank.true in
    let at : 0 + page ≡ page = omega arith in
    let others : IsSameBut page mid new =
    λ k apart. step_keeps_other_pages (Erase page) mid new k
    (record { formed = mid_formed; may = now_in_range; follows = inr cut }) apart in
    let partly : IsOn old → ErasesPartly 0 old.image old new = λ on.
    let now = cut_page_wears page mid new has_wear cut ((goes_on_taken _ c.pages.invariant.steps).same_power ∙ on) in
    let wear =
    wears_to old.image 0 page page old mid new at within
    (sym (c.pages.invariant.rest page (omega arith))) c.pages.invariant.wear written now in
    erases_partly 0 page old.image old mid new wear (omega arith)
    (λ k low high. c.pages.invariant.blank k high)
    (λ k either. elim either
    [ inl none ↦ absurd (omega (arith, none)) | inr high ↦ c.pages.invariant.rest k high ])
    others (erase_partly page mid new cut) in
    record {
      erases = rw (err_from_is_err_and c.from_residual.result c.from_residual.ensures.1).1 (record {
        partly = partly;
        startable =
            λ before. erase_startable page mid new mid_formed now_in_range (inr cut)
            (c.pages.invariant.startable before);
      });
      steps = takes_err _ c.from_residual.ensures.0
          (subst (λ (list : List Step). StopsAmong list old new)
          (in_device (λ n. Erase n ∷ []) old (length old.image) refl
          ∙ erases_in (not_blank_pages old))
          (each_stops erase_words erase_below old mid new 0 page (omega arith)
          c.pages.invariant.steps (length old.image) (omega (arith, within))
          (rw written (stops_one (Erase page) cut))));
    }

pub returns-clause-steps : goal.returns-clause-steps
returns-clause-steps g c =
    let old = g.F.Flash.device c.args.flash.now in
    let new = g.F.Flash.device c.pages.flash in
    let pages = ap (λ size. size.pages) c.shape.ensures in
    let formed = g.met.F.Flash.formed c.args.flash.now in
    let all : length old.image ≡ c.pages.page - 0 =
    omega (
      arith,
      c.pages-page-end.ensures.value,
      pages,
      formed.image_length,
      c.pages.auto.page-end,
      c.pages-test.false,
    ) in
    takes_ok
    (subst (λ (list : List Step). Completes list old new)
    (in_device (λ n. Erase n ∷ []) old (c.pages.page - 0) (sym all)
    ∙ erases_in (not_blank_pages old)) c.pages.invariant.steps)
