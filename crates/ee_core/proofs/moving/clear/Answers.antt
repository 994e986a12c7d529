use Rattle.std.proofs.Common.{◌≡◌, ap, arith, false, refl, sym, ◌∙◌}
use Rattle.std.proofs.lemmas.Result.{err_from_is_err_and}
use Rattle.ee_flash.specs.Device.{page_at}
use Rattle.ee_flash.specs.Size.{Size}
use Rattle.ee_pages.specs.Page.{is_blank}
use Rattle.ee_pages.specs.Sets.{first_page, other, set_of}
use Rattle.ee_core.proofs.ClearedSets.{all_cleared, cleared_cut, cleared_next, cleared_steps, cleared_stops}
use Rattle.ee_core.proofs.Taken.{goes_on_taken, each_start, erase_words, takes_err, takes_ok}
use Rattle.ee_core.proofs.ErasedPages.{none_wears, written_wears}
use Rattle.ee_core.proofs.FormatFacts.{blank_already}
use Rattle.ee_pages.proofs.Public.{keeps_side_both, keeps_side_same}
use Rattle.ee_core.proofs.SetPages.{page_of_device, page_reached}
use Rattle.ee_core.proofs.moving.clear.Goals.{then-not-is_blank+in_ok-erase_other, else-not-is_blank}
use Rattle.ee_core.proofs.moving.clear.Goals as goal

pub pages-init : goal.pages-init
pages-init g c =
    let device = g.F.Flash.device c.args.flash.now in
    record {
      keeps = keeps_side_same device c.args.layout.now.side (g.met.F.Flash.formed c.args.flash.now);
      blank = λ page from below. absurd (omega (arith, from, below));
      rest = λ page either. refl;
      wear = none_wears (set_of (other c.args.layout.now.side) device) _ _ device (omega arith);
      steps = each_start erase_words device c.first_page-first.result;
    }

pub pages-preserved : goal.pages-preserved
pages-preserved g c =
    let old = g.F.Flash.device c.args.flash.now in
    let side = c.args.layout.now.side in
    let mid = g.F.Flash.device c.pages.flash in
    let page = c.pages.page in
    let so_far = c.pages.invariant in
    let first : c.first_page-first.result ≡ first_page old.size (other side) =
    c.first_page-first.ensures ∙ ap (first_page old.size) c.other.ensures in
    let pages : c.pages-2.result ≡ old.size.pages =
    c.pages-2.ensures.value ∙ ap (λ (size : Size). size.pages) c.shape.ensures in
    let formed = g.met.F.Flash.formed c.args.flash.now in
    elim c.if-not-is_blank.branch [
      | then-not-is_blank+in_ok-erase_other w ↦
          let new = g.F.Flash.device w.erase_other.new.flash in
          let left = w.in_ok-erase_other.ensures.erases in
          let wear =
          written_wears page (page_at mid page) mid new
          (sym c.is_blank.ensures ∙ w.if-not-is_blank.true) left.wear in
          rw w.flash-is
          (cleared_next side old _ _ formed first pages mid page c.pages.auto.page
          c.pages-test.true so_far new left.keeps
          (record {
            others = left.others;
            blank = left.blank;
            wear = wear;
            steps =
                rw (sym c.is_blank.ensures ∙ w.if-not-is_blank.true)
                w.in_ok-erase_other.ensures.steps.done;
          }))
      | else-not-is_blank w ↦
          let keeps = keeps_side_same mid side so_far.keeps.formed in
          rw w.flash-is
          (cleared_next side old _ _ formed first pages mid page c.pages.auto.page
          c.pages-test.true so_far mid keeps
          (blank_already mid page (sym c.is_blank.ensures ∙ w.if-not-is_blank.false)))
    ]

pub is_blank-requires : goal.is_blank-requires
is_blank-requires g c =
    let old = g.F.Flash.device c.args.flash.now in
    let side = c.args.layout.now.side in
    let first : c.first_page-first.result ≡ first_page old.size (other side) =
    c.first_page-first.ensures ∙ ap (first_page old.size) c.other.ensures in
    let pages : c.pages-2.result ≡ old.size.pages =
    c.pages-2.ensures.value ∙ ap (λ (size : Size). size.pages) c.shape.ensures in
    page_of_device _ (other side) c.pages.page
    (page_reached (other side) old (g.F.Flash.device c.pages.flash) _ _ c.pages.page first pages
    c.pages.invariant.keeps.same_size c.pages.auto.page c.pages-test.true)

pub erase_other-requires : goal.erase_other-requires
erase_other-requires g c =
    let old = g.F.Flash.device c.args.flash.now in
    let side = c.args.layout.now.side in
    let first : c.first_page-first.result ≡ first_page old.size (other side) =
    c.first_page-first.ensures ∙ ap (first_page old.size) c.other.ensures in
    let pages : c.pages-2.result ≡ old.size.pages =
    c.pages-2.ensures.value ∙ ap (λ (size : Size). size.pages) c.shape.ensures in
    record {
      page = page_reached (other side) old (g.F.Flash.device c.pages.flash) _ _ c.pages.page first
          pages c.pages.invariant.keeps.same_size c.pages.auto.page c.pages-test.true;
      not_blank = sym c.is_blank.ensures ∙ c.if-not-is_blank.true;
    }

pub returns : goal.returns
returns g c =
    let old = g.F.Flash.device c.args.flash.now in
    let side = c.args.layout.now.side in
    let new = g.F.Flash.device c.pages.flash in
    let left = c.pages.invariant in
    let first : c.first_page-first.result ≡ first_page old.size (other side) =
    c.first_page-first.ensures ∙ ap (first_page old.size) c.other.ensures in
    let pages : c.pages-2.result ≡ old.size.pages =
    c.pages-2.ensures.value ∙ ap (λ (size : Size). size.pages) c.shape.ensures in
    let all =
    all_cleared side old _ _ (g.met.F.Flash.formed c.args.flash.now) first pages new
    c.pages.page (g.met.F.Flash.formed c.pages.flash)
    (omega (arith, c.pages-test.false, c.pages.auto.page-end)) left in
    record {
      clears = record { keeps = left.keeps; blank = all.0; wear = all.1 };
      steps = takes_ok
          (cleared_steps side old _ _ (g.met.F.Flash.formed c.args.flash.now) first pages new
          c.pages.page (omega (arith, c.pages-test.false, c.pages.auto.page-end)) left);
    }

pub returns-in_err-erase_other : goal.returns-in_err-erase_other
returns-in_err-erase_other g c =
    let old = g.F.Flash.device c.args.flash.now in
    let side = c.args.layout.now.side in
    let mid = g.F.Flash.device c.pages.flash in
    let new = g.F.Flash.device c.erase_other.new.flash in
    let page = c.pages.page in
    let first : c.first_page-first.result ≡ first_page old.size (other side) =
    c.first_page-first.ensures ∙ ap (first_page old.size) c.other.ensures in
    let pages : c.pages-2.result ≡ old.size.pages =
    c.pages-2.ensures.value ∙ ap (λ (size : Size). size.pages) c.shape.ensures in
    let written : is_blank (page_at mid page) ≡ false =
    sym c.is_blank.ensures ∙ c.if-not-is_blank.true in
    let cut = c.in_err-erase_other.ensures.erases in
    record {
      clears = rw (err_from_is_err_and c.from_residual.result c.from_residual.ensures.1).1 (record {
        keeps = keeps_side_both old mid new side c.pages.invariant.keeps cut.keeps;
        partly =
            λ on. cleared_cut side old _ _ (g.met.F.Flash.formed c.args.flash.now) first pages mid
            page c.pages.auto.page c.pages-test.true c.pages.invariant new written
            (cut.wear ((goes_on_taken _ c.pages.invariant.steps).same_power ∙ on)) cut.others cut.partly;
      });
      steps = takes_err _ c.from_residual.ensures.0
          (cleared_stops side old _ _ (g.met.F.Flash.formed c.args.flash.now) first pages mid page
          c.pages.auto.page c.pages-test.true c.pages.invariant new written
          c.in_err-erase_other.ensures.steps.cut);
    }
