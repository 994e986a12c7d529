use Rattle.std.proofs.Common.{◌≡◌, inl, inr, ℕ, ◌<◌, List, length, get_or, ap, arith, ◌∙◌}
use Rattle.std.proofs.lemmas.Bool.{cases_lt}
use Rattle.ee_flash.specs.Device.{all_ones}
use Rattle.ee_flash.specs.Size.{Size}
use Rattle.ee_pages.proofs.RunWords.{erased_end, erased_on}
use Rattle.ee_pages.proofs.state.blank_to.Goals as goal

-- where not all are, the first that isn't is one of them
one_of : (readings : List ℕ) (erased : ℕ)
    → ¬ ((k : ℕ) → k < length readings → get_or readings k 0 ≡ all_ones)
    → ((k : ℕ) → k < erased → get_or readings k 0 ≡ all_ones) → erased < length readings
one_of readings erased some before = elim (cases_lt erased (length readings)) [
  | inl less ↦ less
  | inr more ↦ absurd (some (λ k h. before k (omega (arith, h, more))))
]

pub returns-then-not-is_erased-clause-before : goal.returns-then-not-is_erased-clause-before
returns-then-not-is_erased-clause-before g c =
    let device = g.F.Flash.device c.args.flash.now in
    let run = c.run_from-run.ensures in
    let erased = c.erased_in.ensures in
    let words : c.words-words.result ≡ device.size.words =
    c.words-words.ensures.value ∙ ap (λ (size : Size). size.words) c.shape.ensures in
    let next = c.runs.invariant.next (omega (arith, words, c.runs-test.true)) in
    erased_on (g.F.Flash.reads c.args.flash.now) (g.met.F.Flash.shown c.args.flash.now) device
    c.args.page c.runs.at c.run_from-run.result.now
    (g.met.F.Flash.formed c.args.flash.now) c.requires.page_in_range
    (omega (arith, run.within, next.1)) run.readings
    c.args.from c.erased_in.result c.runs.invariant.before erased.within erased.before

pub returns-then-not-is_erased-clause-end : goal.returns-then-not-is_erased-clause-end
returns-then-not-is_erased-clause-end g c = λ h.
    let device = g.F.Flash.device c.args.flash.now in
    let run = c.run_from-run.ensures in
    let erased = c.erased_in.ensures in
    let words : c.words-words.result ≡ device.size.words =
    c.words-words.ensures.value ∙ ap (λ (size : Size). size.words) c.shape.ensures in
    let next = c.runs.invariant.next (omega (arith, words, c.runs-test.true)) in
    let inside =
    one_of c.run_from-run.result.now c.erased_in.result
    (c.is_erased.ensures.no c.if-not-is_erased.true) erased.before in
    erased_end (g.F.Flash.reads c.args.flash.now) (g.met.F.Flash.shown c.args.flash.now) device
    c.args.page c.runs.at c.run_from-run.result.now
    (g.met.F.Flash.formed c.args.flash.now) c.requires.page_in_range
    (omega (arith, run.within, next.1)) run.readings
    c.erased_in.result inside (erased.end inside)

pub runs-preserved : goal.runs-preserved
runs-preserved g c =
    let device = g.F.Flash.device c.args.flash.now in
    let run = c.run_from-run.ensures in
    let words : c.words-words.result ≡ device.size.words =
    c.words-words.ensures.value ∙ ap (λ (size : Size). size.words) c.shape.ensures in
    let next = c.runs.invariant.next (omega (arith, words, c.runs-test.true)) in
    record {
      from = omega (arith, c.runs.invariant.from);
      within = omega (arith, run.within, next.1);
      next = λ h. (omega (arith, words, h), omega (arith, words));
      before =
          erased_on (g.F.Flash.reads c.args.flash.now) (g.met.F.Flash.shown c.args.flash.now) device
          c.args.page c.runs.at c.run_from-run.result.now
          (g.met.F.Flash.formed c.args.flash.now) c.requires.page_in_range
          (omega (arith, run.within, next.1)) run.readings
          c.args.from (length c.run_from-run.result.now) c.runs.invariant.before (omega arith)
          (c.is_erased.ensures.yes c.if-not-is_erased.false);
    }
