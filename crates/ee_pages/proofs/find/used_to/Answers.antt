use Rattle.std.proofs.Common.{◌≡◌, ◌+◌, ◌<◌, length, ap, arith, sym, ◌∙◌}
use Rattle.ee_flash.specs.Runs.{words_from}
use Rattle.ee_flash.specs.Size.{Size}
use Rattle.ee_pages.specs.Page.{is_torn}
use Rattle.ee_pages.proofs.RunWords.{slots_end, slots_on, torn_on}
use Rattle.ee_pages.proofs.find.used_to.Goals as goal

pub returns-then-not-is_torn-clause-before : goal.returns-then-not-is_torn-clause-before
returns-then-not-is_torn-clause-before g c =
    let device = g.F.Flash.device c.args.flash.now in
    let run = c.run_from-run.ensures in
    let slots = c.slots_in-slots.ensures in
    let words : c.words-words.result ≡ device.size.words =
    c.words-words.ensures.value ∙ ap (λ (size : Size). size.words) c.shape.ensures in
    slots_on device c.args.page c.runs.at 4 c.slots_in-slots.result
    (length c.run_from-run.result.now) c.runs.invariant.before slots.within
    (slots.before (words_from device c.args.page c.runs.at (length c.run_from-run.result.now))
    run.readings)

pub returns-then-not-is_torn-clause-end : goal.returns-then-not-is_torn-clause-end
returns-then-not-is_torn-clause-end g c = λ h.
    let device = g.F.Flash.device c.args.flash.now in
    let run = c.run_from-run.ensures in
    let slots = c.slots_in-slots.ensures in
    let words : c.words-words.result ≡ device.size.words =
    c.words-words.ensures.value ∙ ap (λ (size : Size). size.words) c.shape.ensures in
    let inside : c.slots_in-slots.result < length c.run_from-run.result.now =
    omega (arith, c.if-not-all.true, slots.within) in
    slots_end device c.args.page c.runs.at c.slots_in-slots.result
    (length c.run_from-run.result.now) inside
    (slots.end (words_from device c.args.page c.runs.at (length c.run_from-run.result.now))
    run.readings inside)
    (sym (c.is_torn.ensures ∙ ap is_torn c.word.ensures.value) ∙ c.if-not-is_torn.true)

pub runs-preserved-then-not-all : goal.runs-preserved-then-not-all
runs-preserved-then-not-all g c =
    let device = g.F.Flash.device c.args.flash.now in
    let run = c.run_from-run.ensures in
    let slots = c.slots_in-slots.ensures in
    let words : c.words-words.result ≡ device.size.words =
    c.words-words.ensures.value ∙ ap (λ (size : Size). size.words) c.shape.ensures in
    let inside : c.slots_in-slots.result < length c.run_from-run.result.now =
    omega (arith, c.if-not-all.true, slots.within) in
    let before =
    slots_on device c.args.page c.runs.at 4 c.slots_in-slots.result
    (length c.run_from-run.result.now) c.runs.invariant.before slots.within
    (slots.before (words_from device c.args.page c.runs.at (length c.run_from-run.result.now))
    run.readings) in
    record {
      from = omega (arith, c.runs.invariant.from);
      within = omega (arith, inside, run.within, words);
      before =
          torn_on device c.args.page 4 (c.runs.at + c.slots_in-slots.result) before
          (sym (c.is_torn.ensures ∙ ap is_torn c.word.ensures.value) ∙ c.if-not-is_torn.false);
    }

pub runs-preserved : goal.runs-preserved
runs-preserved g c =
    let device = g.F.Flash.device c.args.flash.now in
    let run = c.run_from-run.ensures in
    let slots = c.slots_in-slots.ensures in
    let words : c.words-words.result ≡ device.size.words =
    c.words-words.ensures.value ∙ ap (λ (size : Size). size.words) c.shape.ensures in
    record {
      from = omega (arith, c.runs.invariant.from);
      within = omega (arith, slots.within, run.within, words);
      before =
          slots_on device c.args.page c.runs.at 4 c.slots_in-slots.result
          (length c.run_from-run.result.now) c.runs.invariant.before slots.within
          (slots.before (words_from device c.args.page c.runs.at (length c.run_from-run.result.now))
          run.readings);
    }
