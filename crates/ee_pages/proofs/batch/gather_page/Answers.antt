use Rattle.std.proofs.Common.{◌≡◌, ◌+◌, ◌-◌, ◌*◌, ◌≤◌, [], take, length, subst, ap, arith, ◌∙◌}
use Rattle.ee_flash.specs.Runs.{AreReadings, words_from}
use Rattle.ee_flash.specs.Size.{Size}
use Rattle.ee_pages.specs.Nearest.{with_each_named}
use Rattle.ee_pages.specs.Sets.{set_of, slots_of}
use Rattle.ee_pages.proofs.Nearest.{few_of, rising_of}
use Rattle.ee_pages.proofs.RunSlots.{run_gathers}
use Rattle.ee_pages.specs.declared.batch_items.TheConstants.{BATCH}
use Rattle.ee_pages.proofs.batch.gather_page.Goals as goal

pub span_of-span-requires-clause-rising : goal.span_of-span-requires-clause-rising
span_of-span-requires-clause-rising g c =
    let device = g.F.Flash.device c.args.flash.now in
    rising_of BATCH c.args.above
    (take (c.args.page * (device.size.words - 4)) (slots_of (set_of c.args.side device)))
    c.args.nearest.now.named c.requires.before

pub note_all-span-requires-clause-rising : goal.note_all-span-requires-clause-rising
note_all-span-requires-clause-rising g c =
    let device = g.F.Flash.device c.args.flash.now in
    rising_of BATCH c.args.above
    (take (c.args.page * (device.size.words - 4) + (c.runs.at - 4))
    (slots_of (set_of c.args.side device))) c.runs.nearest.named c.runs.invariant.named

pub note_all-span-requires-clause-few : goal.note_all-span-requires-clause-few
note_all-span-requires-clause-few g c =
    let device = g.F.Flash.device c.args.flash.now in
    few_of BATCH c.args.above
    (take (c.args.page * (device.size.words - 4) + (c.runs.at - 4))
    (slots_of (set_of c.args.side device))) c.runs.nearest.named c.runs.invariant.named

pub runs-preserved : goal.runs-preserved
runs-preserved g c =
    let device = g.F.Flash.device c.args.flash.now in
    let slots = slots_of (set_of c.args.side device) in
    let row = device.size.words - 4 in
    let here = c.first_page.result + c.args.page in
    let from = c.runs.at - 4 in
    let count = length c.run_from-run.result.now in
    let so_far = c.runs.invariant in
    let run = c.run_from-run.ensures in
    let words : c.words-words.result ≡ device.size.words =
    c.words-words.ensures.value ∙ ap (λ (size : Size). size.words) c.shape.ensures in
    let ends : c.runs.at + count ≤ device.size.words = omega (arith, run.within, words) in
    let at : c.runs.at ≡ 4 + from = omega (arith, so_far.from) in
    let next : c.args.page * row + from + count ≡ c.args.page * row + (c.runs.at + count - 4) =
    omega (arith, so_far.from) in
    record {
      named =
          subst
          (λ n. c.note_all-span.new.nearest.named
          ≡ take BATCH (with_each_named c.args.above (take n slots) [])) next
          (run_gathers device c.args.side c.args.page here (g.met.F.Flash.formed c.args.flash.now)
          c.requires.page_in_range (ap (λ n. n + c.args.page) c.first_page.ensures)
          BATCH c.args.above from count c.runs.nearest.named c.note_all-span.new.nearest.named
          (omega (arith, ends, at)) so_far.named
          (c.note_all-span.ensures.noted (words_from device here (4 + from) count)
          (subst
          (λ n. AreReadings (g.F.Flash.reads c.args.flash.now) (words_from device here n count)
          c.run_from-run.result.now) at run.readings)));
      from = omega (arith, so_far.from);
      within = ends;
      places = c.note_all-span.ensures.places;
    }
