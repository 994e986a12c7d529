use Rattle.std.proofs.Common.{◌≡◌, ◌+◌, ◌-◌, ◌*◌, ◌≤◌, ap, arith, drop, length, subst, sym, take}
use Rattle.std.proofs.lemmas.List.{length-take-le}
use Rattle.ee_flash.specs.Runs.{AreReadings, words_from}
use Rattle.ee_pages.specs.Meaning.{later_of, latest_in}
use Rattle.ee_pages.specs.Sets.{set_of, slots_of}
use Rattle.ee_pages.specs.Spans.{TellsBefore}
use Rattle.ee_pages.proofs.RunSlots.{whole_run}
use Rattle.ee_pages.proofs.SpanTells.{behind_all, in_two, length_of_row, run_before, tells_all, tells_both, tells_nothing}
use Rattle.ee_pages.proofs.span.tell_page.Goals as goal

pub runs-init : goal.runs-init
runs-init g c =
    let device = g.F.Flash.device c.args.flash.now in
    let slots = slots_of (set_of c.args.side device) in
    let before = c.args.page * (device.size.words - 4) in
    let row = take c.args.used (drop before slots) in
    let formed = g.met.F.Flash.formed c.args.flash.now in
    let long : length row ≡ c.args.used =
    length_of_row device c.args.side c.args.page c.args.used formed c.requires.page_in_range
    c.requires.used_in_range in
    record {
      within = omega arith;
      tells =
          tells_nothing (latest_in (drop c.args.used row)) c.args.span.now
          (λ address. behind_all row c.args.used address (sym long));
      said = c.requires.said;
      few = c.requires.within;
    }

pub runs-preserved : goal.runs-preserved
runs-preserved g c =
    let device = g.F.Flash.device c.args.flash.now in
    let slots = slots_of (set_of c.args.side device) in
    let here = c.first_page.result + c.args.page in
    let before = c.args.page * (device.size.words - 4) in
    let row = take c.args.used (drop before slots) in
    let formed = g.met.F.Flash.formed c.args.flash.now in
    let at = ap (λ n. n + c.args.page) c.first_page.ensures in
    let reads = g.F.Flash.reads c.args.flash.now in
    let readings = c.run-run.result.now in
    let count = c.min-count.result in
    let from = c.runs.left - count in
    let few : count ≤ c.runs.left = omega (arith, c.min-count.ensures) in
    let all : length (take count c.runs.room) ≡ count =
    length-take-le count c.runs.room
    (omega (arith, c.min-count.ensures, c.min-count.array_long)) in
    let run =
    whole_run reads device c.args.side c.args.page here formed c.requires.page_in_range at from
    count (length (take count c.runs.room)) readings
    (omega (arith, few, c.runs.invariant.within, c.requires.used_in_range)) all
    c.run-run.ensures in
    let end : from + count ≡ c.runs.left = omega (arith, few) in
    let words = words_from device here (4 + from) count in
    let are =
    subst (λ n. AreReadings reads (words_from device here (4 + from) n) readings) run.0 run.1 in
    record {
      within = omega (arith, c.runs.invariant.within);
      tells =
          tells_both (latest_in words) (latest_in (drop c.runs.left row))
          (latest_in (drop from row)) c.args.span.now c.runs.span c.tell_run.new.span
          (λ address. subst
          (λ n. latest_in (drop from row) address
          ≡ later_of (latest_in words address) (latest_in (drop n row) address)) end
          (run_before device c.args.side c.args.page here formed c.requires.page_in_range at from
          count c.args.used address
          (omega (arith, end, c.runs.invariant.within)) c.requires.used_in_range))
          c.runs.invariant.tells (c.tell_run.ensures words are);
      said = c.said_from-said_to.ensures.said;
      few = c.said_from-said_to.ensures.within;
    }

pub returns-after-runs-clause-tells : goal.returns-after-runs-clause-tells
returns-after-runs-clause-tells g c =
    let device = g.F.Flash.device c.args.flash.now in
    let before = c.args.page * (device.size.words - 4) in
    let row = take c.args.used (drop before (slots_of (set_of c.args.side device))) in
    let none : c.runs.left ≡ 0 = omega (arith, c.runs-test.false) in
    subst (λ n. TellsBefore (latest_in (drop n row)) c.args.span.now c.runs.span) none
    c.runs.invariant.tells

pub returns-else-said_to-count-clause-tells : goal.returns-else-said_to-count-clause-tells
returns-else-said_to-count-clause-tells g c =
    let device = g.F.Flash.device c.args.flash.now in
    let before = c.args.page * (device.size.words - 4) in
    let row = take c.args.used (drop before (slots_of (set_of c.args.side device))) in
    let left = c.runs.left in
    tells_all (latest_in (take (left - 0) (drop 0 row))) (latest_in (drop left row)) (latest_in row)
    c.args.span.now c.runs.span (λ address. in_two 0 left row address (omega arith))
    (λ at low. c.runs.invariant.said at
    (omega (arith, low, c.count.ensures, c.if-said_to-count.false)))
    c.runs.invariant.tells
