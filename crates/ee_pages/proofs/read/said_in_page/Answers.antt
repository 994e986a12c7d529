use Rattle.std.proofs.Common.{◌≡◌, ◌+◌, ◌-◌, ◌*◌, ◌≤◌, ◌<◌, ap, arith, drop, get_or, length, None, subst, sym, take, ◌∙◌}
use Rattle.std.proofs.lemmas.List.{length-take-le}
use Rattle.ee_flash.specs.declared.word.Word.TheVariants.{Erased}
use Rattle.ee_pages.specs.Meaning.{latest_in, says}
use Rattle.ee_pages.specs.Sets.{set_of, slots_of}
use Rattle.ee_pages.proofs.LastSaid.{newest, one_lower}
use Rattle.ee_pages.proofs.Readings.{said_of}
use Rattle.ee_pages.proofs.RunSlots.{run_silent, slot_reads, whole_run}
use Rattle.ee_pages.proofs.Slots.{row_within}
use Rattle.ee_pages.proofs.read.said_in_page.Goals as goal

pub returns-in-Some : goal.returns-in-Some
returns-in-Some g c =
    let device = g.F.Flash.device c.args.flash.now in
    let slots = slots_of (set_of c.args.side device) in
    let here = c.first_page.result + c.args.page in
    let before = c.args.page * (device.size.words - 4) in
    let row = take c.args.used (drop before slots) in
    let formed = g.met.F.Flash.formed c.args.flash.now in
    let at = ap (λ n. n + c.args.page) c.first_page.ensures in
    let reads = g.F.Flash.reads c.args.flash.now in
    let readings = c.run-run.result.now in
    let ends = c.ending_in-ends.result in
    let found = c.ending_in-ends.ensures in
    let count = c.min-count.result in
    let from = c.runs.left - count in
    let few : count ≤ c.runs.left = omega (arith, c.min-count.ensures) in
    let all : length (take count c.runs.room) ≡ count =
    length-take-le count c.runs.room
    (omega (arith, c.min-count.ensures, c.min-count.array_long)) in
    let run =
    whole_run reads device c.args.side c.args.page here formed c.requires.page_in_range at from
    count (length (take count c.runs.room)) readings
    (omega (arith, few, c.runs.invariant.within, c.requires.used_in_range)) all
    c.run-run.ensures in
    let end : from + length readings ≡ c.runs.left = omega (arith, few, run.0) in
    let low : from + length readings ≤ c.args.used = omega (arith, end, c.runs.invariant.within) in
    let silent =
    run_silent reads device c.args.side c.args.page here formed c.requires.page_in_range at
    (g.met.F.Flash.shown c.args.flash.now) from ends c.args.used c.args.address readings low
    c.requires.used_in_range run.1
    found.within found.behind
    (subst (λ n. latest_in (drop n row) c.args.address ≡ None) (sym end)
    c.runs.invariant.silent) in
    let place : ends - 1 < length readings = omega (arith, c.if-ends-gt0.true, found.within) in
    let last : from + ends - 1 ≡ from + (ends - 1) = omega (arith, c.if-ends-gt0.true) in
    let within =
    row_within c.args.side device c.args.page c.args.used formed c.requires.page_in_range
    c.requires.used_in_range in
    let word = get_or slots (before + (from + (ends - 1))) Erased in
    let reads_it =
    slot_reads reads device c.args.side c.args.page here formed c.requires.page_in_range at from
    (ends - 1) readings (omega (arith, low, c.requires.used_in_range)) run.1 place in
    let says_it = ap (λ n. says (get_or slots (before + n) Erased) c.args.address) last
    ∙ said_of word (get_or readings (ends - 1) 0) c.args.address c.said_by.result
    (found.proper c.if-ends-gt0.true) (found.ends c.if-ends-gt0.true)
    (c.said_by.ensures word reads_it) in
    sym
    (newest before c.args.used slots c.args.address within (from + ends) c.in-Some.said
    (omega (arith, c.if-ends-gt0.true)) (omega (arith, low, found.within)) silent
    (says_it ∙ c.in-Some.is))

pub runs-preserved-then-ends-gt0 : goal.runs-preserved-then-ends-gt0
runs-preserved-then-ends-gt0 g c =
    let device = g.F.Flash.device c.args.flash.now in
    let slots = slots_of (set_of c.args.side device) in
    let here = c.first_page.result + c.args.page in
    let before = c.args.page * (device.size.words - 4) in
    let row = take c.args.used (drop before slots) in
    let formed = g.met.F.Flash.formed c.args.flash.now in
    let at = ap (λ n. n + c.args.page) c.first_page.ensures in
    let reads = g.F.Flash.reads c.args.flash.now in
    let readings = c.run-run.result.now in
    let ends = c.ending_in-ends.result in
    let found = c.ending_in-ends.ensures in
    let count = c.min-count.result in
    let from = c.runs.left - count in
    let few : count ≤ c.runs.left = omega (arith, c.min-count.ensures) in
    let all : length (take count c.runs.room) ≡ count =
    length-take-le count c.runs.room
    (omega (arith, c.min-count.ensures, c.min-count.array_long)) in
    let run =
    whole_run reads device c.args.side c.args.page here formed c.requires.page_in_range at from
    count (length (take count c.runs.room)) readings
    (omega (arith, few, c.runs.invariant.within, c.requires.used_in_range)) all
    c.run-run.ensures in
    let end : from + length readings ≡ c.runs.left = omega (arith, few, run.0) in
    let low : from + length readings ≤ c.args.used = omega (arith, end, c.runs.invariant.within) in
    let silent =
    run_silent reads device c.args.side c.args.page here formed c.requires.page_in_range at
    (g.met.F.Flash.shown c.args.flash.now) from ends c.args.used c.args.address readings low
    c.requires.used_in_range run.1
    found.within found.behind
    (subst (λ n. latest_in (drop n row) c.args.address ≡ None) (sym end)
    c.runs.invariant.silent) in
    let place : ends - 1 < length readings = omega (arith, c.if-ends-gt0.true, found.within) in
    let last : from + ends - 1 ≡ from + (ends - 1) = omega (arith, c.if-ends-gt0.true) in
    let within =
    row_within c.args.side device c.args.page c.args.used formed c.requires.page_in_range
    c.requires.used_in_range in
    let word = get_or slots (before + (from + (ends - 1))) Erased in
    let reads_it =
    slot_reads reads device c.args.side c.args.page here formed c.requires.page_in_range at from
    (ends - 1) readings (omega (arith, low, c.requires.used_in_range)) run.1 place in
    let says_it = ap (λ n. says (get_or slots (before + n) Erased) c.args.address) last
    ∙ said_of word (get_or readings (ends - 1) 0) c.args.address c.said_by.result
    (found.proper c.if-ends-gt0.true) (found.ends c.if-ends-gt0.true)
    (c.said_by.ensures word reads_it) in
    record {
      within = omega (arith, low, place);
      silent = subst (λ n. latest_in (drop n row) c.args.address ≡ None) last
          (one_lower before c.args.used slots c.args.address within (from + ends)
          (omega (arith, c.if-ends-gt0.true)) (omega (arith, low, found.within)) silent
          ∙ says_it ∙ c.in_default.is);
    }

pub runs-preserved : goal.runs-preserved
runs-preserved g c =
    let device = g.F.Flash.device c.args.flash.now in
    let slots = slots_of (set_of c.args.side device) in
    let here = c.first_page.result + c.args.page in
    let before = c.args.page * (device.size.words - 4) in
    let row = take c.args.used (drop before slots) in
    let formed = g.met.F.Flash.formed c.args.flash.now in
    let at = ap (λ n. n + c.args.page) c.first_page.ensures in
    let reads = g.F.Flash.reads c.args.flash.now in
    let readings = c.run-run.result.now in
    let ends = c.ending_in-ends.result in
    let found = c.ending_in-ends.ensures in
    let count = c.min-count.result in
    let from = c.runs.left - count in
    let few : count ≤ c.runs.left = omega (arith, c.min-count.ensures) in
    let all : length (take count c.runs.room) ≡ count =
    length-take-le count c.runs.room
    (omega (arith, c.min-count.ensures, c.min-count.array_long)) in
    let run =
    whole_run reads device c.args.side c.args.page here formed c.requires.page_in_range at from
    count (length (take count c.runs.room)) readings
    (omega (arith, few, c.runs.invariant.within, c.requires.used_in_range)) all
    c.run-run.ensures in
    let end : from + length readings ≡ c.runs.left = omega (arith, few, run.0) in
    let low : from + length readings ≤ c.args.used = omega (arith, end, c.runs.invariant.within) in
    let silent =
    run_silent reads device c.args.side c.args.page here formed c.requires.page_in_range at
    (g.met.F.Flash.shown c.args.flash.now) from ends c.args.used c.args.address readings low
    c.requires.used_in_range run.1
    found.within found.behind
    (subst (λ n. latest_in (drop n row) c.args.address ≡ None) (sym end)
    c.runs.invariant.silent) in
    let none : from + ends ≡ from = omega (arith, c.if-ends-gt0.false) in
    record {
      within = omega (arith, low);
      silent = subst (λ n. latest_in (drop n row) c.args.address ≡ None) none silent;
    }
