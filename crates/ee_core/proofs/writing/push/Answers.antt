use Rattle.ee_core.proofs.Words.{err_from_is_err_and, rules}
use Rattle.ee_core.proofs.Sets.{page_in_range, place_in_range}
use Rattle.ee_core.proofs.Appending.{pushed, pushed_partly, slot_erased}
use Rattle.ee_core.proofs.SetPages.{page_in_device}
use Rattle.ee_core.proofs.Taken.{completes_one, stops_one, takes_err, takes_ok}
use Rattle.ee_core.proofs.writing.push.Goals as goal

pub program-requires-clause-page_in_range : goal.program-requires-clause-page_in_range
program-requires-clause-page_in_range g c = search (rules, page_in_device, page_in_range)

pub program-requires-clause-place_in_range : goal.program-requires-clause-place_in_range
program-requires-clause-place_in_range g c = search (rules, place_in_range)

pub program-requires-clause-erased : goal.program-requires-clause-erased
program-requires-clause-erased g c =
    let layout = c.args.layout.now in
    let found = c.requires.layout in
    rw (c.requires.page, c.requires.place)
    (slot_erased layout.side layout.generation layout.fill (g.F.Flash.device c.args.flash.now)
    found.live found.fill c.requires.free)

pub returns-in_err-program : goal.returns-in_err-program
returns-in_err-program g c =
    let old = g.F.Flash.device c.args.flash.now in
    let word = c.word.ensures in
    let cut = rw (c.requires.page, c.requires.place, word.number) at c.in_err-program.ensures.cut in
    record {
      pushes = rw (err_from_is_err_and c.from_residual.result c.from_residual.ensures.1).1
          (pushed_partly old (g.F.Flash.device c.program.new.self) c.args.layout.now
          c.requires.layout c.requires.free c.args.change (rw word.number at word.spells)
          (rw word.number at word.below_all_ones) cut);
      steps = takes_err _ c.from_residual.ensures.0 (stops_one _ cut);
    }

pub returns : goal.returns
returns g c =
    let old = g.F.Flash.device c.args.flash.now in
    let word = c.word.ensures in
    let on = c.in_ok-program.ensures.on in
    let done =
    rw (c.requires.page, c.requires.place, word.number) at c.in_ok-program.ensures.done in
    record {
      pushes =
          pushed old (g.F.Flash.device c.program.new.self) c.args.layout.now c.requires.layout
          c.requires.free c.args.change (rw word.number at word.spells)
          (rw word.number at word.below_all_ones) on done;
      steps = takes_ok (completes_one _ old on done);
    }
