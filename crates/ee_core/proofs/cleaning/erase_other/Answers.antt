use Rattle.ee_core.proofs.Words.{err_from_is_err_and}
use Rattle.ee_core.proofs.Sets.{Erase}
use Rattle.ee_core.proofs.Erasing.{page_erased, page_erased_partly}
use Rattle.ee_core.proofs.Taken.{completes_one, stops_one, takes_err, takes_ok}
use Rattle.ee_core.proofs.cleaning.erase_other.Goals as goal

pub returns-in_err-erase : goal.returns-in_err-erase
returns-in_err-erase g c =
    let old = g.F.Flash.device c.args.flash.now in
    let cut = c.in_err-erase.ensures.cut in
    record {
      erases = rw (err_from_is_err_and c.from_residual.result c.from_residual.ensures.1).1
          (page_erased_partly c.args.page old (g.F.Flash.device c.erase.new.self) c.args.side
          (g.met.F.Flash.formed c.args.flash.now) c.requires.page c.requires.not_blank cut);
      steps = takes_err _ c.from_residual.ensures.0 (stops_one (Erase c.args.page) cut);
    }

pub returns : goal.returns
returns g c =
    let old = g.F.Flash.device c.args.flash.now in
    let on = c.in_ok-erase.ensures.on in
    let done = c.in_ok-erase.ensures.done in
    record {
      erases =
          page_erased c.args.page old (g.F.Flash.device c.erase.new.self) c.args.side
          (g.met.F.Flash.formed c.args.flash.now) c.requires.page c.requires.not_blank on done;
      steps = takes_ok (completes_one (Erase c.args.page) old on done);
    }
