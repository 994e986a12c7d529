use Rattle.std.proofs.Common.{◌+◌, ap, ◌∙◌}
use Rattle.ee_pages.specs.Legal.{holds_slot}
use Rattle.ee_pages.proofs.Passes.{word_here}
use Rattle.ee_pages.proofs.find.unused_from.Goals as goal

pub returns-in-None-clause-used : goal.returns-in-None-clause-used
returns-in-None-clause-used g c = λ is.
    let used = c.used_to.ensures in
    let here =
    word_here (g.F.Flash.device c.args.flash.now) c.args.side c.args.page
    (c.first_page.result + c.args.page) (g.met.F.Flash.formed c.args.flash.now)
    c.requires.page_in_range (ap (λ n. n + c.args.page) c.first_page.ensures) in
    record {
      header = c.in-None.ensures.none;
      from = used.from;
      before = λ j from h. ap holds_slot (here j) ∙ used.before j from h;
      unused = λ h. ap holds_slot (here c.used_to.result) ∙ used.end h;
    }
