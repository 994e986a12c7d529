use Rattle.std.proofs.Common.{arith, ℕ, ◌≡◌, ◌+◌, [], ◌∷◌, ◌++◌, rules, ap, sym, inl}
use Rattle.std.proofs.lemmas.Grind.{common_steps}
use Rattle.ee_image.proofs.Taken.{one_page_more}
use Rattle.ee_image.specs.Fault.{NoPage}
use Rattle.ee_image.specs.Reading.{IsNextPage}
use Rattle.ee_image.proofs.reading.read_pages.Goals as goal

pub loop-page-preserved : goal.loop-page-preserved
loop-page-preserved g c =
    let pushed : c.push.new.self.items ≡ c.loop-page.wear.items ++ c.in-Ok.count ∷ [] =
    search rules in
    let next : IsNextPage c.args.shape.words c.in-Ok.count c.loop-page.rest.now c.in-Ok.more.now
    c.loop-page.cells c.next_page.new.cells =
    search rules in
    one_page_more c.args.shape.words c.loop-page.page c.in-Ok.count c.args.text.now
    c.loop-page.rest.now c.in-Ok.more.now c.loop-page.cells c.next_page.new.cells
    c.loop-page.wear.items
    c.push.new.self.items c.loop-page.invariant next pushed

pub returns-in-Err-Bad-clause-fault : goal.returns-in-Err-Bad-clause-fault
returns-in-Err-Bad-clause-fault g c =
    let read = c.loop-page.invariant in
    let none : NoPage c.args.shape.words c.loop-page.rest.now = search rules in
    record {
      pages = read.pages;
      wears = c.loop-page.wear.items;
      rest = c.loop-page.rest.now;
      proper = read.proper;
      text_is = read.text_is;
      stops = inl (omega (arith, read.count_is, c.pages-pages.ensures.value), none);
      number = ap (λ (n : ℕ). n + 2) (sym read.count_is);
    }

pub returns-clause-found : goal.returns-clause-found
returns-clause-found g c = grind (arith, common_steps)
