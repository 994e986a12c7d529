use Rattle.std.proofs.Common.{◌+◌, ◌<◌, ◌≤◌, ap, arith}
use Rattle.ee_flash.specs.Size.{Size}
use Rattle.ee_pages.proofs.Passes.{all_allowed, none_allowed, used_then}
use Rattle.ee_pages.proofs.find.used_of_page.Goals as goal

pub returns-then-written-words-clause-foreign : goal.returns-then-written-words-clause-foreign
returns-then-written-words-clause-foreign g c =
    let device = g.F.Flash.device c.args.flash.now in
    let from = c.in_ok-from.ensures in
    let blank = c.blank_to-written.ensures in
    let short : c.blank_to-written.result < device.size.words =
    omega (
      arith,
      c.if-written-words.true,
      c.words.ensures.value,
      ap (λ (size : Size). size.words) c.shape.ensures,
    ) in
    record {
      place_in_range = short;
      foreign =
          none_allowed device c.args.side c.args.page (c.first_page.result + c.args.page)
          (g.met.F.Flash.formed c.args.flash.now) c.requires.page_in_range
          (ap (λ n. n + c.args.page) c.first_page.ensures)
          c.args.full c.requires.full c.args.generation c.in_ok-from.from
          c.blank_to-written.result from.used from.none from.within blank.from blank.before short
          (blank.end short);
      before =
          all_allowed device c.args.side c.args.page (c.first_page.result + c.args.page)
          (g.met.F.Flash.formed c.args.flash.now) c.requires.page_in_range
          (ap (λ n. n + c.args.page) c.first_page.ensures)
          c.args.full c.requires.full c.args.generation c.in_ok-from.from
          c.blank_to-written.result from.used from.none from.within blank.from blank.before;
    }

pub returns-clause-used : goal.returns-clause-used
returns-clause-used g c =
    let device = g.F.Flash.device c.args.flash.now in
    let from = c.in_ok-from.ensures in
    let blank = c.blank_to-written.ensures in
    let long : device.size.words ≤ c.blank_to-written.result =
    omega (
      arith,
      c.if-written-words.false,
      c.words.ensures.value,
      ap (λ (size : Size). size.words) c.shape.ensures,
    ) in
    rw c.saturating_sub.ensures (used_then device c.args.side c.args.page
    (c.first_page.result + c.args.page) (g.met.F.Flash.formed c.args.flash.now)
    c.requires.page_in_range (ap (λ n. n + c.args.page) c.first_page.ensures)
    c.args.full c.requires.full c.args.generation c.in_ok-from.from
    c.blank_to-written.result from.used from.none from.within blank.from blank.before long)

pub returns-clause-allowed : goal.returns-clause-allowed
returns-clause-allowed g c = λ j h.
    let device = g.F.Flash.device c.args.flash.now in
    let from = c.in_ok-from.ensures in
    let blank = c.blank_to-written.ensures in
    let long : device.size.words ≤ c.blank_to-written.result =
    omega (
      arith,
      c.if-written-words.false,
      c.words.ensures.value,
      ap (λ (size : Size). size.words) c.shape.ensures,
    ) in
    all_allowed device c.args.side c.args.page (c.first_page.result + c.args.page)
    (g.met.F.Flash.formed c.args.flash.now) c.requires.page_in_range
    (ap (λ n. n + c.args.page) c.first_page.ensures)
    c.args.full c.requires.full c.args.generation c.in_ok-from.from
    c.blank_to-written.result from.used from.none from.within blank.from blank.before j
    (omega (arith, h, long))
