use Rattle.std.proofs.Common.{ap, arith, rules, subst, sym, ◌∙◌, ◌≡◌, ◌≤◌, ◌<◌, ◌-◌, ◌*◌, drop, take}
use Rattle.std.proofs.Math.Nat.{mul-le-mul_right}
use Rattle.ee_pages.specs.Meaning.{latest_in}
use Rattle.ee_pages.specs.Sets.{set_of, slots_of}
use Rattle.ee_pages.specs.Spans.{TellsBefore}
use Rattle.ee_pages.proofs.LastSaid.{last_from, last_in_range, last_page, last_to, silent_behind}
use Rattle.ee_pages.proofs.SpanTells.{all_values, in_two, tells_both, tells_nothing}
use Rattle.ee_pages.proofs.span.read_span.Goals as goal

pub loop-page-init : goal.loop-page-init
loop-page-init g c =
    let device = g.F.Flash.device c.args.flash.now in
    let layout = c.args.layout.now in
    record {
      from = search (rules, last_page, last_from);
      to = search (rules, last_page, last_to);
      tells =
          tells_nothing (latest_in (drop layout.fill (slots_of (set_of layout.side device))))
          c.new-span.result (silent_behind device layout c.requires.layout);
      said = λ at low. absurd (omega (arith, low));
      few = omega arith;
    }

pub tell_page-said_to-requires-clause-page_in_range : goal.tell_page-said_to-requires-clause-page_in_range
tell_page-said_to-requires-clause-page_in_range g c = search (rules, last_page, last_in_range)

pub loop-page-preserved : goal.loop-page-preserved
loop-page-preserved g c =
    let device = g.F.Flash.device c.args.flash.now in
    let slots = slots_of (set_of c.args.layout.now.side device) in
    let page = c.loop-page.page - 1 in
    let left = c.loop-page.left in
    let before = page * (device.size.words - 4) in
    let same : page * (c.words-slots.result - 4) ≡ before =
    ap (λ n. page * (n - 4))
    (c.words-slots.ensures.value ∙ ap (λ size. size.words) c.shape.ensures) in
    let lower : (page - 1) * (device.size.words - 4) ≤ before =
    mul-le-mul_right (device.size.words - 4) (omega arith) in
    let tells =
    subst
    (λ n. TellsBefore (latest_in (take (left - n) (drop before slots))) c.loop-page.span
    c.tell_page-said_to.new.span) same c.tell_page-said_to.ensures.tells in
    record {
      from = rw same lower;
      to = omega (arith, same);
      tells =
          subst
          (λ n. TellsBefore (latest_in (drop n slots)) c.new-span.result
          c.tell_page-said_to.new.span) (sym same)
          (tells_both (latest_in (take (left - before) (drop before slots)))
          (latest_in (drop left slots)) (latest_in (drop before slots)) c.new-span.result
          c.loop-page.span c.tell_page-said_to.new.span
          (λ address. in_two before left slots address c.loop-page.invariant.from)
          c.loop-page.invariant.tells tells);
      said = c.tell_page-said_to.ensures.said;
      few = c.tell_page-said_to.ensures.within;
    }

pub returns-clause-first : goal.returns-clause-first
returns-clause-first g c = c.loop-page.invariant.tells.first ∙ c.new-span.ensures.first

pub returns-clause-span : goal.returns-clause-span
returns-clause-span g c =
    let device = g.F.Flash.device c.args.flash.now in
    let slots = slots_of (set_of c.args.layout.now.side device) in
    let row = device.size.words - 4 in
    let left = c.loop-page.left in
    let zero : c.loop-page.page ≡ 0 = omega (arith, c.loop-page-test.false) in
    let to : left ≤ 0 * row = subst (λ n. left ≤ n * row) zero c.loop-page.invariant.to in
    let none : left ≡ 0 = omega (arith, to) in
    let tells : TellsBefore (latest_in slots) c.new-span.result c.loop-page.span =
    subst (λ n. TellsBefore (latest_in (drop n slots)) c.new-span.result c.loop-page.span) none
    c.loop-page.invariant.tells in
    let some : 0 < c.loop-page.span.count = omega (arith, tells.count, c.new-span.ensures.some) in
    all_values slots c.new-span.result c.loop-page.span some c.new-span.ensures.few
    c.new-span.ensures.unsaid tells
