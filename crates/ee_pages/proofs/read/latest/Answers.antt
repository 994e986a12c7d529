use Rattle.std.proofs.Common.{ap, arith, rules, sym, ◌∙◌, ◌≡◌, ◌≤◌, ◌-◌, ◌*◌, Some, None, drop, take}
use Rattle.std.proofs.Math.Nat.{mul-le-mul_right}
use Rattle.ee_pages.specs.Meaning.{latest_in, value_said}
use Rattle.ee_pages.specs.Sets.{set_of, slots_of}
use Rattle.ee_pages.proofs.LastSaid.{last_from, last_in_range, last_page, last_to, latest_in-drop, latest_in-row, silent_behind}
use Rattle.ee_pages.proofs.read.latest.Goals as goal

pub loop-page-init : goal.loop-page-init
loop-page-init g c = search (rules, last_page, last_from, last_to, silent_behind)

pub said_in_page-requires-clause-page_in_range : goal.said_in_page-requires-clause-page_in_range
said_in_page-requires-clause-page_in_range g c = search (rules, last_page, last_in_range)

pub returns-in-Some : goal.returns-in-Some
returns-in-Some g c =
    let device = g.F.Flash.device c.args.flash.now in
    let slots = slots_of (set_of c.args.layout.now.side device) in
    let page = c.loop-page.page - 1 in
    let before = page * (device.size.words - 4) in
    let same : page * (c.words-slots.result - 4) ≡ before =
    ap (λ n. page * (n - 4))
    (c.words-slots.ensures.value ∙ ap (λ size. size.words) c.shape.ensures) in
    let said : latest_in (take (c.loop-page.left - before) (drop before slots)) c.args.address
    ≡ Some c.in-Some.said =
    search (rules, same, c.said_in_page.ensures) in
    let row =
    latest_in-row before c.loop-page.left slots c.args.address c.loop-page.invariant.from
    c.loop-page.invariant.silent in
    ap value_said (sym (latest_in-drop before slots c.args.address c.in-Some.said (row ∙ said)))

pub loop-page-preserved : goal.loop-page-preserved
loop-page-preserved g c =
    let device = g.F.Flash.device c.args.flash.now in
    let slots = slots_of (set_of c.args.layout.now.side device) in
    let page = c.loop-page.page - 1 in
    let before = page * (device.size.words - 4) in
    let same : page * (c.words-slots.result - 4) ≡ before =
    ap (λ n. page * (n - 4))
    (c.words-slots.ensures.value ∙ ap (λ size. size.words) c.shape.ensures) in
    let said : latest_in (take (c.loop-page.left - before) (drop before slots)) c.args.address
    ≡ None =
    search (rules, same, c.said_in_page.ensures) in
    let row =
    latest_in-row before c.loop-page.left slots c.args.address c.loop-page.invariant.from
    c.loop-page.invariant.silent in
    let lower : (page - 1) * (device.size.words - 4) ≤ before =
    mul-le-mul_right (device.size.words - 4) (omega arith) in
    record { from = rw same lower; to = omega (arith, same); silent = rw same (row ∙ said) }
