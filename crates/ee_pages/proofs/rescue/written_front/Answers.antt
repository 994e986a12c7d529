use Rattle.std.proofs.Common.{◌≡◌, ◌-◌, ◌+◌, ◌*◌, ◌<◌, sym, ◌∙◌, subst, ap, arith}
use Rattle.ee_flash.specs.declared.word.Word.TheVariants.{Erased}
use Rattle.ee_flash.specs.Size.{Size, slot_count}
use Rattle.ee_pages.specs.Page.{is_written}
use Rattle.ee_pages.specs.Sets.{front, set_of, slots_of}
use Rattle.ee_pages.proofs.Front.{passes_on}
use Rattle.ee_pages.proofs.RescueReads.{prefix_len_of_all, prefix_len_to}
use Rattle.ee_pages.proofs.Slots.{length-slots, row_within}
use Rattle.ee_pages.proofs.rescue.written_front.Goals as goal

pub returns-then-front-slots : goal.returns-then-front-slots
returns-then-front-slots g c =
    let device = g.F.Flash.device c.args.flash.now in
    let slots = slots_of (set_of c.args.side device) in
    let front_is = c.front_in_page-front.ensures in
    let before = c.loop-page.page * (device.size.words - 4) in
    let words : c.words-slots.result ≡ device.size.words =
    c.words-slots.ensures.value ∙ ap (λ (size : Size). size.words) c.shape-shape.ensures in
    let few : c.front_in_page-front.result < device.size.words - 4 =
    omega (arith, c.if-front-slots.true, words) in
    let inside : c.loop-page.page < device.size.pages =
    omega (
      arith,
      c.loop-page-test.true,
      c.pages-page-end.ensures.value,
      ap (λ (size : Size). size.pages) c.shape-shape.ensures,
    ) in
    let row =
    row_within c.args.side device c.loop-page.page (c.front_in_page-front.result + 1)
    (g.met.F.Flash.formed c.args.flash.now) inside (omega (arith, few)) in
    subst (λ n. c.loop-page.page * (n - 4) + c.front_in_page-front.result ≡ front slots) (sym words)
    (sym
    (prefix_len_to is_written Erased slots (before + c.front_in_page-front.result)
    (omega (arith, row))
    (passes_on is_written Erased slots before c.front_in_page-front.result
    c.loop-page.invariant front_is.before) (front_is.erased few)))

pub loop-page-preserved : goal.loop-page-preserved
loop-page-preserved g c =
    let device = g.F.Flash.device c.args.flash.now in
    let slots = slots_of (set_of c.args.side device) in
    let row = device.size.words - 4 in
    let front_is = c.front_in_page-front.ensures in
    let words : c.words-slots.result ≡ device.size.words =
    c.words-slots.ensures.value ∙ ap (λ (size : Size). size.words) c.shape-shape.ensures in
    let all : c.front_in_page-front.result ≡ row =
    omega (arith, c.if-front-slots.false, words, front_is.within) in
    λ k h. passes_on is_written Erased slots (c.loop-page.page * row) row c.loop-page.invariant
    (λ j less. front_is.before j (omega (arith, all, less))) k (omega (arith, h))

pub returns : goal.returns
returns g c =
    let device = g.F.Flash.device c.args.flash.now in
    let slots = slots_of (set_of c.args.side device) in
    let count = length-slots c.args.side device (g.met.F.Flash.formed c.args.flash.now) in
    let end : c.loop-page.page ≡ device.size.pages =
    omega (
      arith,
      c.loop-page-test.false,
      c.loop-page.auto.page-end,
      c.pages-page-end.ensures.value,
      ap (λ (size : Size). size.pages) c.shape-shape.ensures,
    ) in
    let all : c.loop-page.page * (device.size.words - 4) ≡ slot_count device.size =
    ap (λ n. n * (device.size.words - 4)) end in
    c.slots.ensures.value ∙ ap slot_count c.shape-shape.ensures ∙ sym count
    ∙ sym
    (prefix_len_of_all is_written Erased slots
    (λ k h. c.loop-page.invariant k (omega (arith, count, all, h))))
