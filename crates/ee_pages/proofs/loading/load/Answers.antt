use Rattle.std.proofs.Common.{◌≡◌, ◌≤◌, ◌+◌, ◌-◌, ◌*◌, None, ap, arith, subst, sym, take, ◌∙◌}
use Rattle.std.proofs.Math.Nat.{mul-le-mul_right}
use Rattle.ee_pages.specs.Loading.{loaded, told}
use Rattle.ee_pages.specs.Sets.{page_of_slot, set_of, slots_of}
use Rattle.ee_pages.proofs.LastSaid.{last_in_range, last_page, last_to}
use Rattle.ee_pages.proofs.ToldLists.{all_told, all_used, told_more, told_none, told_same}
use Rattle.ee_pages.proofs.loading.load.Goals as goal

pub loop-page-init : goal.loop-page-init
loop-page-init g c =
    let device = g.F.Flash.device c.args.flash.now in
    let slots = slots_of (set_of c.args.layout.now.side device) in
    let none : 0 * (device.size.words - 4) ≡ 0 = omega arith in
    c.clear_values.ensures
    ∙ sym
    (told_none (take (0 * (device.size.words - 4)) slots)
    (loaded (λ address. None) c.args.entries.now) (ap (λ n. take n slots) none))

pub tell_page-requires : goal.tell_page-requires
tell_page-requires g c =
    let device = g.F.Flash.device c.args.flash.now in
    let last =
    last_page device c.args.layout.now c.requires c.first_page.result c.first_page.ensures in
    record {
      page_in_range =
          omega (
            arith,
            c.loop-page-test.true,
            c.loop-page.auto.page-end,
            last,
            last_in_range device c.args.layout.now c.requires,
          );
    }

pub loop-page-preserved : goal.loop-page-preserved
loop-page-preserved g c =
    let device = g.F.Flash.device c.args.flash.now in
    let slots = slots_of (set_of c.args.layout.now.side device) in
    let row = device.size.words - 4 in
    let next : c.loop-page.page * row + row ≡ (c.loop-page.page + 1) * row = omega arith in
    subst
    (λ n. c.tell_page.new.entries
    ≡ told (take n slots) (loaded (λ address. None) c.args.entries.now)) next
    (told_more (c.loop-page.page * row) row slots (loaded (λ address. None) c.args.entries.now)
    c.loop-page.entries c.tell_page.new.entries c.loop-page.invariant c.tell_page.ensures)

pub returns : goal.returns
returns g c =
    let device = g.F.Flash.device c.args.flash.now in
    let layout = c.args.layout.now in
    let slots = slots_of (set_of layout.side device) in
    let row = device.size.words - 4 in
    let last =
    last_page device layout c.requires c.first_page.result c.first_page.ensures in
    let end : page_of_slot device.size (layout.fill - 1) + 1 ≤ c.loop-page.page =
    omega (arith, c.loop-page-test.false, c.loop-page.auto.page-end, last) in
    let rows = mul-le-mul_right row end in
    let most : layout.fill ≤ c.loop-page.page * row =
    omega (arith, rows, last_to device layout c.requires) in
    c.loop-page.invariant
    ∙ told_same (take (c.loop-page.page * row) slots) slots
    (loaded (λ address. None) c.args.entries.now)
    (λ address. all_used device layout c.requires (c.loop-page.page * row) address most)
    ∙ all_told slots c.args.entries.now
