use Rattle.std.proofs.Common.{None, arith, nat_lt, subst, []}
use Rattle.ee_pages.specs.Sets.{set_of, slots_of}
use Rattle.ee_pages.proofs.Public.{length-slots}
use Rattle.ee_index.specs.Index.{IsNextShown}
use Rattle.ee_index.proofs.IndexReaders.{next_used, none_shown, shown_left, shown_next, shown_stands}
use Rattle.ee_index.proofs.reading.IndexCursorLiveCursor.next.Goals as goal

pub returns-in_default-clause-next : goal.returns-in_default-clause-next
returns-in_default-clause-next g c =
    let slots = slots_of (set_of c.args.layout.now.side (g.F.Flash.device c.args.flash.now)) in
    let entries = c.args.self.now.entries.now in
    let none =
    subst (λ fill. IsNextShown (λ number. nat_lt number fill) entries None [])
    c.requires.over.fill_is c.in_default.ensures in
    none_shown slots _ _ entries [] c.requires.over.left none

pub value_in-requires : goal.value_in-requires
value_in-requires g c =
    let device = g.F.Flash.device c.args.flash.now in
    let slots = slots_of (set_of c.args.layout.now.side device) in
    let entries = c.args.self.now.entries.now in
    let next =
    next_used entries c.in-Some.rest.now c.in-Some.entry _ _ c.requires.over.fill_is
    c.in-Some.ensures in
    let here =
    shown_stands slots _ _ entries c.in-Some.rest.now c.requires.over.left c.in-Some.entry
    next in
    omega (
      arith,
      here.listed,
      c.from.ensures,
      length-slots c.args.layout.now.side device (g.met.F.Flash.formed c.args.flash.now),
    )

pub returns-clause-next : goal.returns-clause-next
returns-clause-next g c =
    let slots = slots_of (set_of c.args.layout.now.side (g.F.Flash.device c.args.flash.now)) in
    let entries = c.args.self.now.entries.now in
    let next =
    next_used entries c.in-Some.rest.now c.in-Some.entry _ _ c.requires.over.fill_is
    c.in-Some.ensures in
    shown_next slots _ _ entries c.in-Some.rest.now c.requires.over.left c.in-Some.entry _ next
    (rw (← c.from.ensures) c.value_in.ensures)

pub returns-clause-over : goal.returns-clause-over
returns-clause-over g c =
    let slots = slots_of (set_of c.args.layout.now.side (g.F.Flash.device c.args.flash.now)) in
    let entries = c.args.self.now.entries.now in
    let next =
    next_used entries c.in-Some.rest.now c.in-Some.entry _ _ c.requires.over.fill_is
    c.in-Some.ensures in
    let left =
    shown_left slots _ _ entries c.in-Some.rest.now c.requires.over.left c.in-Some.entry next in
    record { fill_is = c.requires.over.fill_is; left = left }
