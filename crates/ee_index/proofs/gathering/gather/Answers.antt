use Rattle.std.proofs.Common.{◌≡◌, ◌-◌, ◌<◌, ◌++◌, get_or, ap, arith, ◌∙◌, rules}
use Rattle.ee_flash.specs.declared.word.Word.TheVariants.{Erased}
use Rattle.ee_codec.specs.Reading.{slot_of}
use Rattle.ee_pages.specs.Sets.{set_of, slots_of}
use Rattle.ee_index.specs.Entries.{entries_said}
use Rattle.ee_index.proofs.Gathered.{gathered_all, gathered_none, gathers}
use Rattle.ee_index.proofs.Indexing.{fill_small, slot_listed, slot_within}
use Rattle.ee_index.proofs.gathering.gather.Goals as goal

pub slots-init : goal.slots-init
slots-init g c = search (rules, gathered_none)

pub slot_word-requires : goal.slot_word-requires
slot_word-requires g c =
    slot_within _ _ c.requires _ (omega (arith, c.slots-test.true, c.slots.auto.number))

pub push_said-requires-clause-number : goal.push_said-requires-clause-number
push_said-requires-clause-number g c = search (rules, fill_small)

pub push_said-requires-clause-hidden : goal.push_said-requires-clause-hidden
push_said-requires-clause-hidden g c = search (rules, fill_small)

pub slots-preserved : goal.slots-preserved
slots-preserved g c =
    let device = g.F.Flash.device c.args.flash.now in
    let fill = c.args.layout.now.fill in
    let slots = slots_of (set_of c.args.layout.now.side device) in
    let count = c.slots.number - 1 in
    let low : count < fill = omega (arith, c.slots-test.true, c.slots.auto.number) in
    let said : c.read_slot-said.result ≡ slot_of (get_or slots count Erased) =
    c.read_slot-said.ensures.exact ∙ ap slot_of c.slot_word.ensures in
    gathers fill count low slots _ _ _ (omega (arith, c.slots-test.true))
    (slot_listed device _ c.requires count low)
    (c.in_ok-push_said.ensures
    ∙ ap (λ slot. c.slots.entries.items ++ entries_said slot count fill) said)
    c.slots.invariant

pub returns : goal.returns
returns g c =
    let device = g.F.Flash.device c.args.flash.now in
    gathered_all _ _ _ _ (omega (arith, c.slots-test.false)) c.slots.invariant
