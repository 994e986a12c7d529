use Rattle.std.proofs.Common.{rules, ◌∙◌, ◌+◌, ap, arith, cond, sym}
use Rattle.ee_shell.specs.Part.Inspecting.{live_slots}
use Rattle.ee_shell.proofs.PartLemmas.Counting.{all_counted, counted_more, none_counted}
use Rattle.ee_shell.proofs.PartLemmas.Inspections.{last_in_fill, slot_in_range}
use Rattle.ee_shell.proofs.part.inspecting.count_live.Goals as goal
use Rattle.ee_shell.proofs.part.inspecting.count_live.Goals.{then-is_last_of, else-is_last_of}

pub slots-init : goal.slots-init
slots-init g c = search (rules, none_counted)

pub slot_word-requires : goal.slot_word-requires
slot_word-requires g c =
    slot_in_range (g.F.Flash.device c.args.flash.now) c.args.layout.now c.requires.layout
    c.slots.slot c.slots-test.true

pub slots-preserved : goal.slots-preserved
slots-preserved g c =
    let slots = live_slots (g.F.Flash.device c.args.flash.now) c.args.layout.now in
    let more =
    counted_more slots c.slots.slot c.slot_word.result c.args.spoken.now
    c.valued_address-address.result c.is_last_of.result
    c.slots.count c.slot_word.ensures c.requires.spoken c.valued_address-address.ensures.proper
    c.valued_address-address.ensures.gives
    c.is_last_of.ensures c.slots.invariant.counted in
    elim c.if-is_last_of.branch [
      | then-is_last_of w ↦ record {
        few = omega arith;
        counted =
            w.count-is
            ∙ ap (λ b. cond b (c.slots.count + 1) c.slots.count) (sym w.if-is_last_of.true) ∙ more;
      }
      | else-is_last_of w ↦ record {
        few = omega arith;
        counted =
            w.count-is
            ∙ ap (λ b. cond b (c.slots.count + 1) c.slots.count) (sym w.if-is_last_of.false) ∙ more;
      }
    ]

pub returns : goal.returns
returns g c = search (rules, all_counted, last_in_fill)
