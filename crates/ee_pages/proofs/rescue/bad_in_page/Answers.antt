use Rattle.std.proofs.Common.{◌+◌, cond, sym, ap, ◌∙◌, arith}
use Rattle.ee_pages.specs.Rescue.{is_bad}
use Rattle.ee_pages.specs.Sets.{set_of}
use Rattle.ee_pages.proofs.RescueReads.{bad_by, count_below-zero, count_more}
use Rattle.ee_pages.proofs.rescue.bad_in_page.Goals.{then-is_bad, else-is_bad}
use Rattle.ee_pages.proofs.rescue.bad_in_page.Goals as goal

pub loop-at-init : goal.loop-at-init
loop-at-init g c = record { bad = sym (count_below-zero _); within = omega arith }

pub loop-at-preserved : goal.loop-at-preserved
loop-at-preserved g c =
    let device = g.F.Flash.device c.args.flash.now in
    let pages = set_of c.args.side device in
    let is =
    c.is_bad.ensures
    ∙ bad_by _ device.size pages c.args.generation c.args.written c.args.page c.loop-at.at _
    c.shape-shape.ensures c.requires.generation c.requires.written c.set_word.ensures in
    let more =
    count_more (is_bad device.size pages c.args.page) c.loop-at.at c.loop-at.bad c.is_bad.result
    is c.loop-at.invariant.bad c.loop-at.invariant.within in
    elim c.if-is_bad.branch [
      | then-is_bad w ↦ rw (w.bad-is, sym (ap (λ b. c.loop-at.bad + cond b 1 0) w.if-is_bad.true))
          (record { bad = more.0; within = more.1 })
      | else-is_bad w ↦ rw (w.bad-is)
          (let none = ap (λ b. c.loop-at.bad + cond b 1 0) w.if-is_bad.false in
          record { bad = omega (arith, none, more.0); within = omega (arith, none, more.1) })
    ]
