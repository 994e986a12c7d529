use Rattle.std.proofs.Common.{◌∙◌, arith}
use Rattle.std.proofs.lemmas.List.{length-set}
use Rattle.ee_check.proofs.Tables.{set_written, clear_forgotten, count-le, count_more, count_less, bit-le}
use Rattle.ee_check.proofs.live_table.LiveTable.make.Goals as goal

pub overflow_add-self : goal.overflow_add-self
overflow_add-self g c = omega (arith, count-le 0 c.self.inside.is_live.items, bit-le)

pub invariant_of-self : goal.invariant_of-self
invariant_of-self g c =
    let more =
    count_more c.self.inside.is_live.items c.get-index.result c.index.result.now (omega arith)
    c.index.ensures in
    (length-set c.self.inside.is_live.items c.get-index.result _ ∙ c.self.invariant.0, omega arith)

pub overflow_sub-self : goal.overflow_sub-self
overflow_sub-self g c =
    let less =
    count_less c.self.inside.is_live.items c.get-index-in-Forget.result
    c.index-in-Forget.result.now (omega arith) c.index-in-Forget.ensures in
    omega arith

pub invariant_of-self-in-Forget : goal.invariant_of-self-in-Forget
invariant_of-self-in-Forget g c =
    let less =
    count_less c.self.inside.is_live.items c.get-index-in-Forget.result
    c.index-in-Forget.result.now (omega arith) c.index-in-Forget.ensures in (
      length-set c.self.inside.is_live.items c.get-index-in-Forget.result _ ∙ c.self.invariant.0,
      omega arith,
    )

pub returns-in-Write : goal.returns-in-Write
returns-in-Write g c =
    set_written c.self.inside.is_live.items c.get-index.result c.in-Write.address c.args.self.now
    c.args.change (omega arith) c.self.view_is
    c.get-index.ensures.number c.in-Write.is

pub returns-in-Forget : goal.returns-in-Forget
returns-in-Forget g c =
    clear_forgotten c.self.inside.is_live.items c.get-index-in-Forget.result c.in-Forget.address
    c.args.self.now c.args.change (omega arith) c.self.view_is
    c.get-index-in-Forget.ensures.number c.in-Forget.is
