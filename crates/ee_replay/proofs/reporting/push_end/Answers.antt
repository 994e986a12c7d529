use Rattle.std.proofs.Common.{◌-◌, ap, arith, rules}
use Rattle.std.proofs.lemmas.Grind.{common_steps}
use Rattle.std.proofs.lemmas.Result.{on_ok_weaker}
use Rattle.ee_core.specs.State.{state_of}
use Rattle.ee_core.proofs.Public.{fill_within}
use Rattle.ee_replay.proofs.Reported.{end_written}
use Rattle.ee_replay.proofs.reporting.push_end.Goals as goal

pub overflow_sub-room : goal.overflow_sub-room
overflow_sub-room g c =
    omega (
      arith,
      fill_within _ c.slots.ensures.store.legal.2.formed,
      c.slots.ensures.slots,
      c.fill-fill.ensures,
    )

-- each part is found anew, so that a part in another's place leaves a goal open
pub returns : goal.returns
returns g c = on_ok_weaker c.extend_from_slice.result
    (end_written c.args.report.now.items c.push_number_behind.new.out.items
    c.push_number_behind-2.new.out.items c.push_number_behind-3.new.out.items
    c.push_number_behind-4.new.out.items
    c.push_number_behind-5.new.out.items c.extend_from_slice.new.self.items _ _ c.fill-fill.result
    (c.slots.result - c.fill-fill.result) c.live_count.result c.pending.result
    (state_of (g.V.Variables.device c.args.store.now)) c.fill-fill.ensures
    (ap (λ n. n - c.fill-fill.result) c.slots.ensures.slots) c.live_count.ensures c.pending.ensures
    (search rules) (search rules) (search rules) (search rules) (search rules))
    (grind (arith, common_steps))
