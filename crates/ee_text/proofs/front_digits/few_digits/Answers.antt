use Rattle.std.proofs.Common.{◌≡◌, ◌-◌, arith, get_or}
use Rattle.ee_text.proofs.Leading.{room_for_one, worth_more}
use Rattle.ee_text.proofs.front_digits.few_digits.Goals as goal

pub overflow_mul-value : goal.overflow_mul-value
overflow_mul-value c =
    omega (
      arith,
      room_for_one c.args.text.now c.loop-count.count c.loop-count.value
          c.loop-count.invariant (omega arith),
    )

pub overflow_add-value : goal.overflow_add-value
overflow_add-value c =
    omega (
      arith,
      room_for_one c.args.text.now c.loop-count.count c.loop-count.value
          c.loop-count.invariant (omega arith),
    )

pub loop-count-preserved : goal.loop-count-preserved
loop-count-preserved c =
    let digit : c.from.result ≡ get_or c.args.text.now c.loop-count.count 0 - 48 = omega arith in
    rw digit
    (worth_more c.args.text.now c.loop-count.count c.loop-count.value (omega arith)
    (omega arith) (omega arith) c.loop-count.invariant)
