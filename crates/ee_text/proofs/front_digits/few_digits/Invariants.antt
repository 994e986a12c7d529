use Rattle.std.proofs.Common.{◌-◌, length}
use Rattle.ee_text.specs.Number.{IsWorth}
use Rattle.ee_text.proofs.front_digits.few_digits.Given as goal

abbrev pub decreases-loop-count : goal.decreases-loop-count
decreases-loop-count l = length l.text - l.count

abbrev pub invariant-loop-count : goal.invariant-loop-count
invariant-loop-count l = IsWorth l.text l.count l.value
