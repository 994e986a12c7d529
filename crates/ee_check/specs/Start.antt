-- What a trace can start from.
use Rattle.std.specs.Prelude.{◌≤◌}
use Rattle.ee_check.specs.Schedule.{Situation, IsProper}

-- a set has 1 to 32512 slots, each live address takes one, and no more are used than there are
pub record IsStart (start : Situation) : Type 0 where
  pub some : 1 ≤ start.slots
  pub most : start.slots ≤ 32512
  pub proper : IsProper start
