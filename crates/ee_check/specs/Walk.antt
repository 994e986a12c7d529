-- A walk through a trace, from the end of one stretch to the end of the next.
use Rattle.std.specs.Prelude.{◌≡◌, ℕ, ◌≤◌, List, length, take}
use Rattle.ee_check.specs.declared.change.Change.{Change}
use Rattle.ee_check.specs.Live.{live_after}
use Rattle.ee_check.specs.Schedule.{Situation}
use Rattle.ee_check.specs.Certificate.{Place}

-- where it stands, and the addresses live there
pub record Walked : Type 0 where
  pub place : Place
  pub live : List ℕ

-- it stands at a place of the trace, and the changes before it are made
pub record IsInTrace (start : Situation) (trace : List Change) (walk : Walked) : Type 0 where
  pub within : walk.place.after ≤ length trace
  pub live_is : walk.live ≡ live_after start.live (take walk.place.after trace)
