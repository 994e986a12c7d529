-- Where a device stands, with a store open on it or without.
use Rattle.ee_flash.specs.Device.{Device}
use Rattle.ee_core.specs.Points.{Point, closed_point, open_point}
use Rattle.ee_store.specs.PowerCuts.Events.{Turn}
use Rattle.ee_store.specs.declared.power_cuts.driving.Bench.{Bench}
use Rattle.ee_store.specs.declared.power_cuts.driving.Bench.TheVariants.{Bare, Open}
use Rattle.ee_store.specs.declared.power_cuts.driving.Note.{Note}
use Rattle.ee_store.specs.declared.power_cuts.event.Event.{Event}

module _ {F : Type 0} (device : F → Device) where
  abbrev pub point_of_bench : Bench F → Point
  point_of_bench (Bare flash) = closed_point (device flash)
  point_of_bench (Open store) = open_point store

-- the turn of which this is noted
abbrev pub turn_of : Event → Note → Turn
turn_of event note = record { event = event; answer = note.answer; found = note.found }
