use Rattle.std.proofs.Common.{rules}
use Rattle.std.proofs.lemmas.List.{take_all}
use Rattle.ee_pages.proofs.Slots.{length-slots}
use Rattle.ee_pages.proofs.read.torn_slots.Goals as goal

pub returns : goal.returns
returns g c = search (rules, length-slots, take_all)
