use Rattle.std.proofs.Common.{rules}
use Rattle.ee_shell.proofs.PartLemmas.Inspections.{live_and_torn}
use Rattle.ee_shell.proofs.part.laws.used_slots_add_up.Goals as goal

pub returns : goal.returns
returns c = search (rules, live_and_torn)
