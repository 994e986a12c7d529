use Rattle.std.proofs.Common.{rules}
use Rattle.ee_store.proofs.PowerCutsLemmas.KeptChanges.{no_answered_change_is_lost_lem}
use Rattle.ee_store.proofs.power_cuts.laws.no_answered_change_is_lost.Goals as goal

pub returns : goal.returns
returns c = search (rules, no_answered_change_is_lost_lem)
