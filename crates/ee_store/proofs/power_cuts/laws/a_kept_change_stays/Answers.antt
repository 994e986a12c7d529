use Rattle.std.proofs.Common.{rules}
use Rattle.ee_store.proofs.PowerCutsLemmas.StayingChanges.{a_kept_change_stays_lem}
use Rattle.ee_store.proofs.power_cuts.laws.a_kept_change_stays.Goals as goal

pub returns : goal.returns
returns c = search (rules, a_kept_change_stays_lem)
