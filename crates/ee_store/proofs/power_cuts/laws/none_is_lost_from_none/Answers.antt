use Rattle.std.proofs.Common.{rules}
use Rattle.ee_store.proofs.PowerCutsLemmas.FirstStores.{none_is_lost_from_none_lem}
use Rattle.ee_store.proofs.power_cuts.laws.none_is_lost_from_none.Goals as goal

pub returns : goal.returns
returns c = search (rules, none_is_lost_from_none_lem)
