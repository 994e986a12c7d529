use Rattle.ee_core.proofs.Running.{the_store_is_a_map_lem}
use Rattle.ee_core.proofs.laws.the_store_is_a_map.Goals as goal

pub returns : goal.returns
returns c = search the_store_is_a_map_lem
