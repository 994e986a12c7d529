use Rattle.std.proofs.Common.{arith, refl}
use Rattle.ee_pages.specs.declared.batch_items.TheConstants.{BATCH}
use Rattle.ee_pages.proofs.BatchLists.{all_of_address}
use Rattle.ee_pages.proofs.batch_items.Batch.new.Goals as goal

pub invariant_of-result : goal.invariant_of-result
invariant_of-result c = (omega arith, refl, all_of_address BATCH)
