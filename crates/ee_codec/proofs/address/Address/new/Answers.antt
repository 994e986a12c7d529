use Rattle.std.proofs.Common.{rules}
use Rattle.ee_codec.proofs.address.Address.new.Goals as goal

pub invariant_of-result : goal.invariant_of-result
invariant_of-result c = search rules
