use Rattle.std.proofs.lemmas.Nat.{and_or_self}
use Rattle.ee_fakes.proofs.numbers.with_bits.Goals as goal

pub returns : goal.returns
returns c = and_or_self c.args.number c.args.mask
