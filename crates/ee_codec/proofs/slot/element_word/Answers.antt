use Rattle.std.proofs.Common.{arith}
use Rattle.std.proofs.lemmas.Grind.{common_steps}
use Rattle.ee_codec.proofs.slot.element_word.Goals as goal

pub returns-clause-word : goal.returns-clause-word
returns-clause-word c = grind (arith, common_steps)
