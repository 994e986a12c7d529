use Rattle.std.proofs.Common.{◌∙◌}
use Rattle.ee_nor.proofs.CodedLemmas.Weights.{weight_at}
use Rattle.ee_nor.proofs.coded.code.weight_of.Goals as goal

pub returns : goal.returns
returns c = c.from.ensures ∙ weight_at c.args.ones c.requires
