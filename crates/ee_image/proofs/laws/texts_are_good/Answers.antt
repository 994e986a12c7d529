use Rattle.std.proofs.Common.{rules}
use Rattle.ee_image.proofs.Texts.{texts_are_good_lem}
use Rattle.ee_image.proofs.laws.texts_are_good.Goals as goal

pub returns : goal.returns
returns c = search (rules, texts_are_good_lem)
