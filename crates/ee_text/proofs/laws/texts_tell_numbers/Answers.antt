use Rattle.std.proofs.Common.{rules}
use Rattle.std.proofs.lemmas.Fmt.{decimal_injective}
use Rattle.ee_text.proofs.laws.texts_tell_numbers.Goals as goal

pub returns : goal.returns
returns c = search (rules, decimal_injective)
