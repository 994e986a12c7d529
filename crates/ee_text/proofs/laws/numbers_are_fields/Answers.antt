use Rattle.std.proofs.Common.{rules}
use Rattle.ee_text.proofs.NumberText.{number_is_field}
use Rattle.ee_text.proofs.laws.numbers_are_fields.Goals as goal

pub returns : goal.returns
returns c = search (rules, number_is_field)
