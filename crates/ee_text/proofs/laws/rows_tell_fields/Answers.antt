use Rattle.std.proofs.Common.{rules}
use Rattle.ee_text.proofs.Joining.{joined_injective}
use Rattle.ee_text.proofs.laws.rows_tell_fields.Goals as goal

pub returns : goal.returns
returns c = search (rules, joined_injective)
