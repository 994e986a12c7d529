use Rattle.std.proofs.Common.{rules}
use Rattle.ee_settings.proofs.Once.{never_refused}
use Rattle.ee_settings.proofs.laws.schemas_are_accepted.Goals as goal

pub returns : goal.returns
returns c = search (rules, never_refused)
