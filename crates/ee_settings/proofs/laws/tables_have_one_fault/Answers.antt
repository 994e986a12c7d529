use Rattle.std.proofs.Common.{rules}
use Rattle.ee_settings.proofs.First.{one_fault}
use Rattle.ee_settings.proofs.laws.tables_have_one_fault.Goals as goal

pub returns : goal.returns
returns c = search (rules, one_fault)
