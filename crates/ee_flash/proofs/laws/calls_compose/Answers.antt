use Rattle.std.proofs.Common.{rules}
use Rattle.ee_flash.proofs.Outcomes.{calls_compose}
use Rattle.ee_flash.proofs.laws.calls_compose.Goals as goal

pub returns : goal.returns
returns c = search (rules, calls_compose)
