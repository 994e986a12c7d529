use Rattle.std.proofs.Common.{rules}
use Rattle.ee_settings.proofs.Outdated.{stale_exact}
use Rattle.ee_settings.proofs.laws.stale_is_exact.Goals as goal

pub returns : goal.returns
returns c = search (rules, stale_exact)
