use Rattle.std.proofs.Common.{rules}
use Rattle.ee_settings.proofs.ExactListings.{listed_exact}
use Rattle.ee_settings.proofs.laws.listed_is_exact.Goals as goal

pub returns : goal.returns
returns c = search (rules, listed_exact)
