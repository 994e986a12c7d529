use Rattle.std.proofs.Common.{rules}
use Rattle.ee_pages.proofs.Rescues.{legal_is_bad_where_torn}
use Rattle.ee_pages.proofs.laws.legal_is_bad_where_torn.Goals as goal

pub returns : goal.returns
returns c = search (rules, legal_is_bad_where_torn)
