use Rattle.std.proofs.Common.{rules}
use Rattle.ee_flash.proofs.Joined.{pages_join}
use Rattle.ee_flash.proofs.laws.pages_join.Goals as goal

pub returns : goal.returns
returns c = search (rules, pages_join)
