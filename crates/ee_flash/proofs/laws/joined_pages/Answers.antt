use Rattle.std.proofs.Common.{rules}
use Rattle.ee_flash.proofs.Joined.{joined_pages}
use Rattle.ee_flash.proofs.laws.joined_pages.Goals as goal

pub returns : goal.returns
returns c = search (rules, joined_pages)
