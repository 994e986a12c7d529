use Rattle.std.proofs.Common.{rules}
use Rattle.ee_flash.proofs.Outcomes.{no_cut_left}
use Rattle.ee_flash.proofs.laws.no_cut_left.Goals as goal

pub returns : goal.returns
returns c = search (rules, no_cut_left)
