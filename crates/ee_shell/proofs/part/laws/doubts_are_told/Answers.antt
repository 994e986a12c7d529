use Rattle.std.proofs.Common.{rules}
use Rattle.ee_shell.proofs.PartLemmas.Doubts.{doubts_are_told}
use Rattle.ee_shell.proofs.part.laws.doubts_are_told.Goals as goal

pub returns : goal.returns
returns c = search (rules, doubts_are_told)
