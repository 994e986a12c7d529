use Rattle.std.proofs.Common.{rules}
use Rattle.ee_shell.proofs.PartLemmas.ScanWords.{scan_is_told_as_its_fault}
use Rattle.ee_shell.proofs.part.laws.scan_is_told_as_its_fault.Goals as goal

pub returns : goal.returns
returns c = search (rules, scan_is_told_as_its_fault)
