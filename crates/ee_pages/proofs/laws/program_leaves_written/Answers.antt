use Rattle.std.proofs.Common.{rules}
use Rattle.ee_pages.proofs.OtherPages.{program_leaves_written}
use Rattle.ee_pages.proofs.laws.program_leaves_written.Goals as goal

pub returns : goal.returns
returns c = search (rules, program_leaves_written)
