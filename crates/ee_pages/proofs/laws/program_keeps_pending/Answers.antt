use Rattle.std.proofs.Common.{rules}
use Rattle.ee_pages.proofs.BlankPages.{program_keeps_pending}
use Rattle.ee_pages.proofs.laws.program_keeps_pending.Goals as goal

pub returns : goal.returns
returns c = search (rules, program_keeps_pending)
