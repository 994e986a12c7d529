use Rattle.std.proofs.Common.{rules}
use Rattle.ee_nor.proofs.PairRuns.{run_of_pairs-window}
use Rattle.ee_nor.proofs.runs.fill_run.Goals as goal

pub returns-in-Some : goal.returns-in-Some
returns-in-Some g c = search (rules, run_of_pairs-window)
