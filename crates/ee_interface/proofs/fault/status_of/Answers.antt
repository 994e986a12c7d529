use Rattle.std.proofs.Common.{rules}
use Rattle.ee_interface.proofs.fault.status_of.Goals as goal

pub returns-in-Memory : goal.returns-in-Memory
returns-in-Memory g = search rules fits 100 parts 0
