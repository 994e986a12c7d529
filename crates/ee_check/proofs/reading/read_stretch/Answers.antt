use Rattle.std.proofs.Common.{rules}
use Rattle.ee_check.proofs.reading.read_stretch.Goals as goal

pub returns-clause-found : goal.returns-clause-found
returns-clause-found g = search rules fits 100 parts 0
