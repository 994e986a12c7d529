use Rattle.std.proofs.Common.{rules}
use Rattle.ee_replay.proofs.noting.Notes.transfer.Goals as goal

pub returns-clause-ok : goal.returns-clause-ok
returns-clause-ok g c = search rules fits 100 parts 0
