use Rattle.std.proofs.Common.{rules}
use Rattle.ee_replay.proofs.Powering.{wrote_at}
use Rattle.ee_replay.proofs.desk.Desk.write.Goals as goal

pub returns-clause-calls : goal.returns-clause-calls
returns-clause-calls g c = search (rules, wrote_at) fits 100
