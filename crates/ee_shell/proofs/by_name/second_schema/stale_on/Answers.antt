use Rattle.std.proofs.Common.{rules}
use Rattle.ee_shell.proofs.by_name.second_schema.stale_on.Goals as goal

pub returns-in-Ok : goal.returns-in-Ok
returns-in-Ok g c = search rules fits 100 parts 0
