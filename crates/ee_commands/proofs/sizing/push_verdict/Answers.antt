use Rattle.std.proofs.Common.{rules}
use Rattle.ee_commands.proofs.sizing.push_verdict.Goals as goal

pub returns-then-erases_of-cycles : goal.returns-then-erases_of-cycles
returns-then-erases_of-cycles g c = search rules fits 100 parts 0
