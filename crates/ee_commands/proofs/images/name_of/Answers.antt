use Rattle.std.proofs.Common.{rules}
use Rattle.ee_commands.proofs.images.name_of.Goals as goal

pub returns-in-Receive : goal.returns-in-Receive
returns-in-Receive g = search rules fits 100 parts 0
