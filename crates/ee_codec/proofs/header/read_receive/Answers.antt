use Rattle.std.proofs.Common.{rules}
use Rattle.ee_codec.proofs.header.read_receive.Goals as goal

pub returns-in-Held-clause-found : goal.returns-in-Held-clause-found
returns-in-Held-clause-found g = search rules fits 100 parts 0
