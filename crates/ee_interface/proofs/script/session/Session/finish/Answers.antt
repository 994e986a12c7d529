use Rattle.std.proofs.Common.{rules}
use Rattle.ee_interface.proofs.script.session.Session.finish.Goals as goal

pub returns : goal.returns
returns g c = search rules fits 100 parts 0
