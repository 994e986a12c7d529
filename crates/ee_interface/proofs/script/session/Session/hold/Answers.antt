use Rattle.std.proofs.Common.{rules}
use Rattle.ee_interface.proofs.script.session.Session.hold.Goals as goal

pub returns-clause-held : goal.returns-clause-held
returns-clause-held g c = search rules fits 100 parts 0
