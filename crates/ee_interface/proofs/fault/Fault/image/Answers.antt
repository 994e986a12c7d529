use Rattle.std.proofs.Common.{rules}
use Rattle.ee_interface.proofs.fault.Fault.image.Goals as goal

pub returns-in-BadShape : goal.returns-in-BadShape
returns-in-BadShape g = search rules fits 100 parts 0
