use Rattle.std.proofs.Common.{rules}
use Rattle.ee_flash.proofs.Fuses.{fuse_decides}
use Rattle.ee_flash.proofs.laws.fuse_decides.Goals as goal

pub returns : goal.returns
returns c = search (rules, fuse_decides)
