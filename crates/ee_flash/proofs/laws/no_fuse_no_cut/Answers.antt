use Rattle.std.proofs.Common.{rules}
use Rattle.ee_flash.proofs.Fuses.{no_fuse_no_cut}
use Rattle.ee_flash.proofs.laws.no_fuse_no_cut.Goals as goal

pub returns : goal.returns
returns c = search (rules, no_fuse_no_cut)
