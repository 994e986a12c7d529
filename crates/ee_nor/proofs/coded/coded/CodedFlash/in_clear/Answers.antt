use Rattle.ee_nor.specs.Coded.Clear.{coded_in_clear}
use Rattle.ee_nor.proofs.coded.coded.CodedFlash.in_clear.Goals as goal

pub returns : goal.returns
returns g c = λ word reads.
    coded_in_clear (g.N.EccNor.ecc c.args.self.now.nor).size word c.args.reading _
    c.without_check.ensures reads
