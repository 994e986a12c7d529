use Rattle.ee_nor.proofs.CodedLemmas.CodeRuns.{coded_readings}
use Rattle.ee_nor.proofs.coded.coded.CodedFlash.run.Goals as goal

pub returns : goal.returns
returns g c = let coded = c.args.self.now in
    coded_readings (g.N.EccNor.ecc coded.nor) c.args.page c.args.at _ _
    (g.met.N.EccNor.formed coded.nor) c.requires.page_in_range c.requires.places_in_range
    c.fill_run.ensures
