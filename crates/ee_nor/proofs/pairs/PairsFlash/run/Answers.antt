use Rattle.ee_nor.proofs.PairRuns.{pair_readings}
use Rattle.ee_nor.proofs.pairs.PairsFlash.run.Goals as goal

pub returns : goal.returns
returns g c = let pairs = c.args.self.now in
    pair_readings (g.N.Nor.nor pairs.nor) c.args.page c.args.at _ _
    (g.met.N.Nor.formed pairs.nor) c.requires.page_in_range c.requires.places_in_range
    c.fill_run.ensures
