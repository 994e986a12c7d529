use Rattle.std.proofs.Common.{rules}
use Rattle.ee_nor.proofs.Steps.{word_there}
use Rattle.ee_nor.proofs.pairs.PairsFlash.word.Goals as goal

pub returns-clause-value : goal.returns-clause-value
returns-clause-value g c =
    let there =
    word_there _ c.args.page c.args.at (g.met.N.Nor.formed c.args.self.now.nor)
    c.requires.page_in_range c.requires.place_in_range in
    rw there (search rules)
