use Rattle.std.proofs.Common.{rules, ◌∙◌}
use Rattle.ee_nor.specs.Coded.Coded.{word_read}
use Rattle.ee_nor.proofs.CodedLemmas.Steps.{there_below, word_there}
use Rattle.ee_nor.proofs.coded.coded.CodedFlash.word.Goals as goal

pub returns-clause-value : goal.returns-clause-value
returns-clause-value g c =
    let there =
    word_there _ c.args.page c.args.at (g.met.N.EccNor.formed c.args.self.now.nor)
    c.requires.page_in_range c.requires.place_in_range in
    rw there (search rules)

pub returns-clause-below_all_ones : goal.returns-clause-below_all_ones
returns-clause-below_all_ones g c =
    there_below (g.N.EccNor.ecc c.args.self.now.nor) c.args.page c.args.at _
    (g.met.N.EccNor.formed c.args.self.now.nor) c.requires.page_in_range
    (c.word_of_reading.ensures.word
    ∙ (λ i. word_read (c.shape.ensures i) (c.read.ensures i)))
