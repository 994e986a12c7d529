use Rattle.std.proofs.Common.{rules, sym}
use Rattle.ee_nor.specs.Coded.EccNor.{ecc_page}
use Rattle.ee_nor.proofs.CodedLemmas.Wipes.{blank_from, not_blank_from, page_long}
use Rattle.ee_nor.proofs.coded.wiping.is_blank_from.Goals as goal

pub returns-then-is_written : goal.returns-then-is_written
returns-then-is_written g c =
    let ecc = g.N.EccNor.ecc c.args.nor.now in
    let long = page_long ecc c.args.page (g.met.N.EccNor.formed c.args.nor.now) c.requires in
    sym (not_blank_from (ecc_page ecc c.args.page) c.args.from c.numbers.at (search rules)
    (search rules) (search rules))

pub returns : goal.returns
returns g c = search (rules, blank_from)
