use Rattle.std.proofs.Common.{arith, rules, subst, sym}
use Rattle.ee_flash.specs.Device.{IsBelowAllOnes}
use Rattle.ee_nor.specs.Coded.Formed.{coded_below}
use Rattle.ee_shell.proofs.DumpsLemmas.Codes.{cells_of_codes, one_code_more}
use Rattle.ee_shell.proofs.dumps.reading.read_codes.Goals as goal

pub push-requires : goal.push-requires
push-requires g c =
    subst IsBelowAllOnes (sym c.word_of_reading.ensures.word)
    (coded_below c.args.shape c.from_le_bytes.result (search rules))

pub loop-number-preserved : goal.loop-number-preserved
loop-number-preserved g c =
    one_code_more c.args.shape c.as_chunks.result.0.now c.loop-number.number-index
    c.from_le_bytes.result c.loop-number.cells c.push.new.self c.word_of_reading.result
    c.loop-number.invariant c.loop-number-test.true (search rules) (search rules)
    c.word_of_reading.ensures.word (search rules)

pub returns : goal.returns
returns g c =
    cells_of_codes c.args.shape c.args.dump.now c.as_chunks.result.0.now
    c.loop-number.number-index c.loop-number.cells c.requires
    (λ i. let fits = c.type_inv.dump i in omega arith) c.as_chunks.ensures.front
    c.loop-number.invariant (search rules)
