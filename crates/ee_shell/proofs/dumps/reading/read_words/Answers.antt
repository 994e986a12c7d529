use Rattle.std.proofs.Common.{rules}
use Rattle.ee_shell.proofs.DumpsLemmas.Growing.{one_read_more}
use Rattle.ee_shell.proofs.dumps.reading.read_words.Goals as goal

pub loop-bytes-preserved : goal.loop-bytes-preserved
loop-bytes-preserved g c =
    one_read_more c.args.dump.now c.as_chunks.result.0.now c.loop-bytes.bytes-index
    c.loop-bytes.cells c.push.new.self c.word_of.result
    c.as_chunks.ensures.front c.loop-bytes.invariant c.loop-bytes-test.true (search rules)
    c.word_of.ensures.whole c.word_of.ensures.below_all_ones (search rules)
