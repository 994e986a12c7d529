use Rattle.std.proofs.Common.{◌∙◌, sym}
use Rattle.ee_records.proofs.CheckWords.{remainder-next, remainder-zero}
use Rattle.ee_records.proofs.check.check_of.Goals as goal

pub words-init : goal.words-init
words-init c = c.word_further-rest.ensures ∙ sym (remainder-zero c.args.bytes.now)

pub words-preserved : goal.words-preserved
words-preserved c =
    rw (remainder-next c.args.bytes.now c.words.word, ← c.words.invariant, ← c.bytes_word.ensures)
    c.word_further-rest-in-words.ensures
