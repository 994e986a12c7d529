use Rattle.std.proofs.Common.{arith}
use Rattle.ee_fakes.proofs.Leaving.{same_left_page}
use Rattle.ee_fakes.proofs.fate.erase_words.Goals as goal

pub returns : goal.returns
returns c =
    same_left_page c.args.list.now c.args.rest c.args.words.now c.loop-at.words c.loop-at.auto.words
    (λ k h. c.loop-at.invariant.0 k (omega arith))
