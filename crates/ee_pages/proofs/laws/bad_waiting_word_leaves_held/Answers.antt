use Rattle.ee_pages.proofs.BadWords.{bad_waiting_word_leaves_held}
use Rattle.ee_pages.proofs.laws.bad_waiting_word_leaves_held.Goals as goal

pub returns : goal.returns
returns c =
    λ old new side generation page at word live puts bad behind.
    bad_waiting_word_leaves_held old new side generation page at word live bad puts behind
