use Rattle.ee_core.proofs.RescueCuts.{waiting_word_costs_no_more}
use Rattle.ee_core.proofs.laws.waiting_word_costs_no_more.Goals as goal

pub returns : goal.returns
returns c =
    λ old changed side generation page at word cuts new live puts bad told tries made.
    waiting_word_costs_no_more
    old changed side generation page at word cuts new live tries made puts bad told
