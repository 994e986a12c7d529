use Rattle.ee_pages.proofs.BadWords.{waiting_word_costs_nothing}
use Rattle.ee_pages.proofs.laws.waiting_word_costs_nothing.Goals as goal

pub returns : goal.returns
returns c =
    λ old new side generation page at word live puts bad told.
    waiting_word_costs_nothing old new side generation page at word live bad puts told
