use Rattle.ee_index.proofs.LentRooms.{index_of_none, live_within}
use Rattle.ee_index.proofs.lent_index.LentIndexLookup.find_nothing.Goals as goal

pub returns-clause-fits : goal.returns-clause-fits
returns-clause-fits c = λ slots none.
    let index = index_of_none slots _ c.clear.ensures.none none in
    (λ kept. index, λ kept. live_within slots c.clear.new.self index, λ gone. absurd (cc gone))
