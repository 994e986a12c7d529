use Rattle.std.proofs.Common.{take}
use Rattle.std.proofs.lemmas.List.Elements.{All-take}
use Rattle.ee_pages.specs.Nearest.{IsOfAddress}
use Rattle.ee_pages.proofs.BatchLists.{proper_items}
use Rattle.ee_pages.proofs.batch_items.Batch.keep_living.Goals as goal

pub returns-clause-proper : goal.returns-clause-proper
returns-clause-proper c =
    let kept = c.keep-self-inside.new.numbers in
    let count = c.keep-self-inside.result in
    proper_items (take count kept)
    (All-take IsOfAddress count kept (c.keep-self-inside.ensures.proper c.self.invariant.2))
