use Rattle.std.proofs.Common.{rules}
use Rattle.ee_core.proofs.copying.copy_one.Goals as goal

pub returns-clause-passed : goal.returns-clause-passed
returns-clause-passed g c = search rules

pub stage_put-requires-clause-free : goal.stage_put-requires-clause-free
stage_put-requires-clause-free g c = search rules fits 100 parts 0

pub returns-clause-keeps : goal.returns-clause-keeps
returns-clause-keeps g c = search rules fits 100 parts 0

pub returns-clause-at : goal.returns-clause-at
returns-clause-at g c =
    let done = c.in_ok-stage_put.ensures in
    record {
      generation = c.requires.at.generation;
      filling = done.fills.filling;
      behind = done.behind;
    }

pub returns-clause-fills : goal.returns-clause-fills
returns-clause-fills g c = search rules fits 100 parts 0

pub returns-clause-wear : goal.returns-clause-wear
returns-clause-wear g c = search rules fits 100 parts 0

pub returns-then-passed-clause-fills : goal.returns-then-passed-clause-fills
returns-then-passed-clause-fills g c = search rules fits 100 parts 0
