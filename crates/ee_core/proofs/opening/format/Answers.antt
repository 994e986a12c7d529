use Rattle.ee_core.proofs.Taken.{among_on, cut_taken}
use Rattle.ee_core.proofs.opening.format.Goals as goal

pub returns-in-Ok-clause-formatted : goal.returns-in-Ok-clause-formatted
returns-in-Ok-clause-formatted g c = rw c.of.ensures c.in-Ok.ensures.writes.formatted

pub returns-in-Err : goal.returns-in-Err
returns-in-Err g c = record {
  formatted = tt;
  cut = record {
    cut = cut_taken (among_on c.requires c.in-Err.ensures.steps.cut);
    steps = among_on c.requires c.in-Err.ensures.steps.cut;
    words = c.in-Err.ensures.writes.words c.requires;
  };
}

pub of-requires-clause-store : goal.of-requires-clause-store
of-requires-clause-store g c = c.in-Ok.ensures.writes.formatted.store
