use Rattle.std.proofs.Common.{refl}
use Rattle.ee_core.proofs.Taken.{among_on, cut_taken}
use Rattle.ee_core.proofs.first_start.start_anew.Goals as goal

pub returns-in-Err : goal.returns-in-Err
returns-in-Err g c =
    let cut = c.in-Err.ensures in
    record {
      formatted = tt;
      layout = tt;
      fault = refl;
      cut = record {
        was_startable = c.requires.startable;
        cut = record {
          cut = cut_taken (among_on c.requires.on cut.steps.cut);
          steps = among_on c.requires.on cut.steps.cut;
          words = cut.writes.words c.requires.on;
        };
        starting = cut.writes.starting c.requires.on c.requires.startable;
      };
    }
