use Rattle.std.proofs.Common.{refl}
use Rattle.ee_flash.specs.Laws.{all_completed}
use Rattle.ee_web.specs.Listing.{steps_of}
use Rattle.ee_web.proofs.DraftSteps.{drafted_whole, wears_once_more}
use Rattle.ee_web.proofs.draft.DraftFlash.ended.Goals as goal

pub returns-clause-ended : goal.returns-clause-ended
returns-clause-ended g c =
    let draft = c.args.self in
    record {
      within = draft.within;
      taken = draft.taken;
      image = refl;
      whole =
          drafted_whole g.K.Lent.start (steps_of draft.count draft.listed.now) draft.wear.items
          draft.cuts draft.on draft.fresh draft.whole;
      zeros = draft.zeros;
      further =
          λ once. wears_once_more
          (all_completed (steps_of draft.count draft.listed.now) g.K.Lent.start)
          draft.wear.items (draft.further once);
      full = draft.full;
    }
