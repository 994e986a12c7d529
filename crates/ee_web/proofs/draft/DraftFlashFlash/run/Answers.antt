use Rattle.std.proofs.Common.{ap, arith, length, sym, ◌∙◌}
use Rattle.ee_flash.proofs.Public.{read_by_place}
use Rattle.ee_flash.specs.Runs.{IsOwnReading}
use Rattle.ee_flash.specs.Size.{page_count}
use Rattle.ee_web.specs.Draft.{drafted_device}
use Rattle.ee_web.specs.DraftLaws.{IsFormed-drafted}
use Rattle.ee_web.specs.Listing.{steps_of}
use Rattle.ee_web.proofs.draft.DraftFlashFlash.run.Goals as goal

pub returns : goal.returns
returns g c =
    let draft = c.args.self.now in
    let start = g.K.Lent.start in
    let steps = steps_of draft.count draft.listed.now in
    let device = drafted_device start steps draft.wear.items draft.cuts draft.on in
    let formed =
    IsFormed-drafted start steps draft.wear.items draft.cuts draft.on draft.fresh draft.taken
    (draft.wear_length ∙ ap page_count (sym draft.same_size)) draft.wear_fits draft.cuts_fit in
    read_by_place IsOwnReading device c.args.page c.args.at (length c.args.room.now)
    c.loop-behind.room formed c.requires.page_in_range c.requires.places_in_range
    c.loop-behind.auto.room (λ k h. c.loop-behind.invariant k (omega arith))
