use Rattle.ee_pages.specs.declared.batch_items.TheConstants.{BATCH}
use Rattle.ee_pages.proofs.Noting.{above_greatest, places_by}
use Rattle.ee_pages.proofs.batch.span_of.Goals as goal

pub overflow_sub-greatest : goal.overflow_sub-greatest
overflow_sub-greatest c =
    let most = c.greatest.ensures in
    above_greatest BATCH c.args.above c.greatest.result c.args.nearest.now.named c.requires.above
    c.requires.rising most.fits most.room (most.full c.args.above) most.proper

pub returns : goal.returns
returns c =
    let most = c.greatest.ensures in
    places_by BATCH c.args.above c.greatest.result c.args.nearest.now.named c.requires.above
    c.requires.rising most.fits most.room (most.full c.args.above) most.proper c.from.result
    c.from.ensures
