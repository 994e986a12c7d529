use Rattle.std.proofs.Common.{◌∙◌, ap, length}
use Rattle.ee_index.proofs.IndexedLookups.{has_index, live_found}
use Rattle.ee_index.proofs.lent_index.LentIndexLookup.live_count.Goals as goal

pub returns : goal.returns
returns g c =
    let kept = has_index _ _ _ c.requires.layout (c.requires.fits.0 c.if-self.false) in
    ap length c.entries.ensures.entries ∙ live_found _ _ _ kept c.entries.ensures.ordered
