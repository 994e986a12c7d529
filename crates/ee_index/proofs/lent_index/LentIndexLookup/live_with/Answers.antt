use Rattle.ee_index.proofs.IndexedLookups.{has_index, live_with_found}
use Rattle.ee_index.proofs.lent_index.LentIndexLookup.live_with.Goals as goal

pub returns : goal.returns
returns g c =
    let kept = has_index _ _ _ c.requires.layout (c.requires.fits.0 c.if-self.false) in
    rw c.entries.ensures.entries
    (live_with_found _ _ _ kept _ _ c.entries.ensures.ordered c.requires.apart
    c.count_new.ensures.adds)
