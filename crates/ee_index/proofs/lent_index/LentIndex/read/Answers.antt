use Rattle.std.proofs.Common.{◌≡◌, ◌∙◌, false, sym}
use Rattle.ee_index.proofs.IndexedLookups.{given_err, given_ok}
use Rattle.ee_index.proofs.LentRooms.{live_within}
use Rattle.ee_index.proofs.lent_index.LentIndex.read.Goals as goal

pub returns-clause-fits : goal.returns-clause-fits
returns-clause-fits g c =
    let index =
    λ (kept : c.is_err-self.result ≡ false). given_ok _ (sym c.is_err-self.ensures.value ∙ kept)
    c.enter_slots.ensures.index in (
      index,
      λ kept. live_within _ c.enter_slots.new.list (index kept),
      λ gone. given_err _ (sym c.is_err-self.ensures.value ∙ gone) c.enter_slots.ensures.small,
    )
