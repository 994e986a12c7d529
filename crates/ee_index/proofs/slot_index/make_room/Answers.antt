use Rattle.std.proofs.Common.{◌∙◌, nat_lt, ap}
use Rattle.ee_index.specs.Index.{slot_for}
use Rattle.ee_index.proofs.IndexedRooms.{kept_shown}
use Rattle.ee_index.proofs.slot_index.make_room.Goals as goal

pub returns-in-Err-clause-err : goal.returns-in-Err-clause-err
returns-in-Err-clause-err g c = λ address.
    ap (λ entries. slot_for entries address) c.retain_used.ensures.used
    ∙ kept_shown (λ number. nat_lt number c.args.fill) _ c.retain_used.ensures.ordered address
    ∙ c.in-Err.ensures.shown address
