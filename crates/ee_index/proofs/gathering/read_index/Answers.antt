use Rattle.std.proofs.Common.{◌≡◌, ◌∙◌, ℕ, nat_lt, ap}
use Rattle.std.specs.List.{filter}
use Rattle.ee_pages.specs.Sets.{set_of, slots_of}
use Rattle.ee_index.specs.Index.{said_at, shown_index, shown_slot, slot_for}
use Rattle.ee_index.proofs.IndexedRooms.{kept_shown}
use Rattle.ee_index.proofs.gathering.read_index.Goals as goal

pub returns : goal.returns
returns g c = λ address.
    let slots = slots_of (set_of c.args.layout.now.side (g.F.Flash.device c.args.flash.now)) in
    let shown = λ (number : ℕ). nat_lt number _ in
    let ordered = c.put_in_order.new.entries.items in
    let slot : slot_for c.shrink.new.self address
    ≡ shown_index shown (slot_for c.in_ok-entries.entries.items) address =
    ap (λ entries. slot_for entries address)
    (c.shrink.ensures ∙ c.retain_used.ensures.used
    ∙ ap (filter (λ entry. shown entry.1)) c.of-index.ensures)
    ∙ kept_shown shown ordered c.in_ok-put_in_order.ensures.ordered address
    ∙ ap (shown_slot shown) (c.in_ok-put_in_order.ensures.first address) in
    ap (λ held. said_at slots held address) slot ∙ c.in_ok-entries.ensures address
