use Rattle.std.proofs.Common.{sym, ap, ◌∙◌, ℕ, Some}
use Rattle.std.proofs.lemmas.List.{get_or_default}
use Rattle.ee_index.specs.Entries.{StandsAt}
use Rattle.ee_index.proofs.InOrder.{none_found, slot_found}
use Rattle.ee_index.proofs.reading.slot_in.Goals as goal

pub returns-in-Some : goal.returns-in-Some
returns-in-Some g c =
    let entries = c.entries.result.now in
    let here : StandsAt entries c.args.address c.in-Ok.place =
    rw c.entries.ensures.entries c.in-Ok.ensures.found in
    let read =
    c.in-Some.ensures.lookup.1
    ∙ get_or_default entries c.in-Ok.place c.in-Some.entry.now (0, 0) here.within in
    rw (← c.entries.ensures.entries)
    (ap (λ (slot : ℕ). Some slot) (c.from.ensures ∙ ap (λ (entry : ℕ × ℕ). entry.1) read)
    ∙ sym (slot_found entries c.args.address c.in-Ok.place here))

pub returns-in-Err : goal.returns-in-Err
returns-in-Err g c =
    sym (none_found (g.L.Listing.list c.args.list.now) c.args.address _ c.in-Err.ensures.absent)
