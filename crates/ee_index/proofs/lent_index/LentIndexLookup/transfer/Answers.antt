use Rattle.std.proofs.Common.{inl, inr}
use Rattle.ee_index.specs.Lent.{lent_entries}
use Rattle.ee_index.proofs.Followed.{gone_over, index_followed, numbers_few}
use Rattle.ee_index.proofs.IndexedLookups.{gone_before, kept_or_read, kept_room_for}
use Rattle.ee_index.proofs.LentRooms.{live_within, small_moved}
use Rattle.ee_index.proofs.lent_index.LentIndexLookup.transfer.Goals as goal

pub cursor-cursor-requires-clause-index : goal.cursor-cursor-requires-clause-index
cursor-cursor-requires-clause-index g c = λ kept.
    let old = g.F.Flash.device c.args.flash.now in
    let held = lent_entries c.args.self.now.list in
    gone_over old old c.args.layout.now c.args.layout.now _ _ held c.requires.apart
    (kept_room_for c.args.self.now.is_given_up c.args.self.now.list old _ _ _ c.requires.layout
    c.requires.room kept)

pub follow-requires-clause-few : goal.follow-requires-clause-few
follow-requires-clause-few g c = λ kept.
    let old = g.F.Flash.device c.args.flash.now in
    let held = lent_entries c.args.self.now.list in
    numbers_few old _ _ _ _ _ held c.requires.apart
    (kept_room_for c.args.self.now.is_given_up c.args.self.now.list old _ _ _ c.requires.layout
    c.requires.room kept)
    c.in_ok-move_changes.ensures.set_moved (c.cursor-cursor.ensures.ordered kept)

pub returns-clause-fits : goal.returns-clause-fits
returns-clause-fits g c = λ on.
    let old = g.F.Flash.device c.args.flash.now in
    let held = lent_entries c.args.self.now.list in
    let moved = c.in_ok-move_changes.ensures.set_moved in
    let index =
    kept_or_read _ c.follow.new.self.is_given_up
    (λ kept. index_followed old _ _ _ _ _ held c.requires.apart
    (kept_room_for c.args.self.now.is_given_up c.args.self.now.list old _ _ _ c.requires.layout
    c.requires.room kept) moved _
    (c.follow.ensures.followed kept).1)
    c.follow.ensures.read in (
      index,
      λ kept. live_within _ c.follow.new.self.list (index kept),
      λ gone. elim (gone_before _ _ c.follow.ensures.followed c.follow.ensures.small gone) [
        | inl small ↦ small
        | inr more ↦ small_moved old _ _ _ _ _ _ moved more
      ],
    )
