use Rattle.std.proofs.Common.{◌≡◌, false, ℕ, subst, sym}
use Rattle.ee_pages.specs.Meaning.{Put}
use Rattle.ee_pages.specs.Sets.{fill_of, set_of, slots_of}
use Rattle.ee_index.specs.Index.{IsReadyFor, slot_for}
use Rattle.ee_index.specs.Lent.{lent_entries, lent_room, IsTooSmallFor, WasTooSmall}
use Rattle.ee_core.specs.Lookups.{slots_by}
use Rattle.ee_index.proofs.Followed.{index_appended}
use Rattle.ee_index.proofs.IndexedLookups.{gone_ready, kept_ready, ready_for}
use Rattle.ee_index.proofs.LentRooms.{live_within, small_appended}
use Rattle.ee_index.proofs.lent_index.LentIndexLookup.append.Goals as goal

pub returns-clause-fits : goal.returns-clause-fits
returns-clause-fits g c = λ on.
    let old = g.F.Flash.device c.args.flash.now in
    let slots = slots_of (set_of c.args.layout.now.side old) in
    let held = slot_for (lent_entries c.args.self.now.list) in
    let room = lent_room c.args.self.now.list in
    let is_ready = λ (address : ℕ). IsReadyFor slots (Put address 0) (fill_of slots) held in
    let after =
    slots_by c.append_change.new.layout (g.F.Flash.device c.append_change.new.flash) in
    let same : lent_room c.leave_forgotten.new.list ≡ room =
    cc c.leave_forgotten.ensures.same_room in
    let index =
    λ (kept : c.args.self.now.is_given_up ≡ false). index_appended old _ _ _ _ _ c.requires.layout
    c.requires.free
    (ready_for slots _ held _ c.requires.layout.fill
    (kept_ready _ _ _ _ (WasTooSmall room slots) is_ready (IsTooSmallFor room slots) _ kept
    c.requires.ready))
    c.in_ok-append_change.ensures.written _ c.leave_forgotten.ensures.left in (
      index,
      λ kept. live_within after c.leave_forgotten.new.list (index kept),
      λ gone. subst (λ (room : ℕ). WasTooSmall room after) (sym same)
          (small_appended old _ _ _ _ room c.requires.layout c.requires.free
          c.in_ok-append_change.ensures.written
          (gone_ready _ _ _ _ (WasTooSmall room slots) is_ready (IsTooSmallFor room slots) _ gone
          c.requires.ready)),
    )
