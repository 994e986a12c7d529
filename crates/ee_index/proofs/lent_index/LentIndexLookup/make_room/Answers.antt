use Rattle.std.proofs.Common.{◌∙◌, sym, rules}
use Rattle.ee_pages.specs.Sets.{set_of, slots_of}
use Rattle.ee_index.specs.Lent.{lent_entries}
use Rattle.ee_index.proofs.IndexedLookups.{given_err, given_ok, has_index}
use Rattle.ee_index.proofs.LentRooms.{too_small_to_move}
use Rattle.ee_index.proofs.IndexedRooms.{room_made}
use Rattle.ee_index.proofs.Indexing.{fill_small}
use Rattle.ee_index.proofs.lent_index.LentIndexLookup.make_room.Goals as goal

pub returns-clause-room : goal.returns-clause-room
returns-clause-room g c =
    let device = g.F.Flash.device c.args._flash.now in
    let slots = slots_of (set_of c.args.layout.now.side device) in
    let held = lent_entries c.args.self.now.list in
    let indexes = c.requires.fits.0 c.if-self.false in (
      λ kept. room_made device _ _ (has_index device _ held c.requires.layout indexes)
          _ _ c.enter_hidden.ensures.shown
          (given_ok _ (sym c.is_err-self.ensures.value ∙ kept) c.enter_hidden.ensures.there),
      λ gone. too_small_to_move slots held c.args.puts.now _ indexes
          (given_err _ (sym c.is_err-self.ensures.value ∙ gone) c.enter_hidden.ensures.full),
    )

pub enter_hidden-requires : goal.enter_hidden-requires
enter_hidden-requires g c = search (rules, fill_small)
