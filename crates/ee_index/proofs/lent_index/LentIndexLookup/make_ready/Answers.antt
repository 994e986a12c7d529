use Rattle.std.proofs.Common.{◌∙◌, ◌≤◌, ℕ, List, length, subst, sym, rules}
use Rattle.ee_pages.specs.Meaning.{Put}
use Rattle.ee_pages.specs.Sets.{set_of, slots_of}
use Rattle.ee_index.specs.Lent.{lent_entries, lent_room}
use Rattle.ee_index.specs.Index.{IsReadyFor, slot_for}
use Rattle.ee_index.proofs.IndexedLookups.{given_err, given_ok, has_index}
use Rattle.ee_index.proofs.Indexing.{fill_small}
use Rattle.ee_index.proofs.LentRooms.{small_for}
use Rattle.ee_index.proofs.lent_index.LentIndexLookup.make_ready.Goals as goal

pub returns-clause-ready : goal.returns-clause-ready
returns-clause-ready g c =
    let device = g.F.Flash.device c.args._flash.now in
    let held = lent_entries c.args.self.now.list in
    let slots = slots_of (set_of c.args.layout.now.side device) in
    let after = slot_for (lent_entries c.insert.new.self) in
    let indexes = c.requires.fits.0 c.if-self.false in (
      λ kept. subst (λ fill. IsReadyFor slots (Put c.args.put.address 0) fill after)
          c.requires.layout.fill (
            slot_for held,
            indexes,
            given_ok _ (sym c.is_err-self.ensures.value ∙ kept) c.insert.ensures.entered,
          ),
      λ gone.
          let refused = sym c.is_err-self.ensures.value ∙ gone in
          let full =
          subst (λ (entries : List (ℕ × ℕ)). lent_room c.insert.new.self ≤ length entries)
          (given_err _ refused c.insert.ensures.err) (given_err _ refused c.insert.ensures.full) in
          small_for device _ held _ _ (has_index device _ held c.requires.layout indexes)
          c.insert.ensures.ordered full (given_err _ refused c.insert.ensures.absent),
    )

pub insert-requires : goal.insert-requires
insert-requires g c = search (rules, fill_small)
