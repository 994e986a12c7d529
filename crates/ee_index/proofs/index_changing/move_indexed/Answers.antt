use Rattle.std.proofs.Common.{◌∙◌, rules}
use Rattle.ee_pages.specs.Sets.{set_of, slots_of}
use Rattle.ee_index.specs.Index.{IsLeft, is_filled}
use Rattle.ee_index.proofs.Followed.{gone_over, index_followed, numbers_few}
use Rattle.ee_index.proofs.IndexReaders.{left_first}
use Rattle.ee_index.proofs.index_changing.move_indexed.Goals as goal

pub move_changes-requires-clause-over : goal.move_changes-requires-clause-over
move_changes-requires-clause-over g c =
    let old = g.F.Flash.device c.args.flash.now in
    let slots = slots_of (set_of c.args.layout.now.side old) in
    let over =
    gone_over old old c.args.layout.now c.args.layout.now _ _ _ c.requires.apart
    c.requires.room in
    let left : IsLeft slots (is_filled slots) c.new-cursor.result.after
    c.new-cursor.result.entries.now =
    rw (c.new-cursor.ensures.entries, c.new-cursor.ensures.first)
    (left_first slots _ _ c.new-cursor.ensures.ordered over.proper over.indexes) in
    record { fill_is = c.new-cursor.ensures.fill ∙ c.requires.layout.fill; left = left }

pub follow-requires : goal.follow-requires
follow-requires g c = search (rules, numbers_few)

pub returns : goal.returns
returns g c = record {
  moved = c.in_ok-move_changes.ensures.moved;
  cut = tt;
  store = c.move_changes.ensures.store;
  layout = c.move_changes.ensures.layout;
  index = λ on. index_followed _ _ _ _ _ _ _ c.requires.apart c.requires.room
      c.in_ok-move_changes.ensures.set_moved _ c.follow.ensures.numbered;
}
