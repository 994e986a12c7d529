use Rattle.std.proofs.Common.{◌∙◌, rules}
use Rattle.ee_core.proofs.Public.{always_on_err}
use Rattle.ee_index.proofs.IndexedRooms.{entered_more, has_new, was_new}
use Rattle.ee_index.proofs.LentRooms.{overfills_known}
use Rattle.ee_index.proofs.index_changing.enter_hidden.Goals as goal

pub entries-preserved : goal.entries-preserved
entries-preserved g c =
    let old = (g.L.Listing.list c.args.list.now) in
    let now = (g.L.Listing.list c.entries.list) in
    let next = (g.L.Listing.list c.enter_new.new.list) in
    record {
      shown = λ address. c.enter_new.ensures.shown address ∙ c.entries.invariant.shown address;
      there =
          entered_more c.args.fill _ _ _ c.entries-test.true c.put-item.is old now next
          c.entries.invariant.there c.in_ok-enter_new.ensures.there;
      same_room = c.enter_new.ensures.same_room ∙ c.entries.invariant.same_room;
    }

pub returns-in_err-enter_new-clause-new : goal.returns-in_err-enter_new-clause-new
returns-in_err-enter_new-clause-new g c = search (rules, was_new, always_on_err, has_new)

pub returns-in_err-enter_new-clause-full : goal.returns-in_err-enter_new-clause-full
returns-in_err-enter_new-clause-full g c =
    let old = (g.L.Listing.list c.args.list.now) in
    let now = (g.L.Listing.list c.entries.list) in
    let so_far = c.entries.invariant.there in
    let failed = c.in_err-enter_new.ensures in
    always_on_err _
    (overfills_known c.args.puts.now c.entries.put-index _ c.entries-test.true c.put-item.is old now
    failed.ordered so_far
    (was_new c.args.fill c.args.puts.now c.entries.put-index _ c.entries-test.true c.put-item.is old
    now now so_far failed.absent)
    (g.L.Listing.room c.enter_new.new.list) failed.full)
