use Rattle.std.proofs.Common.{List, arith, subst}
use Rattle.std.proofs.lemmas.List.{take_all}
use Rattle.ee_core.specs.State.{state_of}
use Rattle.ee_settings.specs.Setting.{RecordSetting}
use Rattle.ee_shell.specs.ByName.Listing.{AreRecordLines}
use Rattle.ee_shell.proofs.ByNameLemmas.Listings.{lines_grow}
use Rattle.ee_shell.proofs.by_name.listing.push_records.Goals as goal

pub loop-one-preserved : goal.loop-one-preserved
loop-one-preserved g c =
    lines_grow (state_of c.args.store.now).map c.args.records.now c.loop-one.one-index
    c.one-item.result c.in_ok-recorded.recorded.spelled.items c.in_ok-recorded.recorded.origin
    c.args.out.now.items c.loop-one.out.items c.push_recorded.new.out.items c.one-item.is
    c.loop-one-test.true c.loop-one.invariant c.in_ok-recorded.ensures
    c.in_ok-push_recorded.ensures

pub returns : goal.returns
returns g c = (
  c.loop-one.invariant.0,
  subst (λ (rs : List RecordSetting).
      AreRecordLines (state_of c.args.store.now).map rs c.loop-one.invariant.0)
      (take_all c.loop-one.one-index c.args.records.now (omega (arith, c.loop-one-test.false)))
      c.loop-one.invariant.1,
  c.loop-one.invariant.2,
)
