use Rattle.std.proofs.Common.{subst}
use Rattle.ee_pages.specs.Layout.{IsScanFault}
use Rattle.ee_core.proofs.Startable.{foreign_stays, none_committed, two_live_stays}
use Rattle.ee_core.proofs.first_start.is_startable.Goals as goal

pub returns-in-TwoLive-clause-no : goal.returns-in-TwoLive-clause-no
returns-in-TwoLive-clause-no g c = λ _.
    let device = g.F.Flash.device c.args.flash.now in
    two_live_stays device (subst (IsScanFault device) c.in-TwoLive.is c.requires)

pub returns-in-Foreign-clause-no : goal.returns-in-Foreign-clause-no
returns-in-Foreign-clause-no g c = λ _.
    let device = g.F.Flash.device c.args.flash.now in
    foreign_stays device c.in-Foreign.page c.in-Foreign.at
    (subst (IsScanFault device) c.in-Foreign.is c.requires)

pub returns-in-NoLiveSet : goal.returns-in-NoLiveSet
returns-in-NoLiveSet g c =
    let device = g.F.Flash.device c.args.flash.now in
    record {
      yes =
          λ yes. record {
            uncommitted =
                none_committed device (subst (IsScanFault device) c.in-NoLiveSet.is c.requires);
            none_held = c.holds_none.ensures.yes yes;
          };
      no = λ no startable. c.holds_none.ensures.no no startable.none_held;
    }
