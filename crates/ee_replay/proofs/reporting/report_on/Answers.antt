use Rattle.std.proofs.Common.{rules}
use Rattle.ee_replay.proofs.Reported.{is_served}
use Rattle.ee_replay.proofs.reporting.report_on.Goals as goal

-- the parts of the report are found anew, so that another one leaves a goal open
pub returns : goal.returns
returns g c = λ old script run start proper stays.
    is_served old _ script _ _ _ run start proper stays c.push_desk.new.report.items
    c.push_certificate.new.report.items (search rules) (search rules) (search rules)
