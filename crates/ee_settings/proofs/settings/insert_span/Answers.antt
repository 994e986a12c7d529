use Rattle.std.proofs.Common.{arith}
use Rattle.ee_settings.proofs.Addresses.{all_put, none_put, put_more}
use Rattle.ee_settings.proofs.settings.insert_span.Goals as goal

pub each-init : goal.each-init
each-init g c = none_put c.args.first c.args.last c.args.addresses.now c.requires.span

pub each-preserved : goal.each-preserved
each-preserved g c = put_more c.args.first c.each.number c.args.last c.args.addresses.now
    c.each.addresses c.insert_number.new.addresses c.each.invariant (omega arith)
    c.in_ok-insert_number.ensures

pub returns : goal.returns
returns g c = all_put c.args.first c.each.number c.args.last c.args.addresses.now c.each.addresses
    c.each.invariant c.each-test.false
