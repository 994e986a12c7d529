use Rattle.ee_settings.proofs.Addresses.{one_taken}
use Rattle.ee_settings.proofs.settings.Settings.with.Goals as goal

pub invariant_of-result : goal.invariant_of-result
invariant_of-result g c = rw c.in_ok-push.ensures.items
    (one_taken (record { settings = c.self.inside.items.items; records = c.self.inside.records.items }) c.args.setting c.numbers.result c.self.inside.addresses
    c.insert.new.self c.numbers.ensures.numbers c.in_ok-insert.ensures.updates.0
    c.self.invariant)
