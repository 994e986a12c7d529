use Rattle.std.proofs.Common.{◌∙◌}
use Rattle.ee_settings.proofs.Addresses.{last_by, span_taken}
use Rattle.ee_settings.proofs.settings.Settings.with_record.Goals as goal

pub invariant_of-result : goal.invariant_of-result
invariant_of-result g c = rw c.in_ok-push.ensures.items
    (span_taken
    (record { settings = c.self.inside.items.items; records = c.self.inside.records.items })
    c.args.one c.self.inside.addresses c.insert_span.new.addresses c.get.result
    c.last_address-last.result (c.get.ensures.number ∙ c.room-room.ensures.base)
    (last_by _ _ _ _ _ c.last_address-last.ensures c.room-room.ensures.base
    c.room-room.ensures.size) c.in_ok-insert_span.ensures c.self.invariant)
