use Rattle.std.proofs.Common.{sym, subst}
use Rattle.ee_settings.proofs.Items.{settings_apart}
use Rattle.ee_settings.specs.Setting.{HaveOwnAddresses}
use Rattle.ee_settings.proofs.schema.Schema.from_table.Goals as goal

pub invariant_of-result : goal.invariant_of-result
invariant_of-result g c =
    let spelled = c.in_ok-settings.ensures.ok in
    record {
      names = c.in_ok-settings.ensures.names;
      addresses = subst HaveOwnAddresses (sym spelled.settings_are)
          (settings_apart spelled.items spelled.apart);
    }
