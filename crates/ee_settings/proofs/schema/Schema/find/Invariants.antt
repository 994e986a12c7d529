use Rattle.std.proofs.Common.{◌≡◌}
use Rattle.ee_settings.proofs.Entries.{NoneOf}
use Rattle.ee_settings.proofs.schema.Schema.find.Given as goal

-- none of the settings so far has the name
abbrev pub invariant-loop-setting : goal.invariant-loop-setting
invariant-loop-setting g l = NoneOf (λ setting. setting.name ≡ l.name) l.self.settings l.setting-index
