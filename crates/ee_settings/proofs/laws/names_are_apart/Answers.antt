use Rattle.std.proofs.Common.{◌≡◌, ◌∙◌, ℕ, List, rules, sym}
use Rattle.ee_settings.specs.Calls.{IsNamed}
use Rattle.ee_settings.specs.Setting.{IsSchema, Setting}
use Rattle.ee_settings.proofs.Names.{names_apart}
use Rattle.ee_settings.proofs.laws.names_are_apart.Goals as goal

one_named : (settings : List Setting) → IsSchema settings → (name : List ℕ) (one other : Setting)
    → IsNamed settings name one → IsNamed settings name other → one ≡ other
one_named settings schema name one other first second =
    names_apart settings schema.names one other first.0 second.0 (first.1 ∙ sym second.1)

pub returns : goal.returns
returns c = search (rules, one_named)
