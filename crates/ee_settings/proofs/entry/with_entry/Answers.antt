use Rattle.std.proofs.Common.{arith, subst, Option, Ok}
use Rattle.std.specs.Prelude.{IfSome}
use Rattle.std.proofs.lemmas.Grind.{common_steps}
use Rattle.toml.specs.View.{view}
use Rattle.ee_settings.specs.File.{GivesItem}
use Rattle.ee_settings.specs.Setting.{Kept, RecordSetting}
use Rattle.ee_settings.proofs.entry.with_entry.Goals as goal

pub overflow_add-number : goal.overflow_add-number
overflow_add-number g c = grind (arith, common_steps)

pub returns-in-Ok-clause-ok : goal.returns-in-Ok-clause-ok
returns-in-Ok-clause-ok g c = (
  Kept c.in-Some.one,
  c.in-Ok.ensures,
  subst
      (λ (found : Option RecordSetting). IfSome found (λ one.
      GivesItem c.args.settings 0 (c.args.name.now, view c.args.value.now) (Ok (Kept one))))
      c.in-Some.is c.in_ok-one.ensures.one,
)
