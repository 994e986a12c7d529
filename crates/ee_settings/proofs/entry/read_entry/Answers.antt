use Rattle.std.proofs.Common.{◌≡◌, ◌∙◌, refl, rules, sym, true}
use Rattle.std.proofs.lemmas.Bool.{eq-eqb}
use Rattle.toml.specs.View.{view}
use Rattle.ee_settings.proofs.Entries.{entry_is}
use Rattle.ee_settings.specs.Setting.{Number, is_name}
use Rattle.ee_settings.proofs.entry.read_entry.Goals as goal

pub returns-then-has-clause-err : goal.returns-then-has-clause-err
returns-then-has-clause-err g c =
    let named : is_name c.args.name.now ≡ true = search rules in (
      refl,
      (
        Number (record { name = c.args.name.now; numbers = c.in-Some-checked.numbers }),
        entry_is c.args.name.now (view c.args.value.now) c.in-Some.fields c.in-Some-checked.numbers
            named c.in-Some.ensures.found c.in-Some-checked.ensures.found
            c.in-Some-checked.ensures.proper,
        (
          c.in-Some-checked.numbers.address,
          eq-eqb _ _ refl,
          sym c.has.ensures ∙ c.if-has.true,
        ),
      ),
    )
