use Rattle.std.proofs.Common.{◌≡◌, ℕ, Bool, Option, Some, arith, rules}
use Rattle.std.specs.Prelude.{◌↔◌, IsTrue}
use Rattle.std.specs.Option.{option_eq}
use Rattle.std.proofs.lemmas.Grind.{common_steps}
use lib.Dec.{eqb}
use Rattle.ee_store.proofs.power_cuts.driving.put.Goals as goal

-- the image has the value where a look at it says so
has_value : (found : Bool) (looked held : Option ℕ) (value : ℕ)
    → found ≡ option_eq eqb looked (Some value) → looked ≡ held
    → IsTrue found ↔ (held ≡ Some value)
has_value found looked held value is same = grind (arith, common_steps)

pub returns-in-Err-Cut : goal.returns-in-Err-Cut
returns-in-Err-Cut g c = record {
  happens = search rules;
  serving_is = search rules;
  looked =
      rw c.looked-note.ensures
      (has_value c.eq-found.result c.value_in.result _ c.args.value c.eq-found.ensures
      c.value_in.ensures);
}
