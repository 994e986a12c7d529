-- A list of steps can be taken in one way at most, so that a struct may state it of its fields.
use mathlib.Core.Path.{◌≡◌, refl, sym, ap, ◌∙◌}
use mathlib.Core.HLevel.{collapsible→set, ×_prop}
use Rattle.std.specs.Prelude.{ℕ, Option, Some, None, List, [], ◌∷◌}
use Rattle.std.proofs.Props as below
use Rattle.ee_flash.specs.Device.{Device}
use Rattle.ee_flash.specs.Endurance.{CanTakeAll}
use Rattle.ee_flash.specs.Laws.{CanTake}
use Rattle.ee_flash.specs.Step.{Step, Program, Erase, device_after}
use Rattle.ee_flash.specs.declared.word.Word.{Word}
use Rattle.ee_flash.specs.declared.word.Word.TheVariants.{Erased, Held, Torn}

-- a type that maps into a set and back is a set
retract_set : {A B : Type 0} (to : A → B) (from : B → A) → ((x : A) → from (to x) ≡ x) → IsSet B
    → IsSet A
retract_set to from back set = collapsible→set (λ x y p. sym (back x) ∙ ap from (ap to p) ∙ back y)
    (λ x y p q. ap (λ z. sym (back x) ∙ ap from z ∙ back y) (set (to x) (to y) (ap to p) (ap to q)))

pub Word-set : IsSet Word
Word-set =
    retract_set {B = Option (Option ℕ)}
    (elim [ Erased ↦ None | Held n ↦ Some (Some n) | Torn ↦ Some None ])
    (elim [ None ↦ Erased | Some (Some n) ↦ Held n | Some None ↦ Torn ])
    (elim [ Erased ↦ refl | Held n ↦ refl | Torn ↦ refl ]) (Prim.hlevel below.props)

pub ruleset words = (Word-set, below.props)

pub CanTake-prop : (step : Step) (device : Device) → IsProp (CanTake step device)
CanTake-prop (Program page at value) device = Prim.hlevel words
CanTake-prop (Erase page) device = Prim.hlevel words

pub CanTakeAll-prop : (steps : List Step) (device : Device) → IsProp (CanTakeAll steps device)
CanTakeAll-prop [] device = Prim.hlevel words
CanTakeAll-prop (step ∷ steps) device =
    ×_prop (CanTake-prop step device) (CanTakeAll-prop steps (device_after step device))
