-- Stretches, one more at the end.
use Rattle.std.proofs.Common.{◌≡◌, ◌++◌, List, [], ◌∷◌, refl, rules}
use Rattle.ee_check.specs.declared.change.Change.{Change}
use Rattle.ee_check.specs.declared.certificate.Stretch.{Stretch}
use Rattle.ee_check.specs.Schedule.{Situation}
use Rattle.ee_check.specs.Certificate.{Place, place_at, last_place, EachStretch}

pub EachStretch-append : (start : Situation) (trace : List Change)
    (is : Situation → List Change → Place → Stretch → Type 0) (place : Place)
    (stretches : List Stretch)
    (stretch : Stretch) → EachStretch start trace is place stretches
    → is start trace (last_place start trace place stretches) stretch
    → EachStretch start trace is place (stretches ++ stretch ∷ [])
EachStretch-append start trace is place [] stretch each one = (one, tt)
EachStretch-append start trace is place (first ∷ stretches) stretch each one =
    search (
      rules,
      (EachStretch-append start trace is (place_at start trace first.to) stretches stretch each.1
          one),
    )

pub last_place-append : (start : Situation) (trace : List Change) (place : Place)
    (stretches : List Stretch) (stretch : Stretch)
    → last_place start trace place (stretches ++ stretch ∷ []) ≡ place_at start trace stretch.to
last_place-append start trace place [] stretch = refl
last_place-append start trace place (first ∷ stretches) stretch =
    last_place-append start trace (place_at start trace first.to) stretches stretch
