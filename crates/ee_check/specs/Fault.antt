-- Why a certificate is refused: the first of these that applies.
use Rattle.std.specs.Prelude.{◌≡◌, ◌≢◌, ◌⊎◌, ℕ, ◌+◌, ◌-◌, ◌<◌, ◌≤◌, List, ◌∷◌, ◌++◌, length}
use Rattle.ee_check.specs.declared.change.Change.{Change}
use Rattle.ee_check.specs.declared.certificate.Stretch.{Stretch}
use Rattle.ee_check.specs.declared.checking.CheckFault.{CheckFault}
use Rattle.ee_check.specs.declared.checking.CheckFault.TheVariants.{WrongStart, NotRising, WrongFrom, NotForced}
use Rattle.ee_check.specs.Schedule.{Situation}
use Rattle.ee_check.specs.Certificate.{Claim, Place, first_place, last_place, IsForced, EachStretch, IsCertificateHeader}

-- a stretch that begins here goes on to a later change of the trace
abbrev pub Rises : List Change → Place → Stretch → Type 0
Rises trace place stretch = (place.after < stretch.to) × (stretch.to ≤ length trace)

-- it ends at the place or before it, or behind the trace
abbrev pub DoesNotRise : Situation → List Change → Place → Stretch → Type 0
DoesNotRise start trace place stretch = (stretch.to ≤ place.after) ⊎ (length trace < stretch.to)

-- it rises, and states another number of slots
abbrev pub HasWrongFrom : Situation → List Change → Place → Stretch → Type 0
HasWrongFrom start trace place stretch = Rises trace place stretch × (stretch.from ≢ place.used)

-- it rises and states the right number, and all its changes may find a free slot
abbrev pub DoesNotForce : Situation → List Change → Place → Stretch → Type 0
DoesNotForce start trace place stretch =
    Rises trace place stretch × (stretch.from ≡ place.used)
    × (stretch.from + (stretch.to - place.after) ≤ start.slots)

-- what is wrong with stretch n, which begins here
abbrev pub IsFlaw : Situation → List Change → Place → Stretch → ℕ → CheckFault → Type 0
IsFlaw start trace place stretch n (NotRising number) =
    (number ≡ n) × DoesNotRise start trace place stretch
IsFlaw start trace place stretch n (WrongFrom number) =
    (number ≡ n) × HasWrongFrom start trace place stretch
IsFlaw start trace place stretch n (NotForced number) =
    (number ≡ n) × DoesNotForce start trace place stretch
IsFlaw start trace place stretch n fault = ⊥

-- the fault is the flaw of one of the stretches; those before it are forced
pub record IsFirstFlaw (start : Situation) (trace : List Change) (stretches : List Stretch)
    (fault : CheckFault) : Type 0 where
  pub good : List Stretch
  pub bad : Stretch
  pub more : List Stretch
  pub stretches_are : stretches ≡ good ++ bad ∷ more
  pub forced : EachStretch start trace IsForced (first_place start) good
  pub flaw : IsFlaw start trace (last_place start trace (first_place start) good) bad
      (length good + 1) fault

-- the cause of a fault; want of memory has none that a certificate shows
abbrev pub IsCause : Situation → List Change → Claim → CheckFault → Type 0
IsCause start trace claim WrongStart = ¬ IsCertificateHeader start trace claim
IsCause start trace claim fault =
    IsCertificateHeader start trace claim × IsFirstFlaw start trace claim.stretches fault
