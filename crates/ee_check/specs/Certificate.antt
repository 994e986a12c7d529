-- What a certificate says of a start and a trace, and when it is right.
use Rattle.std.specs.Prelude.{◌≡◌, ℕ, ◌+◌, ◌-◌, ◌<◌, ◌≤◌, List, [], ◌∷◌, length}
use Rattle.ee_check.specs.declared.change.Change.{Change}
use Rattle.ee_check.specs.declared.certificate.Stretch.{Stretch}
use Rattle.ee_check.specs.declared.certificate.Certificate.{Certificate}
use Rattle.ee_check.specs.Live.{live_count}
use Rattle.ee_check.specs.Schedule.{Situation}

-- a certificate's header and its stretches
pub record Claim : Type 0 where
  pub slots : ℕ
  pub fill : ℕ
  pub live : ℕ
  pub writes : ℕ
  pub stretches : List Stretch

-- A place in the trace: so many changes stand before it, and a store that has made no more
-- transfers than it had to uses so many slots at least.
pub record Place : Type 0 where
  pub after : ℕ
  pub used : ℕ

-- before the trace, as many slots are used as the start says
abbrev pub first_place : Situation → Place
first_place start = record { after = 0; used = start.fill }

-- a transfer just before this place leaves a slot for each address live there
abbrev pub place_at : Situation → List Change → ℕ → Place
place_at start trace n = record { after = n; used = live_count start.live trace n }

-- the place at which the last of the stretches ends
abbrev pub last_place : Situation → List Change → Place → List Stretch → Place
last_place start trace place [] = place
last_place start trace place (stretch ∷ stretches) =
    last_place start trace (place_at start trace stretch.to) stretches

-- The stretch goes on from the place to a later change of the trace, states how many slots are used
-- there, and has more changes than the slots that are free: no store appends them all.
pub record IsForced (start : Situation) (trace : List Change) (place : Place) (stretch : Stretch)
    : Type 0 where
  pub rising : place.after < stretch.to
  pub within : stretch.to ≤ length trace
  pub from_is : stretch.from ≡ place.used
  pub forced : start.slots < stretch.from + (stretch.to - place.after)

-- a tight one has one change more than slots are free
pub record IsTightStretch (start : Situation) (trace : List Change) (place : Place)
    (stretch : Stretch) : Type 0 where
  pub forced : IsForced start trace place stretch
  pub tight : stretch.from + (stretch.to - place.after) ≡ start.slots + 1

-- each stretch is so from where the one before it ends
abbrev pub EachStretch : Situation → List Change
    → (Situation → List Change → Place → Stretch → Type 0) → Place → List Stretch → Type 0
EachStretch start trace is place [] = Unit {0}
EachStretch start trace is place (stretch ∷ stretches) =
    is start trace place stretch
    × EachStretch start trace is (place_at start trace stretch.to) stretches

-- the header is the start's and the trace's
pub record IsCertificateHeader (start : Situation) (trace : List Change) (claim : Claim)
    : Type 0 where
  pub slots : claim.slots ≡ start.slots
  pub fill : claim.fill ≡ start.fill
  pub live : claim.live ≡ length start.live
  pub writes : claim.writes ≡ length trace

-- a certificate of a start and a trace
pub record IsCertificate (start : Situation) (trace : List Change) (claim : Claim) : Type 0 where
  pub header : IsCertificateHeader start trace claim
  pub stretches : EachStretch start trace IsForced (first_place start) claim.stretches

-- how many slots are used at the end at least, where no transfer more is made than
-- the stretches force
abbrev pub used_at_end : Situation → List Change → List Stretch → ℕ
used_at_end start trace stretches =
    let last = last_place start trace (first_place start) stretches in
    last.used + (length trace - last.after)

-- a tight certificate: no stretch is longer than it must be, and after the last one all
-- changes find a free slot
pub record IsTight (start : Situation) (trace : List Change) (claim : Claim) : Type 0 where
  pub header : IsCertificateHeader start trace claim
  pub stretches : EachStretch start trace IsTightStretch (first_place start) claim.stretches
  pub fits : used_at_end start trace claim.stretches ≤ start.slots

-- how many slots are free at the end at most
abbrev pub room : Situation → List Change → List Stretch → ℕ
room start trace stretches = start.slots - used_at_end start trace stretches

-- what a certificate in memory says
abbrev pub claim_of : {A : Type 0} → Certificate A → Claim
claim_of certificate = record {
  slots = certificate.slots;
  fill = certificate.fill;
  live = certificate.live;
  writes = certificate.writes;
  stretches = certificate.stretches.items;
}
