-- What holds of every start, trace, certificate and schedule, and of every text.
use Rattle.std.specs.Prelude.{◌≡◌, ◌⊎◌, ℕ, ◌<◌, ◌≤◌, List, length, map}
use Rattle.ee_check.specs.declared.change.Change.{Change}
use Rattle.ee_check.specs.Live.{KeepsWithin}
use Rattle.ee_check.specs.Schedule.{Situation, IsProper, Move, IsSchedule, EachMove, IsLate, after_moves, changes_of, carried_at, cost}
use Rattle.ee_check.specs.Certificate.{Claim, IsCertificate, IsTight, used_at_end}
use Rattle.ee_check.specs.Text.{IsText, IsFirstBadCertificateLine}

-- every schedule costs at least as much as a certificate has stretches
abbrev pub CertificatesBoundSchedules : Type 0
CertificatesBoundSchedules =
    (start : Situation) (trace : List Change) (claim : Claim) (moves : List Move) → IsProper start
    → IsCertificate start trace claim
    → IsSchedule start trace moves → length claim.stretches ≤ cost moves

-- and one that costs no more ends with at least as many slots used as the certificate says
abbrev pub CertificatesDominate : Type 0
CertificatesDominate =
    (start : Situation) (trace : List Change) (claim : Claim) (moves : List Move) → IsProper start
    → IsCertificate start trace claim
    → IsSchedule start trace moves
    → (length claim.stretches < cost moves)
    ⊎ ((cost moves ≡ length claim.stretches)
    × (used_at_end start trace claim.stretches ≤ (after_moves start moves).fill))

-- the trace of a schedule keeps within the slots
abbrev pub SchedulesKeepWithin : Type 0
SchedulesKeepWithin =
    (start : Situation) (trace : List Change) (moves : List Move) → IsProper start
    → IsSchedule start trace moves
    → KeepsWithin start.slots start.live trace

-- a tight certificate is one
abbrev pub TightAreCertificates : Type 0
TightAreCertificates =
    (start : Situation) (trace : List Change) (claim : Claim) → IsTight start trace claim
    → IsCertificate start trace claim

-- there is one tight certificate at most
abbrev pub OneIsTight : Type 0
OneIsTight =
    (start : Situation) (trace : List Change) (claim other : Claim) → IsTight start trace claim
    → IsTight start trace other → claim ≡ other

-- and there is one where the trace keeps within the slots
abbrev pub SomeIsTight : Type 0
SomeIsTight =
    (start : Situation) (trace : List Change) → IsProper start
    → KeepsWithin start.slots start.live trace
    → (claim : Claim) × IsTight start trace claim

-- a schedule of its cost, which ends with just so many slots used
abbrev pub TightIsMet : Type 0
TightIsMet =
    (start : Situation) (trace : List Change) (claim : Claim) → IsProper start
    → IsTight start trace claim
    → (moves : List Move) × IsSchedule start trace moves × (cost moves ≡ length claim.stretches)
    × ((after_moves start moves).fill ≡ used_at_end start trace claim.stretches)

-- The store that transfers exactly when each slot is used transfers at the changes at which the
-- stretches of the tight certificate end, and ends with as many slots used as it says.
abbrev pub LateStoresMeetIt : Type 0
LateStoresMeetIt =
    (start : Situation) (trace : List Change) (claim : Claim) (moves : List Move) → IsProper start
    → IsTight start trace claim
    → changes_of moves ≡ trace → EachMove IsLate start moves
    → (carried_at 0 moves ≡ map (λ stretch. stretch.to) claim.stretches)
    × ((after_moves start moves).fill ≡ used_at_end start trace claim.stretches)

-- a text is the text of one claim at most
abbrev pub OneText : Type 0
OneText =
    (text : List ℕ) (claim other : Claim) → IsText text claim → IsText text other → claim ≡ other

-- no other line is the first bad one
abbrev pub OneFirstBadLine : Type 0
OneFirstBadLine =
    (text : List ℕ) (m n : ℕ) → IsFirstBadCertificateLine text m → IsFirstBadCertificateLine text n
    → m ≡ n

-- a claim's text has no bad line
abbrev pub TextsAreGood : Type 0
TextsAreGood =
    (text : List ℕ) (claim : Claim) (n : ℕ) → IsText text claim → IsFirstBadCertificateLine text n
    → ⊥
