-- What the checker's walk shows: each stretch is forced, or a first one has a flaw, and not both.
use Rattle.std.proofs.Common.{◌≡◌, ◌⊎◌, ℕ, ◌+◌, ◌-◌, ◌<◌, ◌≤◌, ◌++◌, List, [], ◌∷◌, length, take, drop, get_or, slice_range, suc, sym, ◌∙◌, ap, subst, arith, inl, inr, Result, Ok, Err, IfOk, IfErr, MatchResult, rules}
use Rattle.std.proofs.lemmas.Grind.{common_steps}
use Rattle.std.proofs.Math.Seq.{take-add, drop-cons}
use Rattle.std.proofs.lemmas.List.{take_more, take-append-drop, length-take-le}
use Rattle.ee_check.specs.declared.change.Change.{Change}
use Rattle.ee_check.specs.declared.certificate.Stretch.{Stretch}
use Rattle.ee_check.specs.declared.checking.CheckFault.{CheckFault}
use Rattle.ee_check.specs.declared.checking.CheckFault.TheVariants.{Memory}
use Rattle.ee_check.specs.Live.{live_after}
use Rattle.ee_check.specs.Schedule.{Situation, IsProper, Move, IsSchedule, cost}
use Rattle.ee_check.specs.Certificate.{Claim, Place, first_place, place_at, last_place, IsForced, EachStretch, IsCertificateHeader, IsCertificate}
use Rattle.ee_check.specs.Fault.{IsFlaw, IsFirstFlaw, IsCause}
use Rattle.ee_check.specs.Walk.{Walked, IsInTrace}
use Rattle.ee_check.proofs.Stretches.{EachStretch-append, last_place-append}
use Rattle.ee_check.proofs.Walks.{live_after-append}
use Rattle.ee_check.proofs.Bounds.{certificates_bound_schedules_lem}

-- ---- one stretch further

-- the changes that a stretch adds
passed_live : (start : List ℕ) (trace : List Change) (after to : ℕ) → after ≤ to
    → live_after (live_after start (take after trace)) (slice_range trace after to)
    ≡ live_after start (take to trace)
passed_live start trace after to h =
    let e : to ≡ after + (to - after) = omega arith in
    sym (live_after-append start (take after trace) (slice_range trace after to))
    ∙ ap (live_after start) (sym (take-add after (to - after) trace))
    ∙ ap (λ n. live_after start (take n trace)) (sym e)

-- what holds when the walk has come so far
pub record IsSoFar (start : Situation) (trace : List Change) (stretches : List Stretch) (n : ℕ)
    (walk : Walked) : Type 0 where
  pub forced : EachStretch start trace IsForced (first_place start) (take n stretches)
  pub place : walk.place ≡ last_place start trace (first_place start) (take n stretches)
  pub in_trace : IsInTrace start trace walk

pub one_further : (start : Situation) (trace : List Change) (stretches : List Stretch) (n : ℕ)
    (d : Stretch) (old new : Walked)
    → n < length stretches → IsSoFar start trace stretches n old
    → IsForced start trace old.place (get_or stretches n d)
    → new.live ≡ live_after old.live (slice_range trace old.place.after (get_or stretches n d).to)
    → new.place ≡ record { after = (get_or stretches n d).to; used = length new.live }
    → IsSoFar start trace stretches (n + 1) new
one_further start trace stretches n d old new h so_far forced live place =
    grind (arith, common_steps, take_more, passed_live, EachStretch-append, last_place-append)

-- a flaw that is met is the first
pub flaw_met : (start : Situation) (trace : List Change) (stretches : List Stretch) (n count : ℕ)
    (d : Stretch) (walk : Walked) (fault : CheckFault)
    → n < length stretches → count ≡ n → IsSoFar start trace stretches n walk
    → IsFlaw start trace walk.place (get_or stretches n d) (count + 1) fault
    → IsFirstFlaw start trace stretches fault
flaw_met start trace stretches n count d walk fault h counted so_far flaw =
    let short : length (take n stretches) ≡ n = length-take-le n stretches (omega arith) in
    let number : count + 1 ≡ length (take n stretches) + 1 = omega arith in
    record {
      good = take n stretches;
      bad = get_or stretches n d;
      more = drop (suc n) stretches;
      stretches_are =
          sym (take-append-drop n stretches)
          ∙ ap (λ l. take n stretches ++ l) (drop-cons stretches n d h);
      forced = so_far.forced;
      flaw = subst
          (λ m. IsFlaw start trace (last_place start trace (first_place start) (take n stretches))
          (get_or stretches n d) m fault) number
          (subst (λ p. IsFlaw start trace p (get_or stretches n d) (count + 1) fault) so_far.place
          flaw);
    }

-- ---- a stretch has one flaw at most, and a forced one has none

no_flaw : (start : Situation) (trace : List Change) (place : Place) (stretch : Stretch) (n : ℕ)
    (fault : CheckFault)
    → IsForced start trace place stretch → IsFlaw start trace place stretch n fault → ⊥
no_flaw start trace place stretch n fault h1 h2 = search rules

one_flaw : (start : Situation) (trace : List Change) (place : Place) (stretch : Stretch) (n : ℕ)
    (fault other : CheckFault)
    → IsFlaw start trace place stretch n fault → IsFlaw start trace place stretch n other
    → fault ≡ other
one_flaw start trace place stretch n fault other h1 h2 = search rules

-- ---- and so for a list of stretches, seen from its front

-- the first flaw of the stretches, of which the first has number n
Flawed : Situation → List Change → Place → ℕ → List Stretch → CheckFault → Type 0
Flawed start trace place n [] fault = ⊥
Flawed start trace place n (stretch ∷ stretches) fault =
    IsFlaw start trace place stretch n fault
    ⊎ (IsForced start trace place stretch
    × Flawed start trace (place_at start trace stretch.to) (n + 1) stretches fault)

flawed_behind : (start : Situation) (trace : List Change) (place : Place) (n m : ℕ)
    (good more : List Stretch) (bad : Stretch) (fault : CheckFault)
    → EachStretch start trace IsForced place good → length good + n ≡ m
    → IsFlaw start trace (last_place start trace place good) bad m fault
    → Flawed start trace place n (good ++ bad ∷ more) fault
unfolding Flawed
flawed_behind start trace place n m [] more bad fault each e flaw = search rules
flawed_behind start trace place n m (stretch ∷ good) more bad fault each e flaw =
    search (
      rules,
      (flawed_behind start trace (place_at start trace stretch.to) (n + 1) m good more bad fault
          each.1 (omega arith) flaw),
    )

first_is_flawed : (start : Situation) (trace : List Change) (stretches : List Stretch)
    (fault : CheckFault)
    → IsFirstFlaw start trace stretches fault
    → Flawed start trace (first_place start) 1 stretches fault
first_is_flawed start trace stretches fault first = search (rules, Flawed, flawed_behind)

none_flawed : (start : Situation) (trace : List Change) (place : Place) (n : ℕ)
    (stretches : List Stretch) (fault : CheckFault)
    → EachStretch start trace IsForced place stretches → Flawed start trace place n stretches fault
    → ⊥
unfolding Flawed
none_flawed start trace place n [] fault each flawed = flawed
none_flawed start trace place n (stretch ∷ stretches) fault each (inl flaw) =
    no_flaw start trace place stretch n fault each.0 flaw
none_flawed start trace place n (stretch ∷ stretches) fault each (inr rest) =
    none_flawed start trace (place_at start trace stretch.to) (n + 1) stretches fault each.1 rest.1

one_flawed : (start : Situation) (trace : List Change) (place : Place) (n : ℕ)
    (stretches : List Stretch) (fault other : CheckFault)
    → Flawed start trace place n stretches fault → Flawed start trace place n stretches other
    → fault ≡ other
unfolding Flawed
one_flawed start trace place n [] fault other h k = absurd h
one_flawed start trace place n (stretch ∷ stretches) fault other (inl h) (inl k) =
    one_flaw start trace place stretch n fault other h k
one_flawed start trace place n (stretch ∷ stretches) fault other (inl h) (inr k) =
    absurd (no_flaw start trace place stretch n fault k.0 h)
one_flawed start trace place n (stretch ∷ stretches) fault other (inr h) (inl k) =
    absurd (no_flaw start trace place stretch n other h.0 k)
one_flawed start trace place n (stretch ∷ stretches) fault other (inr h) (inr k) =
    search (
      rules,
      (one_flawed start trace (place_at start trace stretch.to) (n + 1) stretches fault other h.1
          k.1),
    )

-- ---- what the checker answers, where the header is right

-- the stretches of a claim whose header is right have this flaw
flaw_of_cause : (start : Situation) (trace : List Change) (claim : Claim) (cause : CheckFault)
    → IsCertificateHeader start trace claim → IsCause start trace claim cause
    → IsFirstFlaw start trace claim.stretches cause
flaw_of_cause start trace claim cause h1 h2 = search rules

abbrev pub Answers : Situation → List Change → Claim → Result ℕ CheckFault → Type 0
Answers start trace claim r =
    IfOk r
    (λ k. EachStretch start trace IsForced (first_place start) claim.stretches
    × (k ≡ length claim.stretches))
    × IfErr r (λ fault. IsFirstFlaw start trace claim.stretches fault ⊎ (fault ≡ Memory))

-- the stretches that were looked at are the claim's
pub answers_for : (start : Situation) (trace : List Change) (claim : Claim)
    (stretches : List Stretch) (r : Result ℕ CheckFault)
    → stretches ≡ claim.stretches
    → IfOk r
    (λ k.
    EachStretch start trace IsForced (first_place start) stretches × (k ≡ length stretches))
    → IfErr r (λ fault. IsFirstFlaw start trace stretches fault ⊎ (fault ≡ Memory))
    → Answers start trace claim r
answers_for start trace claim stretches r e ok err = search rules

pub bound_answered : (start : Situation) (trace : List Change) (claim : Claim)
    (r : Result ℕ CheckFault)
    → IsProper start → IsCertificateHeader start trace claim → Answers start trace claim r
    → IfOk r (λ k. (moves : List Move) → IsSchedule start trace moves → k ≤ cost moves)
bound_answered start trace claim r h1 h2 h3 = search (rules, certificates_bound_schedules_lem)

pub certificate_answered : (start : Situation) (trace : List Change) (claim : Claim)
    (r : Result ℕ CheckFault)
    → Answers start trace claim r → IsCertificate start trace claim
    → MatchResult r (λ k. k ≡ length claim.stretches) (λ fault. fault ≡ Memory)
certificate_answered start trace claim (Ok k) answers certificate = answers.0.1
certificate_answered start trace claim (Err fault) answers certificate =
    elim answers.1 [
      | inl first ↦ absurd
          (none_flawed start trace (first_place start) 1 claim.stretches fault certificate.stretches
          (first_is_flawed start trace claim.stretches fault first))
      | inr memory ↦ memory
    ]

pub cause_answered : (start : Situation) (trace : List Change) (claim : Claim)
    (r : Result ℕ CheckFault)
    → IsCertificateHeader start trace claim → Answers start trace claim r → (cause : CheckFault)
    → IsCause start trace claim cause
    → MatchResult r (λ _. ⊥) (λ fault. (fault ≡ cause) ⊎ (fault ≡ Memory))
cause_answered start trace claim (Ok k) header answers cause why =
    none_flawed start trace (first_place start) 1 claim.stretches cause answers.0.0
    (first_is_flawed start trace claim.stretches cause
    (flaw_of_cause start trace claim cause header why))
cause_answered start trace claim (Err fault) header answers cause why =
    elim answers.1 [
      | inl first ↦ inl (one_flawed start trace (first_place start) 1 claim.stretches fault cause
          (first_is_flawed start trace claim.stretches fault first)
          (first_is_flawed start trace claim.stretches cause
          (flaw_of_cause start trace claim cause header why)))
      | inr memory ↦ inr memory
    ]
