-- What of a tight certificate is left where the trace is broken off.
use Rattle.std.proofs.Common.{◌≡◌, ℕ, ◌≤◌, List, [], ◌∷◌, ◌++◌, length, map, refl, subst, arith, inl, inr, length-append, rules}
use Rattle.std.proofs.lemmas.Bool.Decides.{leb_tells}
use Rattle.std.proofs.lemmas.List.{take-append-le}
use Rattle.std.specs.Prelude.{filter, nat_le}
use Rattle.ee_check.specs.declared.change.Change.{Change}
use Rattle.ee_check.specs.declared.certificate.Stretch.{Stretch}
use Rattle.ee_check.specs.Schedule.{Situation}
use Rattle.ee_check.specs.Certificate.{Claim, EachStretch, IsTight, IsTightStretch, Place, place_at}
use Rattle.ee_check.proofs.Public.{end_from}
use Rattle.ee_plan.specs.Planner.Plan.{moments_within}

-- those that end within the first n changes
abbrev pub stretches_within : ℕ → List Stretch → List Stretch
stretches_within n stretches = filter (λ stretch. nat_le stretch.to n) stretches

pub positions_within : (n : ℕ) (stretches : List Stretch)
    → moments_within n (map (λ stretch. stretch.to) stretches)
    ≡ map (λ stretch. stretch.to) (stretches_within n stretches)
positions_within n [] = refl
positions_within n (stretch ∷ stretches) = search (rules, leb_tells, (positions_within n stretches))

-- from a place behind them none does
none_within : (start : Situation) (trace : List Change) (place : Place) (stretches : List Stretch)
    (n : ℕ)
    → EachStretch start trace IsTightStretch place stretches → n ≤ place.after
    → stretches_within n stretches ≡ []
none_within start trace place [] n each behind = refl
none_within start trace place (stretch ∷ stretches) n each behind =
    search (
      rules,
      leb_tells,
      (none_within start trace (place_at start trace stretch.to) stretches n each.1
          (omega arith)),
    )

-- the place before a change that is still made
same_place : (start : Situation) (prefix rest : List Change) (n : ℕ) → n ≤ length prefix
    → place_at start (prefix ++ rest) n ≡ place_at start prefix n
same_place start prefix rest n within = search (rules, take-append-le)

tight_within : (start : Situation) (prefix rest : List Change) (place : Place)
    (stretches : List Stretch)
    → place.after ≤ length prefix
    → EachStretch start (prefix ++ rest) IsTightStretch place stretches
    → end_from start (prefix ++ rest) place stretches ≤ start.slots
    → EachStretch start prefix IsTightStretch place (stretches_within (length prefix) stretches)
    × (end_from start prefix place (stretches_within (length prefix) stretches) ≤ start.slots)
tight_within start prefix rest place [] here each fits =
    (tt, let a = length-append prefix rest in omega arith)
tight_within start prefix rest place (stretch ∷ stretches) here each fits =
    let forced = each.0.forced in
    elim (leb_tells stretch.to (length prefix)) [
      | inl within ↦
          let more =
          tight_within start prefix rest (place_at start (prefix ++ rest) stretch.to) stretches
          within.1 each.1 fits in
          let same = same_place start prefix rest stretch.to within.1 in
          let tight : IsTightStretch start prefix place stretch = record {
            forced = record {
              rising = forced.rising;
              within = within.1;
              from_is = forced.from_is;
              forced = forced.forced;
            };
            tight = each.0.tight;
          } in
          rw within.0 (
            (
              tight,
              subst
                  (λ p. EachStretch start prefix IsTightStretch p
                  (stretches_within (length prefix) stretches)) same more.0,
            ),
            subst
                (λ p. end_from start prefix p (stretches_within (length prefix) stretches)
                ≤ start.slots) same more.1,
          )
      | inr behind ↦
          let none =
          none_within start (prefix ++ rest) (place_at start (prefix ++ rest) stretch.to)
          stretches (length prefix) each.1 (let h = behind.1 in omega arith) in
          let a = behind.1 in
          let b = forced.from_is in
          let c = each.0.tight in
          let d = forced.rising in
          rw (behind.0, none) (tt, omega arith)
    ]

-- a claim of the trace as far as the prefix goes
abbrev pub claim_within : List Change → Claim → Claim
claim_within prefix claim =
    record claim
    { writes = length prefix; stretches = stretches_within (length prefix) claim.stretches }

pub prefix_is_tight : (start : Situation) (trace prefix rest : List Change) (claim : Claim)
    → trace ≡ prefix ++ rest → IsTight start trace claim
    → IsTight start prefix (claim_within prefix claim)
prefix_is_tight start trace prefix rest claim is tight = search (rules, tight_within)
