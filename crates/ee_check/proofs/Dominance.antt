-- No schedule gets by with fewer transfers than a certificate has stretches; and one that
-- gets by with as many ends with as many slots used as the last stretch leaves and the
-- changes after it take.
use Rattle.std.proofs.Common.{◌≡◌, ℕ, ◌+◌, ◌-◌, ◌<◌, ◌≤◌, ◌⊎◌, List, [], ◌∷◌, length, suc, refl, sym, ◌∙◌, ap, arith, inl, inr, rules}
use Rattle.std.proofs.lemmas.Bool.{cases_lt}
use Rattle.ee_check.specs.declared.change.Change.{Change}
use Rattle.ee_check.specs.declared.certificate.Stretch.{Stretch}
use Rattle.ee_check.specs.Live.{live_after_one, live_count}
use Rattle.ee_check.specs.Schedule.{Situation, Move, Copy, Append, Carry, IsAllowed, after_move, after_moves, EachMove, changes_of, cost}
use Rattle.ee_check.specs.Certificate.{Place, place_at, last_place, IsForced, EachStretch}
use Rattle.ee_check.proofs.Sizes.{changed-le}

-- a store in the middle of the trace: n changes are made, and these are to come
pub record IsAt (start : Situation) (trace : List Change) (s : Situation) (n : ℕ)
    (changes : List Change) : Type 0 where
  pub slots : s.slots ≡ start.slots
  pub rest : n + length changes ≡ length trace
  pub counts : (i : ℕ) → live_count start.live trace (n + i) ≡ live_count s.live changes i
  pub held : length s.live ≤ s.fill

-- the next stretch ends later
abbrev pub EndsLater : ℕ → List Stretch → Type 0
EndsLater n [] = Unit {0}
EndsLater n (stretch ∷ stretches) = n < stretch.to

-- it has transferred more often than stretches have passed, or as often, and uses as many slots at
-- least as the place says
abbrev pub IsAhead : Situation → ℕ → ℕ → Place → ℕ → Type 0
IsAhead s n spent place passed =
    (passed < spent) ⊎ ((passed ≡ spent) × (place.used + (n - place.after) ≤ s.fill))

-- how many slots are used at the end, from this place on
abbrev pub end_from : Situation → List Change → Place → List Stretch → ℕ
end_from start trace place stretches =
    let last = last_place start trace place stretches in last.used + (length trace - last.after)

-- A store in the middle of the trace, which has transferred so often, is behind no store: k
-- stretches are forced in all.
pub record IsBound (start : Situation) (trace : List Change) (k used : ℕ) (s : Situation)
    (n spent : ℕ) : Type 0 where
  pub passed : ℕ
  pub place : Place
  pub stretches : List Stretch
  pub all : passed + length stretches ≡ k
  pub each : EachStretch start trace IsForced place stretches
  pub behind : place.after ≤ n
  pub later : EndsLater n stretches
  pub ahead : IsAhead s n spent place passed
  pub end : end_from start trace place stretches ≡ used

-- more than k, or k and at least so many slots used
abbrev pub Dominated : ℕ → ℕ → ℕ → ℕ → Type 0
Dominated k total used fill = (k < total) ⊎ ((total ≡ k) × (used ≤ fill))

-- one change more is made
pub at_next : (start : Situation) (trace : List Change) (s : Situation) (n fill : ℕ)
    (change : Change) (changes : List Change)
    → IsAt start trace s n (change ∷ changes) → length (live_after_one s.live change) ≤ fill
    → IsAt start trace (record s { fill = fill; live = live_after_one s.live change }) (n + 1)
    changes
at_next start trace s n fill change changes at held = record {
  slots = at.slots;
  rest = omega (arith, at.rest);
  counts =
      λ i. let e : n + 1 + i ≡ n + suc i = omega arith in
      ap (λ m. live_count start.live trace m) e ∙ at.counts (suc i);
  held = held;
}

-- as many addresses are live as the trace says
pub count_now : (start : Situation) (trace : List Change) (s : Situation) (n to : ℕ)
    (changes : List Change)
    → IsAt start trace s n changes → n ≡ to → live_count start.live trace to ≡ length s.live
count_now start trace s n to changes at e =
    let h : to ≡ n + 0 = omega arith in
    ap (λ m. live_count start.live trace m) h ∙ at.counts 0

pub ends_later : (start : Situation) (trace : List Change) (place : Place) (n : ℕ)
    (stretches : List Stretch)
    → EachStretch start trace IsForced place stretches → place.after ≡ n → EndsLater n stretches
ends_later start trace place n stretches h1 h2 = search rules

-- a change was appended to a free slot, or the store transferred
abbrev Progresses : Situation → Situation → Situation → ℕ → ℕ → Type 0
Progresses start s t spent spent_then =
    ((spent_then ≡ spent) × (s.fill < start.slots) × (t.fill ≡ s.fill + 1))
    ⊎ (spent_then ≡ spent + 1)

-- no stretch ends with the change
ahead_within : (start s t : Situation) (n spent spent_then passed : ℕ) (place : Place)
    → place.after ≤ n → Progresses start s t spent spent_then → IsAhead s n spent place passed
    → IsAhead t (n + 1) spent_then place passed
ahead_within start s t n spent spent_then passed place h1 h2 h3 = search rules

-- a stretch ends with it
ahead_at_end : (start : Situation) (trace : List Change) (s t : Situation)
    (n spent spent_then passed : ℕ) (place : Place) (stretch : Stretch)
    → place.after ≤ n → IsForced start trace place stretch → stretch.to ≡ n + 1
    → live_count start.live trace stretch.to ≤ t.fill → Progresses start s t spent spent_then
    → IsAhead s n spent place passed
    → IsAhead t (n + 1) spent_then (place_at start trace stretch.to) (passed + 1)
ahead_at_end start trace s t n spent spent_then passed place stretch h1 h2 h3 h4 h5 h6 =
    search (rules, cases_lt)

-- from one change to the next
next_bound : (start : Situation) (trace : List Change) (k used : ℕ) (s t : Situation)
    (n spent spent_then : ℕ) (changes : List Change)
    → IsAt start trace t (n + 1) changes → Progresses start s t spent spent_then
    → IsBound start trace k used s n spent → IsBound start trace k used t (n + 1) spent_then
next_bound start trace k used s t n spent spent_then changes at goes bound =
    by bound.stretches bound.all bound.each bound.later bound.end
  where
    by : (stretches : List Stretch) → bound.passed + length stretches ≡ k
        → EachStretch start trace IsForced bound.place stretches → EndsLater n stretches
        → end_from start trace bound.place stretches ≡ used
        → IsBound start trace k used t (n + 1) spent_then
    by [] all each later end = record {
      passed = bound.passed;
      place = bound.place;
      stretches = [];
      all = all;
      each = tt;
      behind = omega (arith, bound.behind);
      later = tt;
      ahead =
          ahead_within start s t n spent spent_then bound.passed bound.place bound.behind goes
          bound.ahead;
      end = end;
    }
    by (stretch ∷ stretches) all each later end =
        elim (cases_lt (n + 1) stretch.to) [
          | inl more ↦ record {
            passed = bound.passed;
            place = bound.place;
            stretches = stretch ∷ stretches;
            all = all;
            each = each;
            behind = omega (arith, bound.behind);
            later = more;
            ahead =
                ahead_within start s t n spent spent_then bound.passed bound.place bound.behind goes
                bound.ahead;
            end = end;
          }
          | inr ends ↦
              let e : stretch.to ≡ n + 1 = omega arith in
              record {
                passed = bound.passed + 1;
                place = place_at start trace stretch.to;
                stretches = stretches;
                all = omega (arith, all);
                each = each.1;
                behind = omega arith;
                later =
                    ends_later start trace (place_at start trace stretch.to) (n + 1) stretches
                    each.1 e;
                ahead =
                    ahead_at_end start trace s t n spent spent_then bound.passed bound.place stretch
                    bound.behind each.0 e
                    (let c = count_now start trace t (n + 1) stretch.to changes at (sym e) in
                    let h = at.held in omega arith) goes bound.ahead;
                end = end;
              }
        ]

-- one transfer more, with no change
copied : (start : Situation) (trace : List Change) (k used : ℕ) (s t : Situation) (n spent : ℕ)
    → IsBound start trace k used s n spent → IsBound start trace k used t n (spent + 1)
copied start trace k used s t n spent bound = search rules

-- at the end no stretch is left
at_end : (start : Situation) (trace : List Change) (k used : ℕ) (s : Situation) (n spent total : ℕ)
    → n ≡ length trace → IsBound start trace k used s n spent → spent ≡ total
    → Dominated k total used s.fill
at_end start trace k used s n spent total ends bound e = search rules

-- the core of it, by induction on the moves
pub dominance : (start : Situation) (trace : List Change) (k used : ℕ) (moves : List Move)
    (s : Situation) (n spent total : ℕ)
    → IsAt start trace s n (changes_of moves) → IsBound start trace k used s n spent
    → EachMove IsAllowed s moves → spent + cost moves ≡ total
    → Dominated k total used (after_moves s moves).fill
dominance start trace k used [] s n spent total at bound allowed e =
    at_end start trace k used s n spent total (omega (arith, at.rest)) bound (omega (arith, e))
dominance start trace k used (Copy ∷ moves) s n spent total at bound allowed e =
    let t : Situation = record s { fill = length s.live } in
    let here : IsAt start trace t n (changes_of moves) =
    record { slots = at.slots; rest = at.rest; counts = at.counts; held = omega arith } in
    dominance start trace k used moves t n (spent + 1) total here
    (copied start trace k used s t n spent bound) allowed.1 (omega (arith, e))
dominance start trace k used (Append change ∷ moves) s n spent total at bound allowed e =
    let t : Situation = after_move s (Append change) in
    let here : IsAt start trace t (n + 1) (changes_of moves) =
    at_next start trace s n (s.fill + 1) change (changes_of moves) at (let h =
    changed-le s.live change in
    let g = at.held in omega arith) in
    let free : s.fill < start.slots = let h = at.slots in
    let g = allowed.0 in omega arith in
    dominance start trace k used moves t (n + 1) spent total here
    (next_bound start trace k used s t n spent spent (changes_of moves) here
    (inl (refl, free, refl)) bound) allowed.1 e
dominance start trace k used (Carry change ∷ moves) s n spent total at bound allowed e =
    let t : Situation = after_move s (Carry change) in
    let here : IsAt start trace t (n + 1) (changes_of moves) =
    at_next start trace s n (length (live_after_one s.live change)) change (changes_of moves) at
    (omega arith) in
    dominance start trace k used moves t (n + 1) (spent + 1) total here
    (next_bound start trace k used s t n spent (spent + 1) (changes_of moves) here (inr refl) bound)
    allowed.1 (omega (arith, e))
