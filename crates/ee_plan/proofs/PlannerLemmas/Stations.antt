-- The places of the transfers, one further and whole periods further.
use Rattle.std.proofs.Common.{◌≡◌, ℕ, zero, suc, ◌+◌, ◌-◌, ◌*◌, ◌/◌, ◌<◌, ◌≤◌, refl, sym, ap, subst, ◌∙◌, arith, add-one, rules}
use Rattle.std.proofs.Math.Nat.{div-mul-le_self, le-mul_of_pos_right, lt-mul-div-succ, mul-le-mul_right, suc-mul}
use Rattle.ee_plan.specs.declared.planner.walking.Walk.{Walk}
use Rattle.ee_plan.specs.Planner.Places.{next_place, place_in_round, IsOnWay}

pub place_first : (count : ℕ → ℕ) (slots : ℕ) → place_in_round count slots 0 ≡ 0
unfolding place_in_round
place_first count slots = refl

place_suc : (count : ℕ → ℕ) (slots k : ℕ)
    → place_in_round count slots (suc k) ≡ next_place count slots (place_in_round count slots k)
unfolding place_in_round
place_suc count slots k = refl

pub place_next : (count : ℕ → ℕ) (slots k : ℕ)
    → place_in_round count slots (k + 1) ≡ next_place count slots (place_in_round count slots k)
place_next count slots k = ap (place_in_round count slots) (add-one k) ∙ place_suc count slots k

-- a store that has used as many slots d changes later goes on as it did, d changes later
shifted : (count : ℕ → ℕ) (slots from d k later : ℕ)
    → ((n : ℕ) → from ≤ n → count (n + d) ≡ count n) → from ≤ place_in_round count slots k
    → place_in_round count slots later ≡ place_in_round count slots k + d → (j : ℕ)
    → (place_in_round count slots (later + j) ≡ place_in_round count slots (k + j) + d)
    × (from ≤ place_in_round count slots (k + j))
shifted count slots from d k later same behind e zero = search rules
shifted count slots from d k later same behind e (suc j) =
    let so_far = shifted count slots from d k later same behind e j in
    let a : place_in_round count slots (later + suc j)
    ≡ next_place count slots (place_in_round count slots (later + j)) =
    ap (place_in_round count slots) (omega arith) ∙ place_next count slots (later + j) in
    let b : place_in_round count slots (k + suc j)
    ≡ next_place count slots (place_in_round count slots (k + j)) =
    ap (place_in_round count slots) (omega arith) ∙ place_next count slots (k + j) in
    let c : count (place_in_round count slots (later + j))
    ≡ count (place_in_round count slots (k + j)) =
    ap count so_far.0 ∙ same (place_in_round count slots (k + j)) so_far.1 in
    let f = so_far.0 in
    let g = so_far.1 in
    (omega arith, omega arith)

-- as often as one likes
periods_on : (count : ℕ → ℕ) (slots from d k gain : ℕ)
    → ((n : ℕ) → from ≤ n → count (n + d) ≡ count n) → from ≤ place_in_round count slots k
    → place_in_round count slots (k + gain) ≡ place_in_round count slots k + d → (periods : ℕ)
    → place_in_round count slots (k + periods * gain) ≡ place_in_round count slots k + periods * d
periods_on count slots from d k gain same behind e zero = search rules
periods_on count slots from d k gain same behind e (suc periods) =
    let so_far = periods_on count slots from d k gain same behind e periods in
    let a : k + suc periods * gain ≡ k + gain + periods * gain =
    let h = suc-mul periods gain in omega arith in
    let b = (shifted count slots from d k (k + gain) same behind e (periods * gain)).0 in
    let h = suc-mul periods d in
    rw a (omega arith)

-- a walk that has come to a place d changes on from where it was, after so many transfers more
pub leapt : (count : ℕ → ℕ) (slots total from periods : ℕ) (mark walk far : Walk)
    → ((n : ℕ) → from ≤ n → count (n + (walk.place - mark.place)) ≡ count n) → from ≤ mark.place
    → IsOnWay count slots total mark → IsOnWay count slots total walk → mark.place ≤ walk.place
    → mark.made ≤ walk.made → far.place ≡ walk.place + periods * (walk.place - mark.place)
    → far.made ≡ walk.made + periods * (walk.made - mark.made) → far.place ≤ total
    → far.made ≤ far.place → IsOnWay count slots total far
leapt count slots total from periods mark walk far same behind marked walked further more place made
    within rising =
    let d = walk.place - mark.place in
    let gain = walk.made - mark.made in
    let start = marked.place in
    let behind_walk : from ≤ place_in_round count slots walk.made =
    let a = walked.place in omega arith in
    let ends : mark.made + gain ≡ walk.made = omega arith in
    let once : place_in_round count slots (mark.made + gain)
    ≡ place_in_round count slots mark.made + d =
    ap (place_in_round count slots) ends ∙ (let a = walked.place in omega arith) in
    let behind_mark : from ≤ place_in_round count slots mark.made = omega arith in
    let again : place_in_round count slots (walk.made + gain)
    ≡ place_in_round count slots walk.made + d =
    let a = (shifted count slots from d mark.made walk.made same behind_mark
    (let a = walked.place in omega arith) gain).0 in
    let b = ap (place_in_round count slots) ends in
    let c = walked.place in
    omega arith in
    let on = periods_on count slots from d walk.made gain same behind_walk again periods in
    let there = ap (place_in_round count slots) made in
    let c = walked.place in
    record { place = omega arith; within = within; rising = rising }

-- transfers between which as many addresses stay live come one step apart
in_steps : (count : ℕ → ℕ) (slots k flat step : ℕ)
    → step ≡ slots - count (place_in_round count slots k) + 1
    → ((j : ℕ) → j ≤ flat
    → count (place_in_round count slots k + j) ≡ count (place_in_round count slots k))
    → (times : ℕ) → times * step ≤ flat + step
    → place_in_round count slots (k + times) ≡ place_in_round count slots k + times * step
in_steps count slots k flat step is same zero within = search rules
in_steps count slots k flat step is same (suc times) within =
    let product = suc-mul times step in
    let so_far = in_steps count slots k flat step is same times (omega arith) in
    let a : place_in_round count slots (k + suc times)
    ≡ next_place count slots (place_in_round count slots (k + times)) =
    ap (place_in_round count slots) (omega arith) ∙ place_next count slots (k + times) in
    let b : count (place_in_round count slots (k + times)) ≡ count (place_in_round count slots k) =
    ap count so_far ∙ same (times * step) (omega arith) in
    omega arith

-- before the first change
pub begun : (count : ℕ → ℕ) (slots total : ℕ)
    → IsOnWay count slots total record { place = 0; made = 0 }
begun count slots total =
    record { place = sym (place_first count slots); within = omega arith; rising = omega arith }

-- so many transfers at once, where the changes go on so far
pub stepped : (count : ℕ → ℕ) (slots total flat step times : ℕ) (walk further : Walk)
    → IsOnWay count slots total walk → step ≡ slots - count walk.place + 1
    → ((j : ℕ) → j ≤ flat → count (walk.place + j) ≡ count walk.place) → times ≤ flat / step + 1
    → times ≤ (total - walk.place) / step → further.place ≡ walk.place + times * step
    → further.made ≡ walk.made + times → IsOnWay count slots total further
stepped count slots total flat step times walk further on is same in_flat in_all there made =
    let place = on.place in
    let some : 0 < step = omega arith in
    let a : flat / step * step ≤ flat = div-mul-le_self flat step in
    let b : (total - walk.place) / step * step ≤ total - walk.place =
    div-mul-le_self (total - walk.place) step in
    let c : times * step ≤ (flat / step + 1) * step = mul-le-mul_right step in_flat in
    let d : times * step ≤ (total - walk.place) / step * step = mul-le-mul_right step in_all in
    let e : (flat / step + 1) * step ≡ flat / step * step + step =
    rw add-one (suc-mul (flat / step) step) in
    let f : times ≤ times * step = le-mul_of_pos_right times some in
    let is_here : step ≡ slots - count (place_in_round count slots walk.made) + 1 =
    is ∙ ap (λ n. slots - count n + 1) place in
    let same_here : (j : ℕ) → j ≤ flat
    → count (place_in_round count slots walk.made + j)
    ≡ count (place_in_round count slots walk.made) =
    subst (λ n. (j : ℕ) → j ≤ flat → count (n + j) ≡ count n) place same in
    let steps = in_steps count slots walk.made flat step is_here same_here times (omega arith) in
    let g = ap (place_in_round count slots) made in
    record {
      place = omega arith;
      within = let h = on.within in omega arith;
      rising = let h = on.rising in omega arith;
    }

-- the transfer behind its last one comes behind the trace
pub beyond : (count : ℕ → ℕ) (slots total step : ℕ) (walk : Walk) → IsOnWay count slots total walk
    → step ≡ slots - count walk.place + 1 → (total - walk.place) / step ≡ 0
    → total < place_in_round count slots (walk.made + 1)
beyond count slots total step walk on is none = search (rules, lt-mul-div-succ, place_next)
