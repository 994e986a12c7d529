-- What each call of a run does to power, wear, pending pages and the map, and so what a run does.
use Rattle.ee_core.proofs.Words.{rules, length, ◌≤◌, ◌≡◌, ℕ, ◌+◌, ◌*◌, Bool, true, false, cond, Ok, Err, List, [], ◌∷◌, refl, sym, ◌∙◌, ap, subst, arith, All, flat_map, All-head, All-tail, sum_by-cons}
use Rattle.ee_core.proofs.Sets.{calls_compose, Device, GoesOn, total_wear_of, Change, changed_by}
use Rattle.ee_core.proofs.Calls.{ErasesOne, Appends, Moves, NeedsTransfer, pages_left, CountsWear, capacity, pending_pages, state_of}
use Rattle.ee_core.proofs.CopiedMaps.{changed_by-append}
use Rattle.ee_core.proofs.Effects.{by_effect}
use Rattle.ee_core.proofs.PendingPages.{length-pending_pages}
use Rattle.ee_core.proofs.Wears.{no_wear, total_rises, wears_rise}
use Rattle.ee_core.specs.Runs.{Call, Wrote, WroteAll, Forgot, Cleared, Cleaned, DidRead, AreAnsweredFrom, Follows, IsAnsweredBy, IsRun, changes_of_call, is_cut, is_single, is_transfer, transfers, IsWholeRun}

-- ---- one call

-- so many pages more are erased or wait, where wear is counted
abbrev pub Adds : ℕ → Device → Device → Type 0
Adds more old new =
    CountsWear new
    → CountsWear old
    × (total_wear_of new + (state_of new).pending
    ≡ total_wear_of old + (state_of old).pending + more)

-- the pages of a set for a transfer, none for another call
abbrev pub cost : Bool → Device → ℕ
cost transfer device = cond transfer device.size.pages 0

-- what a call does where power is not cut in it: by several changes less than a set
-- may be left to erase
pub record Goes (transfer : Bool) (changes : List Change) (old new : Device) : Type 0 where
  pub power : GoesOn old new
  pub more : ℕ
  pub adds : Adds more old new
  pub few : more ≤ cost transfer old
  pub whole : length changes ≤ 1 → more ≡ cost transfer old
  pub map_is : (state_of new).map ≡ changed_by changes (state_of old).map

nothing : (old new : Device) → new ≡ old → Goes false [] old new
nothing _ _ same = record {
  power = search rules;
  more = 0;
  adds = search rules;
  few = omega arith;
  whole = λ short. refl;
  map_is = search rules;
}

appends : (old new : Device) (change : Change) → Appends old change new
    → Goes false (change ∷ []) old new
appends old new _ done = record {
  power = done.goes_on;
  more = 0;
  adds = search (rules, total_rises, no_wear);
  few = omega arith;
  whole = λ short. refl;
  map_is = search rules;
}

-- one change leaves all pages of a set
one_left : (changes : List Change) (device : Device)
    → NeedsTransfer (capacity device) (state_of device) changes → length changes ≤ 1
    → pages_left changes device ≡ device.size.pages
one_left [] _ needed _ = absurd needed
one_left (change ∷ []) _ _ _ = refl
one_left (first ∷ _ ∷ _) device needed short = absurd (omega arith)

moves : (old new : Device) (changes : List Change) → Moves old changes new
    → Goes true changes old new
moves old new changes done = record {
  power = done.goes_on;
  more = pages_left changes old;
  adds = λ counts.
      let wear =
      total_rises (state_of old).pending old new
      (wears_rise (pending_pages old) (state_of old).pending old new done.wear
      (length-pending_pages old)) counts in
      let pending = ap (λ state. state.pending) done.state_is in
      (wear.0, omega arith);
  few = done.few_left;
  whole = one_left changes old done.needed;
  map_is = search rules;
}

erases : (old new : Device) → ErasesOne old new → Goes false [] old new
erases _ _ done = record {
  power = done.goes_on;
  more = 0;
  adds = λ counts.
      let wear = total_rises 1 _ _ (wears_rise _ 1 _ _ done.lowest.wear refl) counts in
      let pending = ap (λ state. state.pending) done.state_is in
      (wear.0, omega arith);
  few = omega arith;
  whole = λ short. refl;
  map_is = search rules;
}

pub goes : (call : Call) (old new : Device) → is_cut call ≡ false → Follows call old new
    → Goes (is_transfer call) (changes_of_call call) old new
goes _ old new whole done =
    by_effect (λ transfer changes. Goes transfer changes old new) _ _ _ whole done (nothing old new)
    (appends old new) (moves old new) (λ is. erases old new)

-- a call that isn't of a list of several makes one change at the most
single_changes : (call : Call) → is_single call ≡ true → length (changes_of_call call) ≤ 1
single_changes (Wrote _ _ (Ok _)) _ = omega arith
single_changes (Wrote _ _ (Err _)) _ = omega arith
single_changes (WroteAll [] (Ok _)) _ = omega arith
single_changes (WroteAll (put ∷ []) (Ok _)) _ = omega arith
single_changes (WroteAll (first ∷ _ ∷ _) (Ok _)) single = absurd (cc single)
single_changes (WroteAll _ (Err _)) _ = omega arith
single_changes (Forgot _ (Ok _)) _ = omega arith
single_changes (Forgot _ (Err _)) _ = omega arith
single_changes (Cleared _) single = absurd (cc single)
single_changes (Cleaned _) _ = omega arith
single_changes (DidRead _ _) _ = omega arith

answered : (call : Call) (old new : Device) → Follows call old new
    → IsAnsweredBy (state_of old).map call
answered (Wrote _ _ _) _ _ _ = tt
answered (WroteAll _ _) _ _ _ = tt
answered (Forgot _ _) _ _ _ = tt
answered (Cleared _) _ _ _ = tt
answered (Cleaned _) _ _ _ = tt
answered (DidRead _ (Ok _)) _ _ done = done.0.1
answered (DidRead _ (Err _)) _ _ _ = tt

-- ---- a run

-- what a run does where power is not cut in it
record Went (calls : List Call) (old new : Device) : Type 0 where
  pub power : GoesOn old new
  pub more : ℕ
  pub adds : Adds more old new
  pub few : more ≤ transfers calls * old.size.pages
  pub whole : All (λ call. is_single call ≡ true) calls → more ≡ transfers calls * old.size.pages
  pub map_is : (state_of new).map ≡ changed_by (flat_map changes_of_call calls) (state_of old).map
  pub answers : AreAnsweredFrom (state_of old).map calls

-- what a call adds, and then what the calls after it add
few_of_more : (transfer : Bool) (pages later_pages rest all first then : ℕ) → later_pages ≡ pages
    → all ≡ cond transfer 1 0 + rest → first ≤ cond transfer pages 0 → then ≤ rest * later_pages
    → first + then ≤ all * pages
few_of_more true _ _ _ all first then same is one more =
    rw (is) (let later = rw same at more in grind arith)
few_of_more false pages later_pages rest all first then same is one more =
    rw (is) (let later = rw same at more in grind arith)

sum_of_more : (transfer : Bool) (pages later_pages rest all first then : ℕ) → later_pages ≡ pages
    → all ≡ cond transfer 1 0 + rest → first ≡ cond transfer pages 0 → then ≡ rest * later_pages
    → first + then ≡ all * pages
sum_of_more true _ _ _ _ _ _ same is one more = rw (is, one, more, same) (grind arith)
sum_of_more false _ _ _ _ _ _ same is one more = rw (is, one, more, same) (grind arith)

went : (calls : List Call) (old new : Device) → IsRun calls old new
    → All (λ call. is_cut call ≡ false) calls → Went calls old new
went [] old new run whole =
    let done = nothing old new run in
    record {
      power = done.power;
      more = done.more;
      adds = done.adds;
      few = omega arith;
      whole = λ singles. omega arith;
      map_is = done.map_is;
      answers = tt;
    }
went (call ∷ calls) old new run whole =
    let first = goes call old run.0 (whole 0 call (omega arith)) run.1 in
    let rest = went calls run.0 new run.2 (All-tail (λ one. is_cut one ≡ false) _ _ whole) in
    let pages = ap (λ size. size.pages) first.power.same_size in
    let counted = sum_by-cons (λ one. cond (is_transfer one) 1 0) _ calls in
    record {
      power = (calls_compose _ _ _ first.power).0 rest.power;
      more = first.more + rest.more;
      adds = λ counts.
          let later = rest.adds counts in
          let sooner = first.adds later.0 in
          (sooner.0, omega arith);
      few = few_of_more (is_transfer call) old.size.pages run.0.size.pages (transfers calls)
          (transfers (call ∷ calls)) first.more rest.more pages counted first.few rest.few;
      whole = λ singles.
          sum_of_more (is_transfer call) old.size.pages run.0.size.pages (transfers calls)
          (transfers (call ∷ calls)) first.more rest.more pages counted
          (first.whole (single_changes call (All-head (λ one. is_single one ≡ true) _ _ singles)))
          (rest.whole (All-tail (λ one. is_single one ≡ true) _ _ singles));
      map_is =
          rest.map_is ∙ ap (changed_by (flat_map changes_of_call calls)) first.map_is
          ∙ sym
          (changed_by-append (changes_of_call call) (flat_map changes_of_call calls)
          (state_of old).map);
      answers = (
        answered call old run.0 run.1,
        subst (λ map. AreAnsweredFrom map calls) first.map_is rest.answers,
      );
    }

pub runs_go_on_lem : (calls : List Call) (old new : Device) → IsWholeRun calls old new
    → GoesOn old new
runs_go_on_lem calls old new whole = assumption (went calls old new whole.run whole.without_cuts)

pub each_transfer_erases_a_set_lem : (calls : List Call) (old new : Device)
    → IsWholeRun calls old new → All (λ call. is_single call ≡ true) calls → CountsWear new
    → total_wear_of new + (state_of new).pending
    ≡ total_wear_of old + (state_of old).pending + transfers calls * old.size.pages
each_transfer_erases_a_set_lem _ _ _ whole singles counts = search (rules, went, whole)

pub no_transfer_erases_more_lem : (calls : List Call) (old new : Device) → IsWholeRun calls old new
    → CountsWear new
    → total_wear_of new + (state_of new).pending ≤ total_wear_of old + (state_of old).pending
    + transfers calls * old.size.pages
no_transfer_erases_more_lem _ _ _ whole counts = search (rules, went, whole)

pub clean_runs_erase_sets_lem : (calls : List Call) (old new : Device) → IsWholeRun calls old new
    → All (λ call. is_single call ≡ true) calls → CountsWear new → (state_of old).pending ≡ 0
    → (state_of new).pending ≡ 0
    → total_wear_of new ≡ total_wear_of old + transfers calls * old.size.pages
clean_runs_erase_sets_lem _ _ _ whole singles counts clean cleaned = search (rules, went, whole)

pub the_store_is_a_map_lem : (calls : List Call) (old new : Device) → IsWholeRun calls old new
    → ((state_of new).map ≡ changed_by (flat_map changes_of_call calls) (state_of old).map)
    × AreAnsweredFrom (state_of old).map calls
the_store_is_a_map_lem calls old new whole =
    assumption (went calls old new whole.run whole.without_cuts)
