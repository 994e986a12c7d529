-- Live addresses that are gone over in batches.
use Rattle.ee_core.proofs.Words.{◌≡◌, inl, inr, ℕ, ◌+◌, ◌<◌, ◌≤◌, Option, Some, None, List, [], ◌∷◌, length, drop, take, get_or, refl, sym, subst, ap, ◌∙◌, arith, suc, zero, cases_lt, drop_all, drop_more, All-head, All-tail, All, IfSome}
use Rattle.ee_core.proofs.Sets.{IsAddress, Map, AreLiveThrough, IsNextLive, IsNoneLive, last_of}
use Rattle.ee_core.specs.Course.{GoesOver}

module _ (map : Map) (from above : ℕ) (none : IsNoneLive map from (Some above)) where
  -- what comes next behind a stretch in which none has a value comes next before it
  next_behind : (found : Option (ℕ × ℕ)) → IsNextLive map above found → IsNextLive map from found
  next_behind None next = λ k low. elim (cases_lt _ k) [
    | inl more ↦ next k more
    | inr less ↦ none.1 k low less
  ]
  next_behind (Some _) next = (
    omega arith,
    next.1,
    λ k low high. elim (cases_lt _ k) [
      | inl more ↦ next.2 k more high
      | inr less ↦ none.1 k low less
    ],
  )

  none_behind : (through : Option ℕ) → IsNoneLive map above through → IsNoneLive map from through
  none_behind None rest = λ k low. elim (cases_lt _ k) [
    | inl more ↦ rest k more
    | inr less ↦ none.1 k low less
  ]
  none_behind (Some _) rest = (
    omega arith,
    λ k low high. elim (cases_lt _ k) [
      | inl more ↦ rest.1 k more high
      | inr less ↦ none.1 k low less
    ],
  )

  further_behind : (through : Option ℕ) → IfSome through (λ last. above < last)
      → IfSome through (λ last. from < last)
  further_behind None _ = tt
  further_behind (Some _) further = omega arith

  -- so does a batch
  pub live_behind : (found : List (ℕ × ℕ)) (through : Option ℕ)
      → AreLiveThrough map above found through → AreLiveThrough map from found through
  live_behind [] through live = record {
    next = tt;
    rest = none_behind through live.rest;
    further = further_behind through live.further;
  }
  live_behind (first ∷ _) through live = record {
    next = search next_behind;
    rest = live.rest;
    further = further_behind through live.further;
  }

-- the address taken last
last_taken : (items : List (ℕ × ℕ)) (n above : ℕ) (d : ℕ × ℕ) → n < length items
    → last_of above (take (suc n) items) ≡ (get_or items n d).0
last_taken [] n _ d h = absurd (omega arith)
last_taken (first ∷ _) zero _ d h = refl
last_taken (first ∷ more) (suc n) _ d h = last_taken more n first.0 d (omega arith)

-- the first address that is ready
first_ready : (map : Map) (above : ℕ) (first : ℕ × ℕ) (more ready : List (ℕ × ℕ))
    (through : Option ℕ)
    → ready ≡ first ∷ more → GoesOver map record { after = above; ready = ready; through = through }
    → IsNextLive map above (Some first) × IsAddress first.0
    × GoesOver map record { after = first.0; ready = more; through = through }
first_ready map above _ _ ready through is over =
    let all =
    subst (λ l. GoesOver map record { after = above; ready = l; through = through }) is over
    in (
      all.next.0,
      All-head (λ found. IsAddress found.0) _ _ all.proper,
      record { next = all.next.1; rest = all.rest; proper = search All-tail },
    )

-- what taking the next address that is ready gives and leaves
pub record Taken (map : Map) (above : ℕ) (items : List (ℕ × ℕ)) (through : Option ℕ) (n : ℕ)
    (found : ℕ × ℕ) : Type 0 where
  pub next : IsNextLive map above (Some found)
  pub proper : IsAddress found.0
  pub moved : last_of 0 (take (n + 1) items) ≡ found.0
  pub over : GoesOver map record {
    after = last_of 0 (take (n + 1) items);
    ready = drop (n + 1) items;
    through = through;
  }

pub one_taken : (map : Map) (above : ℕ) (items listed : List (ℕ × ℕ)) (through : Option ℕ) (n : ℕ)
    (found : ℕ × ℕ)
    → listed ≡ items → n < length listed → found ≡ get_or listed n found
    → GoesOver map record { after = above; ready = drop n items; through = through }
    → Taken map above items through n found
one_taken map above items _ through n found same h is over =
    let within : n < length items = omega (arith, ap length same) in
    let here = is ∙ ap (λ l. get_or l n found) same in
    let e : n + 1 ≡ suc n = omega arith in
    let moved =
    ap (λ m. last_of 0 (take m items)) e ∙ last_taken items n 0 found within
    ∙ ap (λ one. one.0) (sym here) in
    let all =
    first_ready map above found (drop (n + 1) items) (drop n items) through
    (drop_more _ n _ within ∙ ap (λ one. one ∷ drop (n + 1) items) (sym here)) over in
    record { next = all.0; proper = all.1; moved = moved; over = search moved }

-- a further batch, where all of one was given
pub further : (map : Map) (after : ℕ) (items more : List (ℕ × ℕ)) (through last : Option ℕ)
    (n to : ℕ)
    → length items ≤ n → through ≡ Some to
    → GoesOver map record { after = after; ready = drop n items; through = through }
    → AreLiveThrough map to more last → All (λ (found : ℕ × ℕ). IsAddress found.0) more
    → GoesOver map record { after = after; ready = more; through = last }
further map after items more through last n to h is over live proper =
    let none = (subst (λ l. GoesOver map record { after = after; ready = l; through = Some to })
    (drop_all n _ h)
    (subst (λ t. GoesOver map record { after = after; ready = drop n items; through = t }) is
    over)).rest in
    let behind = live_behind map after to none more last live in
    record { next = behind.next; rest = behind.rest; proper = proper }
