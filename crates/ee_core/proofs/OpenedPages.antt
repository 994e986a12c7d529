-- The page of the first free slot, and what marks it.
use Rattle.ee_core.proofs.Words.{◌≡◌, ◌≢◌, ◌⊎◌, inl, inr, ℕ, ◌+◌, ◌-◌, ◌*◌, ◌<◌, ◌≤◌, ◌/◌, ◌%◌, true, sym, subst, ap, ◌∙◌, arith, cases_lt, div-mul-add, mod-mul-add, rules}
use Rattle.ee_core.proofs.Sets.{Device, IsFormed, slot_count, IsPageOf, IsLayout, is_marked, IsMarkBehind, first_page, other, page_of_slot, place_of_slot, Layout, Active, Valid, page_in_range, slot_below}
use Rattle.ee_core.proofs.Calls.{IsReady, IsSameBut, IsSameSet, KeepsMarks, Stays, IsLiveMarked, last_used}
use Rattle.ee_core.proofs.SetPages.{same_other}

-- within a page the slot before stands in the same page
same_row : (n m q r : ℕ) → n ≡ q * m + r → 0 < r → r < m → (n - 1) / m ≡ q
same_row n m q r e some below = search (rules, div-mul-add)

pub same_place : (n m : ℕ) → 0 < m → (n ≡ 0) ⊎ (n % m ≢ 0) → n / m ≡ (n - 1) / m
same_place n m _ (inl none) = let e : n ≡ n - 1 = omega arith in ap (λ k. k / m) e
same_place n m some (inr inside) =
    let split : n ≡ n / m * m + n % m = omega arith in
    let below : n % m < m = omega arith in
    sym (same_row n m (n / m) (n % m) split (omega arith) below)

-- the first slot of a page stands one page behind the slot before
after_row : (n m p : ℕ) → n ≡ p * m + m → 0 < m → (n - 1) / m ≡ p
after_row n m p e some = search (rules, div-mul-add)

one_row_more : (n m p : ℕ) → n ≡ (p + 1) * m → n ≡ p * m + m
one_row_more n m p e = omega arith

pub next_place : (n m : ℕ) → 0 < m → 0 < n → n % m ≡ 0 → n / m ≡ (n - 1) / m + 1
next_place n m some many whole =
    let split : n ≡ n / m * m = omega arith in
    elim (cases_lt 0 (n / m)) [
      | inl positive ↦
          let p = n / m - 1 in
          let quotient : n / m ≡ p + 1 = omega arith in
          let rows = split ∙ ap (λ k. k * m) quotient in
          quotient ∙ ap (λ k. k + 1) (sym (after_row n m p (one_row_more n m p rows) some))
      | inr none ↦
          let zero : n / m ≡ 0 = omega arith in
          let nothing = split ∙ ap (λ k. k * m) zero in
          absurd (omega arith)
    ]

module _ (old : Device) (layout : Layout) (found : IsLayout old layout)
    (free : layout.fill < slot_count old.size) (words : ℕ) (words_is : words ≡ old.size.words) where
  some_slots : 0 < old.size.words - 4
  some_slots = omega arith

  pub last_is : page_of_slot old.size (layout.fill - 1) ≡ last_used old layout.side
  last_is = search rules

  -- the first free slot stands in the page in use, unless this is full
  pub stays_in : (page : ℕ)
      → page ≡ first_page old.size layout.side + page_of_slot old.size layout.fill
      → page ≡ layout.current → (layout.fill ≡ 0) ⊎ (layout.fill % (words - 4) ≢ 0)
  stays_in _ page_is same = search (rules, next_place, some_slots)

  pub turns : (page : ℕ)
      → page ≡ first_page old.size layout.side + page_of_slot old.size layout.fill
      → page ≢ layout.current → (0 < layout.fill) × (layout.fill % (words - 4) ≡ 0)
  turns _ page_is other = search (rules, same_place, some_slots)

  -- the first free slot, by the slots of the page in use that are used
  used_slots : layout.fill - (layout.current - first_page old.size layout.side) * (words - 4)
      ≡ layout.fill - page_of_slot old.size (layout.fill - 1) * (old.size.words - 4)
  used_slots = search rules

  row_of : (p used : ℕ) → layout.fill ≡ p * (old.size.words - 4) + used → used < old.size.words - 4
      → (page_of_slot old.size layout.fill ≡ p) × (place_of_slot old.size layout.fill ≡ 4 + used)
  row_of p _ e below = search (rules, div-mul-add, mod-mul-add)

  full_row : (p row : ℕ) → p * row + row ≡ (p + 1) * row + 0
  full_row p _ = omega arith

  rows : page_of_slot old.size (layout.fill - 1) * (old.size.words - 4) ≤ layout.fill - 1
  rows = search rules

  pub free_within : (used : ℕ)
      → used ≡ layout.fill - (layout.current - first_page old.size layout.side) * (words - 4)
      → used ≢ words - 4
      → (layout.current ≡ first_page old.size layout.side + page_of_slot old.size layout.fill)
      × (4 + used ≡ place_of_slot old.size layout.fill)
  free_within used used_is other =
      let p = page_of_slot old.size (layout.fill - 1) in
      let row = old.size.words - 4 in
      let is = used_is ∙ used_slots in
      let split : layout.fill ≡ p * row + used = omega arith in
      let not_full = subst (λ n. used ≢ n - 4) words_is other in
      let less : used < row = omega arith in
      let at = row_of p used split less in
      (omega arith, sym at.1)

  pub free_behind : (used : ℕ)
      → used ≡ layout.fill - (layout.current - first_page old.size layout.side) * (words - 4)
      → used ≡ words - 4
      → (layout.current + 1 ≡ first_page old.size layout.side + page_of_slot old.size layout.fill)
      × (4 ≡ place_of_slot old.size layout.fill)
  free_behind _ used_is full =
      let p = page_of_slot old.size (layout.fill - 1) in
      let row = old.size.words - 4 in
      let is = used_is ∙ used_slots in
      let all = full ∙ ap (λ n. n - 4) words_is in
      let whole : layout.fill ≡ p * row + row = omega arith in
      let split = whole ∙ full_row p row in
      let at = row_of (p + 1) 0 split some_slots in
      (omega arith, omega arith)

  -- the marks of a page that is in use already
  pub ready_already : (layout.fill ≡ 0) ⊎ (layout.fill % (words - 4) ≢ 0)
      → IsLiveMarked old layout.side → IsReady old layout.side layout.fill
  ready_already within was =
      let inside = subst (λ n. (layout.fill ≡ 0) ⊎ (layout.fill % (n - 4) ≢ 0)) words_is within in
      let e = same_place layout.fill (old.size.words - 4) some_slots inside ∙ last_is in
      search rules

  pub current_of : IsPageOf old.size layout.side layout.current
  current_of = search (rules, page_in_range, slot_below)

  module _ (some : 0 < layout.fill) (whole : layout.fill % (words - 4) ≡ 0) where
    pub further : page_of_slot old.size layout.fill ≡ page_of_slot old.size (layout.fill - 1) + 1
    further = search (rules, next_place, some_slots)

    next_is : layout.current + 1
        ≡ first_page old.size layout.side + page_of_slot old.size layout.fill
    next_is = omega (arith, further)

    pub next_of : IsPageOf old.size layout.side (layout.current + 1)
    next_of = search (rules, page_in_range, next_is)

    -- the further page may be marked
    pub next_behind : (mid : Device) → Stays old mid layout.side layout.generation
        → IsMarkBehind mid layout.side (layout.current + 1 - first_page mid.size layout.side) Active
    next_behind mid stays = search (rules, next_is, page_in_range)

    -- both marks are set
    pub ready_now : (mid new : Device) → new.size ≡ old.size → IsLiveMarked old layout.side
        → KeepsMarks old mid → KeepsMarks mid new → is_marked mid layout.current Valid ≡ true
        → is_marked new (layout.current + 1) Active ≡ true → IsReady new layout.side layout.fill
    ready_now _ new sizes was first_marks second_marks used opened =
        let first = ap (λ size. first_page size layout.side) sizes in
        let place = ap (λ size. page_of_slot size layout.fill) sizes in
        record {
          valid = λ page below. elim (cases_lt _ _) [
            | inl earlier ↦
                let before = subst (λ n. page < n) last_is earlier in
                let same : first_page new.size layout.side + page
                ≡ first_page old.size layout.side + page =
                omega arith in
                subst (λ n. is_marked new n Valid ≡ true) (sym same)
                (second_marks _ Valid
                (first_marks (first_page old.size layout.side + page) Valid
                (was.valid page before)))
            | inr last ↦
                let same : first_page new.size layout.side + page ≡ layout.current =
                omega (arith, further) in
                subst (λ n. is_marked new n Valid ≡ true) (sym same)
                (second_marks layout.current Valid used)
          ];
          active =
              let same : first_page new.size layout.side + page_of_slot new.size layout.fill
              ≡ layout.current + 1 =
              omega (arith, next_is) in
              subst (λ n. is_marked new n Active ≡ true) (sym same) opened;
        }

    -- and the other set is as before
    pub second_other : (mid new : Device) → IsFormed new
        → Stays old mid layout.side layout.generation → new.size ≡ mid.size
        → IsSameSet (other layout.side) old mid → IsSameBut (layout.current + 1) mid new
        → IsSameSet (other layout.side) old new
    second_other _ _ formed stays sizes same others =
        let there =
        subst (λ size. IsPageOf size layout.side (layout.current + 1))
        (sym stays.keeps.same_size) next_of in
        same_other _ _ _ _ stays.keeps.live.formed formed sizes there others ∙ same

  pub first_other : (mid : Device) → Stays old mid layout.side layout.generation
      → IsSameBut layout.current old mid → IsSameSet (other layout.side) old mid
  first_other _ stays others = search (same_other, current_of)
