-- The pictures of both sets while an opening sets the marks, page after page.
use Rattle.ee_core.proofs.Words.{rules, ◌≡◌, inl, inr, ℕ, ◌+◌, ◌-◌, ◌<◌, ◌≤◌, true, sym, subst, ap, ◌∙◌, arith, ◌&&◌, not, nat_lt, cases_Bool}
use Rattle.ee_core.proofs.Sets.{Device, IsFormed, page_at, Size, Held, IsPageOf, is_blank, is_marked, first_page, other, page_of_slot, place_of_slot, Side, Active, Erasing, Valid, other_twice}
use Rattle.ee_core.proofs.Calls.{IsSameBut, IsSameSet, PutsWord, SetsMark, IsDrawn, Picture, is_used, marked_to, picture_of, retired_pages, with_change}
use Rattle.ee_core.proofs.Drawings.{active_last, drawn_as, drawn_same, mark_drawn, put_drawn, retired_all, retired_more, retired_none, retired_past, same_drawn, valid_drawn, valid_more, valid_none, valid_to, with_mark}
use Rattle.ee_core.proofs.LiveMarks.{MarksPage}
use Rattle.ee_core.proofs.SetPages.{same_other, same_page}

module _ (side : Side) (old : Device) (first : ℕ)
    (first_is : first ≡ first_page old.size side) where
  place : (mid : Device) (page : ℕ) → mid.size ≡ old.size → first ≤ page
      → page ≡ first_page mid.size side + (page - first)
  place _ _ sizes from = omega (arith, ap (λ size. first_page size side) sizes)

  -- none of its pages is marked yet
  pub valid_start : (page : ℕ) → page ≡ first
      → IsDrawn side old (valid_to (page - first) (picture_of side old))
  valid_start _ is = search (rules, valid_to, drawn_as, drawn_same, valid_none)

  -- one page more is marked valid
  pub valid_next : (mid new : Device) (page : ℕ) → IsFormed mid → mid.size ≡ old.size
      → new.size ≡ mid.size → first ≤ page → page - first < mid.size.pages
      → SetsMark page Valid mid new
      → IsDrawn side mid (valid_to (page - first) (picture_of side old))
      → IsDrawn side new (valid_to (page + 1 - first) (picture_of side old))
  valid_next mid new page formed first_sizes second_sizes from h sets drawn =
      search (rules, drawn_as, mark_drawn, place, valid_more)

  -- and the last one active
  pub active_then : (mid new : Device) (page last : ℕ) → IsFormed mid → mid.size ≡ old.size
      → new.size ≡ mid.size → page ≡ first + last → last < mid.size.pages
      → SetsMark page Active mid new → IsDrawn side mid (valid_to last (picture_of side old))
      → IsDrawn side new (marked_to last (picture_of side old))
  active_then mid new page last formed first_sizes second_sizes is h sets drawn =
      search (rules, drawn_as, mark_drawn, active_last)

  -- the other set is as before
  pub other_stays : (mid new : Device) (page : ℕ) → IsFormed mid → IsFormed new
      → mid.size ≡ old.size → new.size ≡ mid.size → first ≤ page → page - first < mid.size.pages
      → IsSameBut page mid new → IsSameSet (other side) old mid → IsSameSet (other side) old new
  other_stays mid _ page formed new_formed first_sizes second_sizes from h others same =
      let is = place mid page first_sizes from in
      same_other _ _ _ _ formed new_formed second_sizes
      (record { from = omega arith; below = omega arith }) others
      ∙ same

-- the pages of the other set before this one are marked
abbrev pub retired_to : Side → Device → ℕ → Picture
retired_to side device last =
    retired_pages (λ p. nat_lt p last && is_used side device p) (picture_of side device)

module _ (side : Side) (old : Device) (first : ℕ)
    (first_is : first ≡ first_page old.size side) where
  pub retired_start : (page : ℕ) → page ≡ first
      → IsDrawn side old (retired_to side old (page - first))
  retired_start _ is = search (rules, drawn_as, drawn_same, retired_none)

  pub retired_next : (live : Side) (generation : ℕ) (mid new : Device) (page : ℕ) → IsFormed mid
      → mid.size ≡ old.size → first ≤ page → page - first < mid.size.pages
      → page_at mid page ≡ page_at old page → MarksPage mid new live generation page
      → IsDrawn side mid (retired_to side old (page - first))
      → IsDrawn side new (retired_to side old (page + 1 - first))
  retired_next _ _ mid new page formed sizes from h same step drawn =
      let as_now =
      ap (λ n. not (is_blank (page_at old n))) (omega arith)
      ∙ ap (λ words. not (is_blank words)) (sym same) in
      subst (λ n. IsDrawn side new (retired_to side old n)) (omega arith) (elim (cases_Bool _) [
        | inl blank ↦
            subst (λ device. IsDrawn side device (retired_to side old (page - first + 1)))
            (sym (step.passed blank))
            (drawn_as _ mid _ _ drawn
            (λ p at _ _. retired_past _ (is_used side old) (picture_of side old) p at
            (as_now ∙ ap not blank)))
        | inr written ↦
            let there =
            subst (λ n. SetsMark n Erasing mid new)
            (omega (arith, ap (λ size. first_page size side) sizes))
            (step.waiting written) in
            drawn_as _ new _ _
            (mark_drawn _ _ _ _ Erasing _ formed step.stays.keeps.same_size h drawn there)
            (λ p at _ _. retired_more _ (is_used side old) (picture_of side old) p at
            (as_now ∙ ap not written))
      ])

  pub retired_end : (new : Device) (page : ℕ) → new.size ≡ old.size → page ≡ first + old.size.pages
      → IsDrawn side new (retired_to side old (page - first))
      → IsDrawn side new (retired_pages (is_used side old) (picture_of side old))
  retired_end _ _ sizes is drawn = search (rules, drawn_as, retired_all, sizes)

-- and the live set is as before
pub live_stays : (side : Side) (old mid new : Device) (page : ℕ) → IsFormed mid → IsFormed new
    → new.size ≡ mid.size → IsPageOf mid.size (other side) page → IsSameBut page mid new
    → IsSameSet side old mid → IsSameSet side old new
live_stays _ _ mid new _ formed new_formed sizes of others same =
    subst (λ set. IsSameSet set mid new) (other_twice _)
    (same_other _ _ _ _ formed new_formed sizes of others)
    ∙ same

-- both sets, after the marks of the one and then those of the other
pub shows : (side : Side) (old mid new : Device) (last : ℕ) → mid.size ≡ old.size
    → new.size ≡ mid.size → IsDrawn side mid (marked_to last (picture_of side old))
    → IsSameSet (other side) old mid → IsSameSet side mid new
    → IsDrawn (other side) new
    (retired_pages (is_used (other side) mid) (picture_of (other side) mid))
    → IsDrawn side new (marked_to last (picture_of side old))
    × IsDrawn (other side) new
    (retired_pages (is_used (other side) old) (picture_of (other side) old))
shows _ _ _ _ _ first_sizes second_sizes live_first old_first live_then old_then =
    search (rules, same_drawn, same_page)

-- the marks of a further page that is opened
pub opens_next : (side : Side) (old mid new : Device) (k : ℕ) → IsFormed old → IsFormed mid
    → mid.size ≡ old.size → new.size ≡ mid.size → k + 1 < old.size.pages
    → ((page : ℕ) → page < k → is_marked old (first_page old.size side + page) Valid ≡ true)
    → SetsMark (first_page old.size side + k) Valid old mid
    → SetsMark (first_page old.size side + (k + 1)) Active mid new
    → IsDrawn side new (marked_to (k + 1) (picture_of side old))
opens_next side old mid new k formed mid_formed first_sizes second_sizes h before valid active =
    let picture = picture_of side old in
    let used =
    drawn_as _ mid _ _
    (mark_drawn _ _ _ k Valid _ formed first_sizes (omega arith) (valid_drawn _ old k before) valid)
    (λ p at _ _. valid_more k picture p at) in
    let there =
    subst (λ size. SetsMark (first_page size side + (k + 1)) Active mid new) (sym first_sizes)
    active in
    drawn_as side new (with_mark (k + 1) Active (valid_to (k + 1) picture))
    (marked_to (k + 1) picture)
    (mark_drawn side mid new (k + 1) Active (valid_to (k + 1) picture) mid_formed second_sizes
    (omega (arith, ap (λ size. size.pages) first_sizes)) used there)
    (λ p at _ _. active_last (k + 1) picture p at)

-- and a change in the first free slot
pub appends_word : (side : Side) (old mid new : Device) (fill number : ℕ) → mid.size ≡ old.size
    → new.size ≡ mid.size
    → IsDrawn side mid (marked_to (page_of_slot old.size fill) (picture_of side old))
    → PutsWord (first_page mid.size side + page_of_slot mid.size fill) (place_of_slot mid.size fill)
    (Held number) mid new
    → IsDrawn side new (with_change old.size fill number (picture_of side old))
appends_word side _ mid new fill number first_sizes second_sizes drawn puts =
    let there =
    subst (λ (size : Size). PutsWord (first_page mid.size side + page_of_slot size fill)
    (place_of_slot size fill) (Held number) mid new) first_sizes puts in
    put_drawn side mid new _ _ (Held number) _ second_sizes drawn there
