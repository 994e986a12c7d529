-- What is drawn where power was cut in setting marks, and in an append.
use Rattle.ee_core.proofs.Words.{rules, ◌≡◌, inl, inr, ℕ, ◌+◌, ◌-◌, ◌<◌, ◌≤◌, Bool, false, true, true≢false, refl, sym, subst, ap, ◌∙◌, arith, ◌&&◌, nat_lt, not}
use Rattle.ee_core.proofs.Sets.{Device, IsFormed, page_at, Size, Held, IsPageOf, IsLive, is_blank, is_marked, is_written, place_of_mark, word_in, first_page, other, page_of_slot, place_of_slot, Side, Active, Erasing, Valid}
use Rattle.ee_core.proofs.Calls.{IsSameBut, IsSameSet, KeepsMarks, SetsMark, Stays, IsDrawnPartly, PutsPartly, SetsPartly, IsOldMarked, last_used, ShowsCutMarks, IsDrawn, Picture, is_used, marked_to, picture_of, retired_pages, with_change}
use Rattle.ee_core.proofs.Cuts.{IsOnTheWay, drawn_before, drawn_between, drawn_whole, mark_drawn_partly, put_partly}
use Rattle.ee_core.proofs.Drawings.{active_last, mark_drawn, drawn_as, retired_more, same_drawn, valid_drawn, valid_more, valid_to, with_mark, with_word-elsewhere}
use Rattle.ee_core.proofs.LiveMarks.{IsPageDone, MarksPage, done_more, stays_both}
use Rattle.ee_core.proofs.MarkedSets.{live_stays, retired_next, retired_start, retired_to}
use Rattle.ee_core.proofs.Marks.{same_stays}
use Rattle.ee_core.proofs.SetPages.{page_reached, same_page}
use Rattle.std.specs.List.{flat_map, range_with_len}
use Rattle.ee_core.specs.StepLists.{steps_to_mark, steps_to_retire}
use Rattle.ee_flash.specs.Taking.{Completes, StopsAmong, Takes}
use Rattle.ee_core.proofs.Taken.{each_next, each_start, each_stops, in_set as in_set_pages, retire_below, retire_words, takes_ok}
use Rattle.std.specs.Prelude.{List, Ok}
use Rattle.ee_flash.specs.Step.{Step}

-- ---- the marks that are set so far are on the way

valid_way : (k last : ℕ) (picture : Picture) (page at : ℕ) → k ≤ last
    → IsOnTheWay (picture page at) (marked_to last picture page at) (valid_to k picture page at)
valid_way k last _ page at h = search rules

retired_way : (k : ℕ) (waiting : ℕ → Bool) (picture : Picture) (page at : ℕ)
    → IsOnTheWay (picture page at) (retired_pages waiting picture page at)
    (retired_pages (λ p. nat_lt p k && waiting p) picture page at)
retired_way k _ _ page at = search rules

-- ---- a mark that was cut, in the set that is drawn with the marks before it

pub valid_partly : (side : Side) (mid new : Device) (k last : ℕ) (picture : Picture) → IsFormed mid
    → new.size ≡ mid.size → k < mid.size.pages → k < last
    → SetsPartly (first_page mid.size side + k) Valid mid new
    → IsDrawn side mid (valid_to k picture)
    → IsDrawnPartly side new picture (marked_to last picture)
valid_partly _ _ new k last picture formed sizes h before sets drawn =
    drawn_between _ new _ _ _ _
    (λ page at _ _. (
      valid_way k last picture page at (omega arith),
      subst (λ word. IsOnTheWay (picture page at) (marked_to last picture page at) word)
          (sym (valid_more k picture _ at)) (valid_way (k + 1) last picture page at (omega arith)),
    ))
    (mark_drawn_partly _ _ _ k Valid _ formed sizes h drawn sets)

pub active_partly : (side : Side) (mid new : Device) (last : ℕ) (picture : Picture) → IsFormed mid
    → new.size ≡ mid.size → last < mid.size.pages
    → SetsPartly (first_page mid.size side + last) Active mid new
    → IsDrawn side mid (valid_to last picture)
    → IsDrawnPartly side new picture (marked_to last picture)
active_partly _ _ new last picture formed sizes h sets drawn =
    drawn_between _ new _ _ _ _
    (λ page at _ _. (
      valid_way last last picture page at (omega arith),
      inr (active_last last picture page at),
    ))
    (mark_drawn_partly _ _ _ last Active _ formed sizes h drawn sets)

pub retired_partly : (side : Side) (old mid new : Device) (k : ℕ) → IsFormed mid
    → new.size ≡ mid.size → k < mid.size.pages → is_used side old k ≡ true
    → SetsPartly (first_page mid.size side + k) Erasing mid new
    → IsDrawn side mid (retired_to side old k)
    → IsDrawnPartly side new (picture_of side old)
    (retired_pages (is_used side old) (picture_of side old))
retired_partly side old _ new k formed sizes h waiting sets drawn =
    let picture = picture_of side old in
    drawn_between _ new _ _ _ _
    (λ page at _ _. (
      retired_way k (is_used side old) picture page at,
      subst
          (λ word.
          IsOnTheWay (picture page at) (retired_pages (is_used side old) picture page at) word)
          (sym (retired_more k (is_used side old) picture _ at waiting))
          (retired_way (k + 1) (is_used side old) picture page at),
    ))
    (mark_drawn_partly _ _ _ k Erasing _ formed sizes h drawn sets)

-- ---- an opening

-- cut in the marks of the live set
pub cut_live : (side : Side) (old new : Device) → new.size ≡ old.size
    → IsDrawnPartly side new (picture_of side old)
    (marked_to (last_used old side) (picture_of side old))
    → IsSameSet (other side) old new → ShowsCutMarks old new side
cut_live _ _ _ sizes live same = search (drawn_before, same_drawn)

-- or of the other one
pub cut_old : (side : Side) (old mid new : Device) → mid.size ≡ old.size → new.size ≡ mid.size
    → IsDrawn side mid (marked_to (last_used old side) (picture_of side old))
    → IsSameSet (other side) old mid → IsSameSet side mid new
    → IsDrawnPartly (other side) new (picture_of (other side) mid)
    (retired_pages (is_used (other side) mid) (picture_of (other side) mid))
    → ShowsCutMarks old new side
cut_old _ _ mid new first_sizes second_sizes live_first old_first live_then old_then =
    search (rules, drawn_whole, same_drawn, same_page)

-- ---- an append

-- cut in the marks of a further page: in the valid mark of the page before it
pub opens_partly : (side : Side) (old new : Device) (k : ℕ) → IsFormed old → new.size ≡ old.size
    → k + 1 < old.size.pages
    → ((page : ℕ) → page < k → is_marked old (first_page old.size side + page) Valid ≡ true)
    → SetsPartly (first_page old.size side + k) Valid old new
    → IsDrawnPartly side new (picture_of side old) (marked_to (k + 1) (picture_of side old))
opens_partly side old new k formed sizes h before valid =
    valid_partly side old new k (k + 1) (picture_of side old) formed sizes (omega arith)
    (omega arith) valid (valid_drawn _ old k before)

-- or in its active mark
pub opens_partly_then : (side : Side) (old mid new : Device) (k : ℕ) → IsFormed old → IsFormed mid
    → mid.size ≡ old.size → new.size ≡ mid.size → k + 1 < old.size.pages
    → ((page : ℕ) → page < k → is_marked old (first_page old.size side + page) Valid ≡ true)
    → SetsMark (first_page old.size side + k) Valid old mid
    → SetsPartly (first_page old.size side + (k + 1)) Active mid new
    → IsDrawnPartly side new (picture_of side old) (marked_to (k + 1) (picture_of side old))
opens_partly_then side old mid new k formed mid_formed first_sizes second_sizes h before valid
    active =
    let picture = picture_of side old in
    let used : IsDrawn side mid (valid_to (k + 1) picture) =
    drawn_as side mid (with_mark k Valid (valid_to k picture)) (valid_to (k + 1) picture)
    (mark_drawn _ _ _ k Valid _ formed first_sizes (omega arith) (valid_drawn _ old k before) valid)
    (λ p at _ _. valid_more k picture p at) in
    let there =
    subst (λ size. SetsPartly (first_page size side + (k + 1)) Active mid new) (sym first_sizes)
    active in
    active_partly side mid new (k + 1) picture mid_formed second_sizes
    (omega (arith, ap (λ size. size.pages) first_sizes)) there used

-- the marks are on the way to the change
marks_way : (size : Size) (fill number : ℕ) (picture : Picture) (page at : ℕ)
    → IsOnTheWay (picture page at) (with_change size fill number picture page at)
    (marked_to (page_of_slot size fill) picture page at)
marks_way size fill number picture page at = search (rules, with_word-elsewhere)

pub cut_marks : (side : Side) (old new : Device) (fill number : ℕ)
    → IsDrawnPartly side new (picture_of side old)
    (marked_to (page_of_slot old.size fill) (picture_of side old))
    → IsDrawnPartly side new (picture_of side old)
    (with_change old.size fill number (picture_of side old))
cut_marks _ _ _ _ number drawn = search (rules, drawn_between, marks_way)

pub cut_word : (side : Side) (old mid new : Device) (fill number : ℕ) → mid.size ≡ old.size
    → new.size ≡ mid.size → page_of_slot old.size fill < old.size.pages
    → place_of_slot old.size fill < old.size.words
    → IsDrawn side mid (marked_to (page_of_slot old.size fill) (picture_of side old))
    → PutsPartly (first_page mid.size side + page_of_slot mid.size fill)
    (place_of_slot mid.size fill) (Held number) mid new
    → IsDrawnPartly side new (picture_of side old)
    (with_change old.size fill number (picture_of side old))
cut_word side old mid new fill number first_sizes second_sizes h inside drawn puts =
    let picture = picture_of side old in
    let at = place_of_slot old.size fill in
    let k = page_of_slot old.size fill in
    let there =
    subst
    (λ size. PutsPartly (first_page mid.size side + page_of_slot size fill)
    (place_of_slot size fill) (Held number) mid new) first_sizes puts in
    drawn_between _ new _ _ _ _
    (λ page place _ _. (marks_way old.size fill number picture page place, inr refl))
    (put_partly _ mid _ k at (Held number) (marked_to k picture) second_sizes drawn
    (omega (arith, ap (λ size. size.pages) first_sizes))
    (omega (arith, ap (λ size. size.words) first_sizes)) there)

-- ---- the other set, whose pages are marked one after another

-- what that leaves, up to a page
pub record MarkedTo (old now : Device) (side : Side) (generation first page : ℕ) : Type 0 where
  pub stays : Stays old now side generation
  pub marks : KeepsMarks old now
  pub done : (k : ℕ) → k < page - first → IsPageDone now (first + k)
  pub drawn : IsDrawn (other side) now (retired_to (other side) old (page - first))
  pub live : IsSameSet side old now
  pub rest : (k : ℕ) → page ≤ k → page_at now k ≡ page_at old k
  pub steps : Completes
      (flat_map (λ k. retire_words (page_at old k) k) (range_with_len first (page - first))) old now

module _ (side : Side) (generation : ℕ) (old : Device) (first pages : ℕ)
    (first_is : first ≡ first_page old.size (other side)) (pages_is : pages ≡ old.size.pages) where
  pub marked_start : IsLive old side generation → MarkedTo old old side generation first first
  marked_start live = record {
    stays = same_stays _ _ _ _ live refl;
    marks = λ page mark was. was;
    done = λ k below. absurd (omega arith);
    drawn = retired_start _ old _ first_is _ refl;
    live = refl;
    rest = λ k h. refl;
    steps = each_start retire_words old first;
  }

  retired_is : IsFormed old
      → flat_map (λ k. retire_words (page_at old k) k) (range_with_len first pages)
      ≡ steps_to_retire old (other side)
  retired_is formed =
      in_set_pages (steps_to_mark old Erasing) old (other side) first pages formed first_is pages_is

  pub retired_steps : {T E : Type 0} {value : T} (new : Device) (page : ℕ) → IsFormed old
      → page ≡ first + pages → MarkedTo old new side generation first page
      → Takes {E = E} (Ok value) (steps_to_retire old (other side)) old new
  retired_steps new page formed end all =
      takes_ok
      (subst (λ (list : List Step). Completes list old new) (retired_is formed)
      (subst
      (λ n. Completes (flat_map (λ k. retire_words (page_at old k) k) (range_with_len first n)) old
      new) (omega (arith, end)) all.steps))

  -- the whole set
  pub marked_all : (new : Device) (page : ℕ) → first + pages ≤ page
      → MarkedTo old new side generation first page → IsOldMarked new (other side)
  marked_all new _ past all k below =
      let sizes = all.stays.keeps.same_size in
      subst (λ n. IsPageDone new (n + k))
      (first_is ∙ sym (ap (λ size. first_page size (other side)) sizes))
      (all.done k (omega (arith, ap (λ size. size.pages) sizes)))

  module _ (mid : Device) (page : ℕ) (formed : IsFormed mid) (from : first ≤ page)
      (below : page < first + pages) (so_far : MarkedTo old mid side generation first page) where
    in_set : IsPageOf mid.size (other side) page
    in_set =
        page_reached (other side) old mid first pages page first_is pages_is
        so_far.stays.keeps.same_size from below

    within : page - first < mid.size.pages
    within = omega (arith, ap (λ size. size.pages) so_far.stays.keeps.same_size)

    -- one page more
    pub marked_next : (new : Device) → IsFormed new → MarksPage mid new side generation page
        → MarkedTo old new side generation first (page + 1)
    marked_next new new_formed step = record {
      stays = stays_both _ _ _ _ _ so_far.stays step.stays;
      marks = λ p mark was. step.marks p mark (so_far.marks p mark was);
      done = done_more first page mid new from so_far.done step.others step.done;
      drawn =
          retired_next _ old _ first_is _ _ _ _ _ formed so_far.stays.keeps.same_size from within
          (so_far.rest page (omega arith)) step so_far.drawn;
      live =
          live_stays side old mid new page formed new_formed step.stays.keeps.same_size in_set
          step.others so_far.live;
      rest = λ k h. step.others k (λ e. omega arith) ∙ so_far.rest k (omega arith);
      steps =
          each_next retire_words retire_below old mid new first page from so_far.steps step.steps;
    }

    -- or power was cut in marking it
    pub marked_cut : (new : Device) → IsFormed new → is_blank (page_at mid page) ≡ false
        → Stays mid new side generation → IsSameBut page mid new → SetsPartly page Erasing mid new
        → IsDrawnPartly (other side) new (picture_of (other side) old)
        (retired_pages (is_used (other side) old) (picture_of (other side) old))
        × IsSameSet side old new
    marked_cut new new_formed written stays others begun =
        let k = page - first in
        let was =
        ap (λ n. not (is_blank (page_at old n))) (omega arith)
        ∙ ap (λ words. not (is_blank words)) (sym (so_far.rest page (omega arith)))
        ∙ ap not written in (
          retired_partly (other side) old mid new k formed stays.keeps.same_size within was
              (subst (λ n. SetsPartly n Erasing mid new)
              (omega (
                arith,
                ap (λ size. first_page size (other side)) so_far.stays.keeps.same_size,
              ))
              begun) so_far.drawn,
          live_stays _ _ _ _ _ formed new_formed stays.keeps.same_size in_set others so_far.live,
        )

    pub retired_still : is_blank (page_at mid page) ≡ false → IsOldMarked old (other side)
        → is_marked mid page Erasing ≡ true
    retired_still written marked =
        let here : page ≡ first_page old.size (other side) + (page - first) = omega arith in
        let same = so_far.rest page (omega arith) in
        elim (marked (page - first) (omega arith)) [
          | inl blank ↦
              absurd (true≢false
              (sym blank ∙ ap (λ n. is_blank (page_at old n)) (sym here)
              ∙ ap is_blank (sym same) ∙ written))
          | inr is ↦
              ap (λ words. is_written (word_in words (place_of_mark Erasing))) same
              ∙ ap (λ n. is_marked old n Erasing) here ∙ is
        ]

    pub retired_cut : (new : Device) → IsFormed old → is_blank (page_at mid page) ≡ false
        → StopsAmong (steps_to_mark mid Erasing page) mid new
        → StopsAmong (steps_to_retire old (other side)) old new
    retired_cut new old_formed written stops =
        subst (λ (list : List Step). StopsAmong list old new) (retired_is old_formed)
        (each_stops retire_words retire_below old mid new first page from so_far.steps pages below
        (rw written stops))
