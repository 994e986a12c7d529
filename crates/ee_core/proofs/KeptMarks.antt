-- Which marks are there still where pages are as before.
use Rattle.ee_core.proofs.Words.{rules, ◌≡◌, ℕ, ◌+◌, ◌-◌, ◌<◌, ◌≤◌, true, sym, subst, ap, ◌∙◌, arith, count_by-le-length, length-filter}
use Rattle.ee_core.proofs.Sets.{Device, IsFormed, page_at, slot_count, is_blank, is_marked, fill_of, first_page, other, page_of_slot, set_of, slots_of, Side, Mark, Active, Valid, length-slots, page_in_range, slot_below}
use Rattle.ee_core.proofs.Calls.{IsReady, IsSameBut, IsSameSet, KeepsMarks, IsLiveMarked, IsMarked, IsOldMarked, last_used}
use Rattle.ee_core.proofs.SetPages.{same_page}

pub fill_fits : (side : Side) (device : Device) → IsFormed device
    → fill_of (slots_of (set_of side device)) ≤ slot_count device.size
fill_fits side device formed = search (rules, length-filter, count_by-le-length, length-slots)

pub last_in_range : (side : Side) (device : Device) → IsFormed device
    → last_used device side < device.size.pages
last_in_range side device formed = search (page_in_range, slot_below, fill_fits)

-- a page with the same words has the same marks
marked_so : (old new : Device) (before after : ℕ) (mark : Mark)
    → page_at new after ≡ page_at old before → is_marked old before mark ≡ true
    → is_marked new after mark ≡ true
marked_so _ _ _ _ mark same was = search rules

module _ (side : Side) (old new : Device) (formed : IsFormed old)
    (sizes : new.size ≡ old.size) where
  pages_are : new.size.pages ≡ old.size.pages
  pages_are = ap (λ size. size.pages) sizes

  pub live_marks_stay : IsSameSet side old new → IsLiveMarked old side → IsLiveMarked new side
  live_marks_stay same was =
      let last =
      ap (λ size. page_of_slot size (fill_of (slots_of (set_of side new)) - 1)) sizes
      ∙ ap (λ pages. page_of_slot old.size (fill_of (slots_of pages) - 1)) same in
      let within = last_in_range side old formed in
      record {
        valid = λ page below.
            marked_so old new (first_page old.size side + page) (first_page new.size side + page)
            Valid (same_page _ _ _ _ sizes same (omega arith))
            (was.valid page (subst (λ n. page < n) last below));
        active = search (rules, marked_so, same_page);
      }

  pub old_marks_stay : IsSameSet side old new → IsOldMarked old side → IsOldMarked new side
  old_marks_stay same was page h =
      let within : page < old.size.pages = omega (arith, pages_are) in
      let there = same_page _ _ _ _ sizes same within in
      search (rules, marked_so)

  -- of all pages but one, which is blank now
  blank_or_marked : (erased : ℕ) → IsSameBut erased old new → is_blank (page_at new erased) ≡ true
      → IsOldMarked old side → IsOldMarked new side
  blank_or_marked _ others blank was page h = search (rules, pages_are, marked_so)

pub cleaned_marked : (side : Side) (erased : ℕ) (old new : Device) → IsFormed old
    → new.size ≡ old.size → IsSameSet side old new → IsSameBut erased old new
    → is_blank (page_at new erased) ≡ true → IsMarked old side → IsMarked new side
cleaned_marked _ _ old new formed sizes same others blank was =
    search (live_marks_stay, blank_or_marked)

-- After one slot more the page of that slot is the last used one.
live_now : (side : Side) (fill : ℕ) (mid new : Device) → new.size ≡ mid.size
    → fill_of (slots_of (set_of side new)) ≡ fill + 1 → IsReady mid side fill → KeepsMarks mid new
    → IsLiveMarked new side
live_now side fill mid new sizes grown ready marks =
    let last =
    ap (λ size. page_of_slot size (fill_of (slots_of (set_of side new)) - 1)) sizes
    ∙ ap (page_of_slot mid.size) (omega arith) in
    let first = ap (λ size. first_page size side) (sym sizes) in
    record {
      valid =
          λ page below. subst (λ n. is_marked new (n + page) Valid ≡ true) first
          (marks _ Valid (ready.valid page (subst (λ n. page < n) last below)));
      active = ap (λ n. is_marked new (first_page new.size side + n) Active) last
          ∙ subst (λ n. is_marked new (n + page_of_slot mid.size fill) Active ≡ true) first
          (marks _ Active ready.active);
    }

pub appended_marked : (side : Side) (fill : ℕ) (old mid new : Device) → IsFormed old
    → mid.size ≡ old.size → new.size ≡ mid.size → fill_of (slots_of (set_of side new)) ≡ fill + 1
    → IsReady mid side fill → KeepsMarks mid new → IsSameSet (other side) old mid
    → IsSameSet (other side) mid new → IsMarked old side → IsMarked new side
appended_marked side fill old mid new formed first_sizes second_sizes grown ready marks first_same
    second_same was =
    record {
      live = search live_now;
      old = search (rules, old_marks_stay);
    }
