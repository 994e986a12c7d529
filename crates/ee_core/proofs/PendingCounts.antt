-- How many pages of a set are not blank.
use Rattle.ee_core.proofs.Words.{rules, ◌≡◌, ℕ, ◌+◌, ◌-◌, ◌<◌, ◌≤◌, Bool, true, false, cond, List, [], ◌∷◌, length, take, get_or, refl, sym, ap, ◌∙◌, arith, zero, suc, not, filter, take-length, count_by_more_no, count_by_more_yes, length-filter}
use Rattle.ee_core.proofs.Sets.{Device, IsFormed, page_at, Word, is_blank, first_page, pending_of, set_of, Side, length-set_of}
use Rattle.ee_core.proofs.SetPages.{page_of_set}

module _ (pages : List (List Word)) where
  pub count_not_blank : (n : ℕ) → n < length pages → is_blank (get_or pages n []) ≡ false
      → pending_of (take (n + 1) pages) ≡ pending_of (take n pages) + 1
  count_not_blank n h e = search (rules, length-filter, count_by_more_yes)

  pub count_blank : (n : ℕ) → n < length pages → is_blank (get_or pages n []) ≡ true
      → pending_of (take (n + 1) pages) ≡ pending_of (take n pages)
  count_blank n h e = search (rules, length-filter, count_by_more_no)

  -- where the first pages are blank, none of them waits
  pub count_none : (n : ℕ) → n ≤ length pages
      → ((k : ℕ) → k < n → is_blank (get_or pages k []) ≡ true) → pending_of (take n pages) ≡ 0
  count_none zero h _ = refl
  count_none (suc n) h blank =
      let e : suc n ≡ n + 1 = omega arith in
      ap (λ k. pending_of (take k pages)) e ∙ count_blank n (omega arith) (blank n (omega arith))
      ∙ count_none n (omega arith) (λ k low. blank k (omega arith))

longer : (b : Bool) (page : List Word) (pages : List (List Word)) → 0 < length pages
    → 0 < length (cond b (page ∷ pages) pages)
longer true _ _ h = omega arith
longer false _ _ h = h

-- where a page is not blank, one waits
count_some : (pages : List (List Word)) (k : ℕ) → k < length pages
    → is_blank (get_or pages k []) ≡ false → 0 < pending_of pages
count_some [] k h e = absurd (omega arith)
count_some (page ∷ _) zero h e = rw e (omega arith)
count_some (page ∷ pages) (suc k) h e =
    longer (not (is_blank page)) page (filter (λ one. not (is_blank one)) pages)
    (count_some pages k (omega arith) e)

-- the pages of a set from its first one, by their numbers in the device
module _ (side : Side) (device : Device) (formed : IsFormed device) (first : ℕ)
    (first_is : first ≡ first_page device.size side) where
  pub page_there : (page : ℕ) → first ≤ page → page < first + device.size.pages
      → get_or (set_of side device) (page - first) [] ≡ page_at device page
  page_there page from below = search (rules, page_of_set)

  within : (page : ℕ) → first ≤ page → page < first + device.size.pages
      → page - first < length (set_of side device)
  within _ _ below = omega (arith, length-set_of side _ formed)

  pub none_yet : pending_of (take (first - first) (set_of side device)) ≡ 0
  none_yet = search rules

  pub one_more : (page count : ℕ) → first ≤ page → page < first + device.size.pages
      → is_blank (page_at device page) ≡ false
      → count ≡ pending_of (take (page - first) (set_of side device))
      → count + 1 ≡ pending_of (take (page + 1 - first) (set_of side device))
  one_more page _ from below here so_far =
      ap (λ n. n + 1) so_far
      ∙ sym
      (count_not_blank (set_of side device) (page - first) (within page from below)
      (ap is_blank (page_there page from below) ∙ here))
      ∙ ap (λ n. pending_of (take n (set_of side device))) (omega arith)

  pub as_many : (page count : ℕ) → first ≤ page → page < first + device.size.pages
      → is_blank (page_at device page) ≡ true
      → count ≡ pending_of (take (page - first) (set_of side device))
      → count ≡ pending_of (take (page + 1 - first) (set_of side device))
  as_many page _ from below here so_far = search (rules, count_blank, within, page_there)

  pub at_end : (page : ℕ) → page ≡ first + device.size.pages
      → pending_of (take (page - first) (set_of side device)) ≡ pending_of (set_of side device)
  at_end page e =
      ap pending_of
      (ap (λ n. take n (set_of side device)) (omega (arith, length-set_of side _ formed))
      ∙ take-length (set_of side device))

  -- all are blank
  pub none_pending
      :
      ((page : ℕ) → first ≤ page → page < first + device.size.pages
      → is_blank (page_at device page) ≡ true)
      → pending_of (set_of side device) ≡ 0
  none_pending blank =
      let count = length-set_of side _ formed in
      sym (ap pending_of (take-length (set_of side device)))
      ∙ count_none (set_of side device) (length (set_of side device)) (omega arith) (λ k h.
      let in_set : k < device.size.pages = omega arith in
      ap is_blank (page_of_set _ _ k in_set ∙ ap (page_at device) (omega arith))
      ∙ blank (first + k) (omega arith) (omega arith))

  -- one is not
  pub some_pending : (page : ℕ) → first ≤ page → page < first + device.size.pages
      → is_blank (page_at device page) ≡ false → 0 < pending_of (set_of side device)
  some_pending page from below here =
      count_some (set_of side device) (page - first) (within page from below)
      (ap is_blank (page_there page from below) ∙ here)
