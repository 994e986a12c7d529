-- What a look over pages erases, which erases those that are not blank.
use Rattle.ee_core.proofs.Words.{◌≡◌, ℕ, ◌+◌, ◌<◌, ◌++◌, true, false, List, [], ◌∷◌, length, take, drop, get_or, refl, subst, ap, ◌∙◌, take-length, append_assoc, rules}
use Rattle.ee_core.proofs.Sets.{Device, page_at, Word, is_blank}
use Rattle.ee_core.proofs.Calls.{Wears, WearsTo, not_blank_from}
use Rattle.ee_core.proofs.NotBlank.{named, not_blank_more, not_blank_rest}
use Rattle.ee_core.proofs.Wears.{wears_both, wears_none}

pub none_wears : (pages : List (List Word)) (first k : ℕ) (device : Device) → k ≡ 0
    → Wears (not_blank_from first (take k pages)) device device
none_wears _ _ k _ e = rw e (wears_none _ _ refl)

-- a page that is blank, and one that is not
pub blank_wears : (page : ℕ) (words : List Word) (device : Device) → is_blank words ≡ true
    → Wears (named page words) device device
blank_wears _ _ _ blank = rw blank (wears_none _ _ refl)

pub written_wears : (page : ℕ) (words : List Word) (mid new : Device) → is_blank words ≡ false
    → Wears (page ∷ []) mid new → Wears (named page words) mid new
written_wears _ _ _ _ written wears = rw written wears

-- at the page that stands behind the first of a list, with the pages before it looked at
module _ (pages : List (List Word)) (first k page : ℕ) (old mid new : Device)
    (at : first + k ≡ page) (within : k < length pages)
    (same : get_or pages k [] ≡ page_at mid page)
    (sooner : Wears (not_blank_from first (take k pages)) old mid) where
  here : named (first + k) (get_or pages k []) ≡ named page (page_at mid page)
  here = search rules

  pub wears_next : Wears (named page (page_at mid page)) mid new
      → Wears (not_blank_from first (take (k + 1) pages)) old new
  wears_next now = search (not_blank_more, here, wears_both)

  -- power was cut in erasing it
  pub wears_to : is_blank (page_at mid page) ≡ false → Wears (page ∷ []) mid new
      → WearsTo page (not_blank_from first pages) old new
  wears_to written now =
      let before = not_blank_from first (take k pages) in
      let behind = not_blank_from (first + (k + 1)) (drop (k + 1) pages) in
      record {
        before = before;
        behind = behind;
        pages_are =
            not_blank_rest _ _ k within
            ∙ ap (λ list. (before ++ list) ++ behind) (here ∙ (rw written refl))
            ∙ append_assoc before (page ∷ []) behind;
        wears = wears_both _ _ _ _ _ sooner now;
      }

pub all_wear : (pages : List (List Word)) (first k : ℕ) (old new : Device) → k ≡ length pages
    → Wears (not_blank_from first (take k pages)) old new
    → Wears (not_blank_from first pages) old new
all_wear pages first k old new e =
    subst (λ list. Wears (not_blank_from first list) old new)
    (ap (λ n. take n pages) e ∙ take-length pages)
