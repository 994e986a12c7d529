-- The other set at the start of a transfer, whose pages are erased one after another.
use Rattle.ee_core.proofs.Words.{◌≡◌, ◌⊎◌, ℕ, ◌+◌, ◌-◌, ◌<◌, ◌≤◌, true, false, [], ◌∷◌, length, take, get_or, subst, ap, arith, All, rules}
use Rattle.ee_core.proofs.Sets.{Device, IsFormed, page_at, IsPartlyErased, KeepsSide, is_blank, first_page, other, set_of, Side, keeps_side_both, length-set_of}
use Rattle.ee_core.proofs.Calls.{IsSameBut, ErasesPartly, Wears, not_blank_from, not_blank_in}
use Rattle.ee_core.proofs.Cuts.{erases_partly}
use Rattle.ee_core.proofs.ErasedPages.{all_wear, wears_next, wears_to}
use Rattle.ee_core.proofs.FormatFacts.{BlanksPage}
use Rattle.ee_core.proofs.MovingFacts.{all_blank}
use Rattle.ee_core.proofs.PendingCounts.{page_there}
use Rattle.std.specs.List.{flat_map, range_with_len}
use Rattle.std.specs.Prelude.{List}
use Rattle.std.proofs.Common.{◌∙◌}
use Rattle.ee_flash.specs.Step.{Erase, Step}
use Rattle.ee_core.specs.StepLists.{steps_to_clear}
use Rattle.ee_flash.specs.Taking.{Completes, StopsAmong}
use Rattle.ee_core.proofs.Taken.{each_next, each_stops, erase_below, erase_words, erases_in, in_set}

-- what that leaves, up to a page
pub record ClearedTo (old now : Device) (side : Side) (first page : ℕ) : Type 0 where
  pub keeps : KeepsSide old now side
  pub blank : (k : ℕ) → first ≤ k → k < page → is_blank (page_at now k) ≡ true
  pub rest : (k : ℕ) → (k < first) ⊎ (page ≤ k) → page_at now k ≡ page_at old k
  pub wear : Wears (not_blank_from first (take (page - first) (set_of (other side) old))) old now
  pub steps : Completes
      (flat_map (λ k. erase_words (page_at old k) k) (range_with_len first (page - first))) old now

module _ (side : Side) (old : Device) (first pages : ℕ) (formed : IsFormed old)
    (first_is : first ≡ first_page old.size (other side)) (pages_is : pages ≡ old.size.pages) where
  cleared_is : flat_map (λ k. erase_words (page_at old k) k) (range_with_len first pages)
      ≡ steps_to_clear old (other side)
  cleared_is =
      in_set (λ page. Erase page ∷ []) old (other side) first pages formed first_is pages_is
      ∙ erases_in (not_blank_in (other side) old)

  pub cleared_steps : (new : Device) (page : ℕ) → page ≡ first + pages
      → ClearedTo old new side first page → Completes (steps_to_clear old (other side)) old new
  cleared_steps new page end all =
      subst (λ (list : List Step). Completes list old new) cleared_is
      (subst
      (λ n. Completes (flat_map (λ k. erase_words (page_at old k) k) (range_with_len first n)) old
      new) (omega (arith, end)) all.steps)

  -- the whole set
  pub all_cleared : (new : Device) (page : ℕ) → IsFormed new → page ≡ first + pages
      → ClearedTo old new side first page
      → All (λ words. is_blank words ≡ true) (set_of (other side) new)
      × Wears (not_blank_in (other side) old) old new
  all_cleared new page new_formed end all =
      let start = ap (λ size. first_page size (other side)) all.keeps.same_size in
      let counted = ap (λ size. size.pages) all.keeps.same_size in
      let long : page - first ≡ length (set_of (other side) old) =
      omega (arith, length-set_of (other side) _ formed) in (
        all_blank _ _ new_formed (λ k from below. all.blank k (omega arith) (omega arith)),
        subst (λ n. Wears (not_blank_from n (set_of (other side) old)) old new) first_is
            (all_wear _ _ _ _ _ long all.wear),
      )

  module _ (mid : Device) (page : ℕ) (from : first ≤ page) (below : page < first + pages)
      (so_far : ClearedTo old mid side first page) where
    at : first + (page - first) ≡ page
    at = omega arith

    within : page - first < length (set_of (other side) old)
    within = omega (arith, length-set_of (other side) _ formed)

    there : get_or (set_of (other side) old) (page - first) [] ≡ page_at mid page
    there = search (rules, page_there)

    -- one page more
    pub cleared_next : (new : Device) → KeepsSide mid new side → BlanksPage mid new page
        → ClearedTo old new side first (page + 1)
    cleared_next new keeps step =
        record {
          keeps = keeps_side_both _ _ _ _ so_far.keeps keeps;
          blank = search rules;
          rest = search rules;
          wear = subst
              (λ n. Wears (not_blank_from first (take n (set_of (other side) old))) old new)
              (omega arith) (wears_next _ _ _ page _ mid _ at within there so_far.wear step.wear);
          steps =
              each_next erase_words erase_below old mid new first page from so_far.steps step.steps;
        }

    -- or power was cut in erasing it
    pub cleared_cut : (new : Device) → is_blank (page_at mid page) ≡ false
        → Wears (page ∷ []) mid new → IsSameBut page mid new
        → IsPartlyErased (page_at mid page) (page_at new page)
        → ErasesPartly (first_page old.size (other side)) (set_of (other side) old) old new
    cleared_cut new written now others partly =
        search (rules, erases_partly, wears_to, at, within, there)

    pub cleared_stops : (new : Device) → is_blank (page_at mid page) ≡ false
        → StopsAmong (Erase page ∷ []) mid new → StopsAmong (steps_to_clear old (other side)) old new
    cleared_stops new written stops =
        subst (λ (list : List Step). StopsAmong list old new) cleared_is
        (each_stops erase_words erase_below old mid new first page from so_far.steps pages below
        (rw written stops))
