-- The lowest page that waits to be erased, from a look over the pages of the other set.
use Rattle.ee_core.proofs.Words.{rules, ◌≡◌, ◌<◌, ◌≤◌, ℕ, Some, true, false, [], ◌∷◌}
use Rattle.ee_core.proofs.Sets.{Device, page_at, IsPartlyErased, IsPageOf, KeepsLiveSet, IsLive, is_blank, first_page, live_of, other, Side}
use Rattle.ee_core.proofs.Calls.{IsSameBut, ErasesLowest, IsLowestPending, KeepsAllButLowest, Wears, pending_pages}
use Rattle.ee_core.proofs.PendingPages.{lowest_blank}

module _ (old new : Device) (side searched : Side) (generation page : ℕ)
    (live : live_of old ≡ Some (side, generation)) (is_other : searched ≡ other side)
    (in_set : IsPageOf old.size searched page)
    (not_blank : is_blank (page_at old page) ≡ false)
    (lower_blank : (lower : ℕ) → first_page old.size searched ≤ lower → lower < page
    → is_blank (page_at old lower) ≡ true)
    (others : IsSameBut page old new) (wear : Wears (page ∷ []) old new) where
  is_lowest : IsLowestPending old page
  is_lowest = search rules

  waited_first : IsLive old side generation → KeepsLiveSet old new side generation
      → is_blank (page_at new page) ≡ true → pending_pages old ≡ page ∷ pending_pages new
  waited_first found keeps blank = search (rules, lowest_blank)

  pub erases_lowest : is_blank (page_at new page) ≡ true → IsLive old side generation
      → KeepsLiveSet old new side generation → ErasesLowest old new
  erases_lowest blank found keeps = search (waited_first, is_lowest)

  pub keeps_all_but_lowest : IsPartlyErased (page_at old page) (page_at new page)
      → KeepsAllButLowest old new
  keeps_all_but_lowest partly = search is_lowest
