-- What erasing a page of the set that is not live leaves.
use Rattle.ee_core.proofs.Words.{◌≡◌, ◌⊎◌, inl, ℕ, ◌<◌, false, length, arith, rules}
use Rattle.ee_core.proofs.Sets.{Device, IsFormed, IsOn, page_at, IsStep, Erase, IsCutIn, IsUntouched, MayFollow, with_page_erased, IsPageOf, KeepsSide, is_blank, other, Side, other_set_keeps_side, erase_lowers_pending, step_keeps_other_pages, whole_erase_lowers_pending}
use Rattle.ee_core.proofs.Calls.{IsSameBut, PageErased, PageErasedPartly}
use Rattle.ee_core.proofs.Cuts.{erase_partly}
use Rattle.ee_core.proofs.SetPages.{page_of_device}
use Rattle.ee_core.proofs.Wears.{cut_page_wears, page_wears}

module _ (page : ℕ) (old new : Device) (side : Side) (formed : IsFormed old)
    (at : IsPageOf old.size (other side) page) where
  erasing : MayFollow (Erase page) old new → IsStep (Erase page) old new
  erasing follows = search page_of_device

  keeps : MayFollow (Erase page) old new → KeepsSide old new side
  keeps follows = other_set_keeps_side _ _ _ _ (erasing follows) at tt

  others_stay : MayFollow (Erase page) old new → IsSameBut page old new
  others_stay follows k apart = step_keeps_other_pages _ _ _ k (erasing follows) apart

  has_wear : page < length old.wear
  has_wear = omega (arith, page_of_device _ (other side) _ at)

  pub page_erased : is_blank (page_at old page) ≡ false → IsOn old → new ≡ with_page_erased page old
      → PageErased old new side page
  page_erased not_blank on done =
      let whole = inl (record { was_on = on; done = done }) in
      let lowers = whole_erase_lowers_pending _ _ _ _ at not_blank (erasing whole) done in
      search (rules, keeps, others_stay, page_wears, has_wear)

  pub page_erased_partly : is_blank (page_at old page) ≡ false
      → IsCutIn (Erase page) old new ⊎ IsUntouched old new → PageErasedPartly old new side page
  page_erased_partly not_blank cut = search (
    rules,
    keeps,
    others_stay,
    erase_partly,
    erase_lowers_pending,
    erasing,
    cut_page_wears,
    has_wear,
  )
