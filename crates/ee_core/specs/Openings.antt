-- How a store comes to be: by opening a legal image, or by formatting.
use Rattle.std.specs.Prelude.{◌≡◌, ◌⊎◌, ◌+◌, ℕ, Some, List, [], not}
use Rattle.ee_flash.specs.Device.{Device, page_at}
use Rattle.ee_flash.specs.Power.{GoesOn, IsCut}
use Rattle.ee_pages.specs.Layout.{IsScanFault}
use Rattle.ee_pages.specs.Legal.{IsLegal}
use Rattle.ee_pages.specs.Page.{is_blank}
use Rattle.ee_pages.specs.Sets.{first_page, live_of, other}
use Rattle.ee_pages.specs.declared.side.Side.{Side}
use Rattle.ee_pages.specs.declared.side.Side.TheVariants.{First, Second}
use Rattle.ee_core.specs.Finished.{IsFinished, IsStore, last_used}
use Rattle.ee_core.specs.Cuts.{ErasesPartly, IsDrawnPartly}
use Rattle.ee_core.specs.Picture.{IsDrawn, OfLive, blank_picture, filled_set, marked_to, picture_of, retired_pages}
use Rattle.ee_core.specs.StepLists.{steps_of_format, steps_of_open}
use Rattle.ee_flash.specs.Taking.{Completes, IsCutAmong}
use Rattle.ee_core.specs.State.{Wears, formatted_state, not_blank_from, pending_pages, state_of}
use Rattle.ee_core.specs.declared.opening.OpenFault.{OpenFault}
use Rattle.ee_core.specs.declared.opening.OpenFault.TheVariants.{Scan, Cut}

-- what is drawn after an opening: the marks of the live set up to its last used page; and each page
-- of the other set that is not blank may be erased
pub record ShowsMarks (old new : Device) (side : Side) : Type 0 where
  pub live_pages : IsDrawn side new (marked_to (last_used old side) (picture_of side old))
  pub old_pages : IsDrawn (other side) new
      (retired_pages
      (λ page. not (is_blank (page_at old (first_page old.size (other side) + page))))
      (picture_of (other side) old))

-- The image was legal; its state is as before, the same set is live, the same pages wait, and none
-- was erased. Where no mark was left, nothing changed.
pub record Opens (old new : Device) : Type 0 where
  pub legal : IsLegal old
  pub store : IsStore new
  pub goes_on : GoesOn old new
  pub steps : Completes (steps_of_open old) old new
  pub state_is : state_of new ≡ state_of old
  pub live_is : live_of new ≡ live_of old
  pub same_pending : pending_pages new ≡ pending_pages old
  pub image : OfLive old (λ side generation. ShowsMarks old new side)
  pub no_wear : new.wear ≡ old.wear
  pub no_step : IsFinished old → new ≡ old

-- what is drawn when power was cut in an opening: of the marks that were left to set each is as
-- before, set or torn; each other word is as before
pub record ShowsCutMarks (old new : Device) (side : Side) : Type 0 where
  pub live_pages : IsDrawnPartly side new (picture_of side old)
      (marked_to (last_used old side) (picture_of side old))
  pub old_pages : let before = picture_of (other side) old in
      IsDrawnPartly (other side) new before
      (retired_pages
      (λ page. not (is_blank (page_at old (first_page old.size (other side) + page))))
      before)

-- power was cut in setting a mark; the state is as before, and no page was erased
pub record IsCutOpening (old new : Device) : Type 0 where
  pub was_legal : IsLegal old
  pub mark_left : ¬ IsFinished old
  pub cut : IsCut old new
  pub steps : IsCutAmong (steps_of_open old) old new
  pub legal : IsLegal new
  pub state_is : state_of new ≡ state_of old
  pub no_wear : new.wear ≡ old.wear
  pub words : OfLive old (λ side generation. ShowsCutMarks old new side)

-- why there is no store: the image was not legal, and nothing changed; or power was cut
abbrev pub OpenFails : Device → OpenFault → Device → Type 0
OpenFails old (Scan fault) new = IsScanFault old fault × (new ≡ old)
OpenFails old Cut new = IsCutOpening old new

-- the pages of the device that are not blank
abbrev pub not_blank_pages : Device → List ℕ
not_blank_pages device = not_blank_from 0 device.image

-- Power was cut in a format, behind its erases: each page that was not blank has worn, and no
-- other; of the first set each word is erased, as the whole format leaves it, or torn; the
-- second set is blank.
pub record FormatsPartly (old new : Device) : Type 0 where
  pub wear : Wears (not_blank_pages old) old new
  pub first_set : IsDrawnPartly First new blank_picture (filled_set new.size 1 [])
  pub second_set : IsDrawn Second new blank_picture

-- power was cut in a format: in erasing the pages that were not blank, or behind that
pub record IsCutFormat (old new : Device) : Type 0 where
  pub cut : IsCut old new
  pub steps : IsCutAmong (steps_of_format old) old new
  pub words : ErasesPartly 0 old.image old new ⊎ FormatsPartly old new

-- a store with nothing in it, whose live set is the first, with generation 1; each page that was
-- not blank was erased, each once, and no other
pub record IsFormatted (old new : Device) : Type 0 where
  pub store : IsStore new
  pub live_is : live_of new ≡ Some (First, 1)
  pub goes_on : GoesOn old new
  pub steps : Completes (steps_of_format old) old new
  pub state_is : state_of new ≡ formatted_state
  pub first_set : IsDrawn First new (filled_set new.size 1 [])
  pub second_set : IsDrawn Second new blank_picture
  pub wear : Wears (not_blank_pages old) old new
