-- What a store is opened from, and what a new one stands on.
use Rattle.std.proofs.Common.{◌≡◌, ◌∙◌, ℕ, zero, suc, Bool, false, List, length, replicate, sym, ap, subst, refl, rules}
use Rattle.std.specs.List.{filter, list_any}
use Rattle.ee_flash.specs.Device.{Device, IsFormed, blank_device}
use Rattle.ee_flash.specs.Formed.{IsFormed-pages_of}
use Rattle.ee_flash.specs.Kept.{words_of}
use Rattle.ee_flash.specs.Memory.{device_of}
use Rattle.ee_flash.specs.Power.{GoesOn}
use Rattle.ee_flash.specs.Size.{Size, page_count}
use Rattle.ee_flash.specs.declared.memory.MemFlash.{MemFlash}
use Rattle.ee_flash.specs.declared.word.Word.TheVariants.{Erased}
use Rattle.ee_pages.specs.Legal.{IsLegal}
use Rattle.ee_pages.specs.Page.{is_written}
use Rattle.ee_pages.specs.Sets.{pending_of}
use Rattle.ee_core.proofs.Public.{length-not_blank, no_wear, wears_rise}
use Rattle.ee_core.specs.Openings.{IsFormatted, Opens, not_blank_pages}
use Rattle.ee_image.specs.Text.{at_rest, image_text}
use Rattle.ee_image_store.specs.Opening.{IsNewStore, IsOpened, IsStoreText, StaysOn}
use Rattle.ee_image_store.proofs.Erasing.{by_wear, unworn}

-- a device in memory is formed
pub formed_of : {A : Type 0} (flash : MemFlash A) → IsFormed (device_of flash)
formed_of flash =
    IsFormed-pages_of flash.shape (words_of flash.cells) flash.wear.items flash.cuts flash.fuse
    flash.on flash.within_limits
    flash.cells_length flash.below_all_ones (sym flash.wear.ok.0 ∙ flash.wear_length)
    flash.wear_fits flash.cuts_fit

-- a device whose power goes on
stays : (old new : Device) → StaysOn old → new.on ≡ old.on → new.cuts_left ≡ old.cuts_left
    → StaysOn new
stays old new kept on left = record { on = on ∙ kept.on; never_cut = left ∙ kept.never_cut }

rests : (device : Device) → device ≡ at_rest device → StaysOn device
rests device rest = record {
  on = ap (λ (d : Device). d.on) rest;
  never_cut = ap (λ (d : Device). d.cuts_left) rest;
}

is_text : (text : List ℕ) (device : Device) → text ≡ image_text device → IsLegal device
    → IsStoreText text device
is_text text device spelled legal = search rules

pub is_opened : (text : List ℕ) (old new : Device) → old ≡ at_rest old → text ≡ image_text old
    → Opens old new → IsOpened text new
is_opened text old new rest spelled opens =
    let goes : GoesOn old new = opens.goes_on in
    record {
      device = old;
      old = is_text text old spelled opens.legal;
      rests = rest;
      opens = opens;
      stays_on = stays old new (rests old rest) goes.same_power goes.same_cuts_left;
      same_size = goes.same_size;
      state_is = opens.state_is;
      same_pending = opens.same_pending;
      no_wear = opens.no_wear;
      erases = by_wear old new opens.state_is (no_wear old new opens.no_wear);
    }

-- ---- a new device

none_written : (n : ℕ) → list_any is_written (replicate n Erased) ≡ false
none_written zero = refl
none_written (suc n) = none_written n

none_of : {X : Type 0} (test : X → Bool) (x : X) (n : ℕ) → test x ≡ false
    → length (filter test (replicate n x)) ≡ 0
none_of test x zero e = refl
none_of test x (suc n) e = rw e (none_of test x n e)

none_pending : (size : Size) → pending_of (blank_device size).image ≡ 0
none_pending size =
    none_of _ (replicate size.words Erased) (page_count size) (rw (none_written size.words) refl)

pub is_new : (size : Size) (old new : Device) → old ≡ blank_device size → IsFormatted old new
    → IsNewStore size new
is_new size old new blank made =
    let kept : StaysOn old = record {
      on = ap (λ (d : Device). d.on) blank;
      never_cut = ap (λ (d : Device). d.cuts_left) blank;
    } in
    let none : length (not_blank_pages old) ≡ 0 =
    length-not_blank old.image 0 ∙ ap (λ (d : Device). pending_of d.image) blank
    ∙ none_pending size in
    let fresh : old.wear ≡ replicate (page_count size) 0 = ap (λ (d : Device). d.wear) blank in
    record {
      formats = subst (λ (device : Device). IsFormatted device new) blank made;
      stays_on = stays old new kept made.goes_on.same_power made.goes_on.same_cuts_left;
      size_is = made.goes_on.same_size ∙ ap (λ (d : Device). d.size) blank;
      state_is = made.state_is;
      no_wear = unworn old new (wears_rise (not_blank_pages old) 0 old new made.wear none) ∙ fresh;
    }
