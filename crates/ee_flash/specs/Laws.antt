-- Laws of steps, of calls of several steps, and of a device in memory: each is proved by the
-- function of its name.
use Rattle.std.specs.Prelude.{◌≡◌, ◌<◌, ◌≤◌, ◌⊎◌, ℕ, ◌*◌, ◌-◌, Some, None, List, [], ◌∷◌, length, slice_set}
use Rattle.std.specs.List.{All, flat_map}
use Rattle.ee_flash.specs.Size.{Size, page_count}
use Rattle.ee_flash.specs.Device.{Device, IsFormed, IsOn, all_ones, page_at, wear_at, word_at}
use Rattle.ee_flash.specs.Step.{Step, Program, Erase, MayFollow, MayLeave, device_after, device_after_tear, device_by_fuse}
use Rattle.ee_flash.specs.Power.{GoesOn, IsCut}
use Rattle.ee_flash.specs.Pages.{pages_of}
use Rattle.ee_flash.specs.declared.fuse.Fuse.{Fuse}
use Rattle.ee_flash.specs.declared.word.Word.{Word}
use Rattle.ee_flash.specs.declared.word.Word.TheVariants.{Erased}

-- the page of a step
abbrev pub page_of : Step → ℕ
page_of (Program page at value) = page
page_of (Erase page) = page

-- what a caller meets before a step: the place is in range, and a word to be programmed is erased,
-- its value below all ones
abbrev pub CanTake : Step → Device → Type 0
CanTake (Program page at value) device =
    (page < page_count device.size) × (at < device.size.words) × (word_at device page at ≡ Erased)
    × (value < all_ones)
CanTake (Erase page) device = page < page_count device.size

-- a step that may be taken, on a formed device, and a device that it may leave
pub record IsStep (step : Step) (old new : Device) : Type 0 where
  pub formed : IsFormed old
  pub may : CanTake step old
  pub follows : MayFollow step old new

-- only this page differs, in its words and its wear
pub record DiffersInPage (page : ℕ) (old new : Device) : Type 0 where
  pub same_size : new.size ≡ old.size
  pub image : new.image ≡ slice_set old.image page (page_at new page)
  pub wear : new.wear ≡ slice_set old.wear page (wear_at new page)

-- every outcome of a step changes one page at most
abbrev pub StepChangesOnePage : Type 0
StepChangesOnePage =
    (step : Step) (old new : Device) → IsStep step old new → DiffersInPage (page_of step) old new

-- every outcome of a step, also of a whole one, leaves the pages as a cut in it may
abbrev pub StepLeavesPages : Type 0
StepLeavesPages = (step : Step) (old new : Device) → IsStep step old new → MayLeave step old new

-- every outcome of a step leaves the device formed
abbrev pub StepKeepsFormed : Type 0
StepKeepsFormed = (step : Step) (old new : Device) → IsStep step old new → IsFormed new

-- every outcome of a step goes on, or is a cut
abbrev pub StepEnds : Type 0
StepEnds =
    (step : Step) (old new : Device) → MayFollow step old new → GoesOn old new ⊎ IsCut old new

-- calls one after another: what goes on, and goes on or is cut, does so as a whole
abbrev pub CallsCompose : Type 0
CallsCompose =
    (first second third : Device) → GoesOn first second
    → (GoesOn second third → GoesOn first third) × (IsCut second third → IsCut first third)

-- where no cut is left, none comes
abbrev pub NoCutLeft : Type 0
NoCutLeft = (old new : Device) → old.cuts_left ≡ Some 0 → IsCut old new → ⊥

-- a device after these steps, all of them whole
abbrev pub all_completed : List Step → Device → Device
all_completed [] device = device
all_completed (step ∷ steps) device = all_completed steps (device_after step device)

-- a device whose fuse is known after these steps
abbrev pub after_steps : List Step → Device → Device
after_steps [] device = device
after_steps (step ∷ steps) device = after_steps steps (device_by_fuse step device)

-- without a fuse no step is cut
abbrev pub NoFuseNoCut : Type 0
NoFuseNoCut =
    (steps : List Step) (device : Device) → IsOn device → device.fuse ≡ Some None
    → after_steps steps device ≡ all_completed steps device

-- as many steps as the fuse says are whole, and each burns it down by one
abbrev pub FuseWaits : Type 0
FuseWaits =
    (steps : List Step) (device : Device) (fuse : Fuse) → IsOn device
    → device.fuse ≡ Some (Some fuse) → length steps ≤ fuse.after → let last : Device =
    after_steps steps device in (last ≡ all_completed steps device)
    × (last.fuse ≡ Some (Some (record fuse { after = fuse.after - length steps })))

-- the next step is cut as the fuse's tear says, and the fuse is gone
abbrev pub FuseCuts : Type 0
FuseCuts =
    (steps : List Step) (step : Step) (device : Device) (fuse : Fuse) → IsOn device
    → device.fuse ≡ Some (Some fuse) → length steps ≡ fuse.after
    → device_by_fuse step (after_steps steps device)
    ≡ device_after_tear step fuse.tear (all_completed steps device)

-- the pages of a list of words, joined, are the list
abbrev pub PagesJoin : Type 0
PagesJoin =
    (size : Size) (cells : List Word) → length cells ≡ page_count size * size.words
    → flat_map (λ page. page) (pages_of size cells) ≡ cells

-- pages of that length, joined and cut again, are the pages
abbrev pub JoinedPages : Type 0
JoinedPages =
    (size : Size) (pages : List (List Word)) → length pages ≡ page_count size
    → All (λ page. length page ≡ size.words) pages
    → pages_of size (flat_map (λ page. page) pages) ≡ pages
