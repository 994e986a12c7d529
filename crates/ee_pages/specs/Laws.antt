-- What a step keeps, in every outcome: each law is proved by the function of its name.
use Rattle.std.specs.Prelude.{◌≡◌, ◌≢◌, ◌<◌, ◌≤◌, ◌⊎◌, ℕ, ◌+◌, None, false}
use Rattle.ee_flash.specs.Device.{Device, IsFormed, page_at, word_at}
use Rattle.ee_flash.specs.Laws.{IsStep, page_of}
use Rattle.ee_flash.specs.Size.{Size}
use Rattle.ee_flash.specs.Step.{Step, Program, Erase}
use Rattle.ee_flash.specs.declared.word.Word.TheVariants.{Erased}
use Rattle.ee_pages.specs.Legal.{IsLive}
use Rattle.ee_pages.specs.Meaning.{meaning}
use Rattle.ee_pages.specs.Page.{is_blank}
use Rattle.ee_pages.specs.Sets.{committed_generation, fill_of, first_page, other, set_of, slots_of}
use Rattle.ee_pages.specs.declared.side.Side.{Side}

-- the page, by its number in the device, is one of the set
pub record IsPageOf (size : Size) (side : Side) (page : ℕ) : Type 0 where
  pub from : first_page size side ≤ page
  pub below : page < first_page size side + size.pages

-- the live set is live still, with the same slots, and so is all that follows from them as before
pub record KeepsLiveSet (old new : Device) (side : Side) (generation : ℕ) : Type 0 where
  pub live : IsLive new side generation
  pub same_size : new.size ≡ old.size
  pub same_slots : slots_of (set_of side new) ≡ slots_of (set_of side old)
  pub same_fill : fill_of (slots_of (set_of side new)) ≡ fill_of (slots_of (set_of side old))
  pub same_map : (address : ℕ)
      → meaning (slots_of (set_of side new)) address ≡ meaning (slots_of (set_of side old)) address

-- The step can't commit the set whose first page this is: it erases a page, or programs another
-- word than that page's receive word and active mark, or that receive word while the mark
-- behind it is erased.
abbrev pub CannotCommit : ℕ → Step → Device → Type 0
CannotCommit first (Erase page) old = Unit {0}
CannotCommit first (Program page at value) old =
    (page ≡ first → at ≢ 1) × (page ≡ first → at ≡ 0 → word_at old first 1 ≡ Erased)

-- every outcome of a step in the set that is not live keeps the live set, page for page, unless the
-- step can commit that other set
abbrev pub OtherSetKeepsLive : Type 0
OtherSetKeepsLive =
    (step : Step) (old new : Device) (side : Side) (generation : ℕ) → IsLive old side generation
    → IsStep step old new
    → IsPageOf old.size (other side) (page_of step)
    → CannotCommit (first_page old.size (other side)) step old
    → KeepsLiveSet old new side generation × (set_of side new ≡ set_of side old)

-- every outcome of a step leaves the other pages blank, or not, as they were
abbrev pub StepKeepsOtherPages : Type 0
StepKeepsOtherPages =
    (step : Step) (old new : Device) (page : ℕ) → IsStep step old new → page ≢ page_of step
    → page_at new page ≡ page_at old page

-- with the power on, a program leaves its page written, or all pages as they were
abbrev pub ProgramLeavesWritten : Type 0
ProgramLeavesWritten =
    (page at value : ℕ) (old new : Device) → IsStep (Program page at value) old new
    → (new.image ≡ old.image) ⊎ (is_blank (page_at new page) ≡ false)

-- The set of this side is as before, page for page, and the other one commits as it did, or not at
-- all. What stands in either is not said.
pub record KeepsSide (old new : Device) (side : Side) : Type 0 where
  pub formed : IsFormed new
  pub same_size : new.size ≡ old.size
  pub same_set : set_of side new ≡ set_of side old
  pub same_slots : slots_of (set_of side new) ≡ slots_of (set_of side old)
  pub commits
      :
      (committed_generation (set_of (other side) new)
      ≡ committed_generation (set_of (other side) old))
      ⊎ (committed_generation (set_of (other side) new) ≡ None)

-- every outcome of a step in the other set keeps this one, whatever stands in it, unless the step
-- can commit the other
abbrev pub OtherSetKeepsSide : Type 0
OtherSetKeepsSide =
    (step : Step) (old new : Device) (side : Side) → IsStep step old new
    → IsPageOf old.size (other side) (page_of step)
    → CannotCommit (first_page old.size (other side)) step old
    → KeepsSide old new side

-- so a live set is kept
abbrev pub KeptSideIsLive : Type 0
KeptSideIsLive =
    (old new : Device) (side : Side) (generation : ℕ) → IsLive old side generation
    → KeepsSide old new side → KeepsLiveSet old new side generation
