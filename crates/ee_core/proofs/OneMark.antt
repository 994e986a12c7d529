-- What setting one mark leaves, of either set.
use Rattle.ee_core.proofs.Words.{◌≡◌, ◌⊎◌, ◌<◌, ℕ, true, false, IsErr, Ok, Result}
use Rattle.ee_core.proofs.Sets.{Device, IsCutIn, IsFormed, IsOn, IsStep, IsUntouched, Mark, Side, device_after, is_marked, marking, page_count}
use Rattle.ee_core.proofs.Calls.{Stays}
use Rattle.ee_core.proofs.AfterCalls.{never_on_ok, same_but}
use Rattle.ee_core.proofs.Cuts.{mark_partly}
use Rattle.ee_core.proofs.Drawings.{sets_mark}
use Rattle.ee_core.proofs.Making.{always_on_err}
use Rattle.ee_core.proofs.Marks.{IsProper, mark_keeps_marks, marked_after}
use Rattle.ee_core.specs.Cuts.{MarksOnePage}

-- the mark's step was taken, or none where the mark was set
module _ (page : ℕ) (mark : Mark) (old new : Device) (side : Side) (generation : ℕ)
    (formed : IsFormed old) (h : page < page_count old.size) (stays : Stays old new side generation)
    (step : (new ≡ old) ⊎ IsStep (marking page mark) old new)
    (same : is_marked old page mark ≡ true → new ≡ old) where
  pub mark_set : {E : Type 0} → IsProper mark → (is_marked old page mark ≡ false → IsOn old)
      → (is_marked old page mark ≡ false → new ≡ device_after (marking page mark) old)
      → MarksOnePage {T = Unit {0}} {E = E} (Ok tt) old new side generation page mark
  mark_set proper on done = record {
    stays = stays;
    others = same_but page mark old new step;
    marks = mark_keeps_marks page mark old new step;
    marked = marked_after page mark old new formed h proper same on done;
    sets = sets_mark page mark old new formed h same done;
    begun = tt;
    fails = tt;
  }

  pub mark_cut : {T E : Type 0} (result : Result T E) → IsErr result
      → ¬ (is_marked old page mark ≡ true)
      → IsCutIn (marking page mark) old new ⊎ IsUntouched old new
      → MarksOnePage result old new side generation page mark
  mark_cut result failed unset cut = record {
    stays = stays;
    others = same_but page mark old new step;
    marks = mark_keeps_marks page mark old new step;
    marked = never_on_ok _ result failed;
    sets = never_on_ok _ result failed;
    begun = always_on_err result (mark_partly page mark old new formed h same cut);
    fails = always_on_err result unset;
  }
