-- What programming a mark leaves of its device, in every outcome.
use Rattle.ee_core.proofs.Words.{rules, ◌≡◌, ◌⊎◌, inl, inr, ℕ, ◌-◌, ◌<◌, ◌≤◌, true, false, List, [], length, get_or, set, Result, Ok, Err, OnOk, OnErr, refl, sym, subst, ap, ◌∙◌, arith, get_or-set_same, All-get_or}
use Rattle.ee_core.proofs.Sets.{IsGeneration, Device, IsFormed, IsOn, all_ones, page_at, IsStep, page_count, Step, Program, IsCutIn, IsUntouched, MayFollow, device_after, Word, step_leaves_pages, IsPageOf, IsLive, is_blank, is_marked, is_written, marking, number_of_mark, place_of_mark, word_in, IsMarkBehind, first_page, other, Side, Mark, Receive, Active, Valid, Erasing, other_set_keeps_live, program_leaves_written, step_keeps_other_pages, mark_keeps_live, erased_word, first_below}
use Rattle.ee_core.proofs.Calls.{KeepsMarks, Stays}
use Rattle.ee_flash.specs.declared.device.Cut.{Cut}
use Rattle.ee_core.proofs.PendingPages.{same_not_blank}

-- a written word stays one where a word of the pages gets written
written_stays : (image : List (List Word)) (page at : ℕ) (word : Word) (p k : ℕ)
    → page < length image → at < length (get_or image page []) → is_written word ≡ true
    → is_written (word_in (get_or image p []) k) ≡ true
    → is_written (word_in (get_or (set image page (set (get_or image page []) at word)) p []) k)
    ≡ true
written_stays image page at word p k h within written was = search rules

-- no outcome of a program makes a written word erased
pub program_keeps_marks : (page at value : ℕ) (old new : Device)
    → IsStep (Program page at value) old new → KeepsMarks old new
program_keeps_marks page at value old _ taken p mark was =
    search (rules, All-get_or, step_leaves_pages, written_stays)

-- nor wears a page
pub program_keeps_wear : (page at value : ℕ) (old new : Device)
    → MayFollow (Program page at value) old new → new.wear ≡ old.wear
program_keeps_wear _ _ _ _ _ (inl done) = ap (λ device. device.wear) done.done
program_keeps_wear _ _ _ _ _ (inr (inl cut)) = cut.wear
program_keeps_wear _ _ _ _ _ (inr (inr untouched)) = ap (λ device. device.wear) untouched.same

-- a generation in a receive word is a proper one
abbrev pub IsProper : Mark → Type 0
IsProper mark = (generation : ℕ) → mark ≡ Receive generation → IsGeneration generation

number_below : (mark : Mark) → IsProper mark → number_of_mark mark < all_ones
number_below (Receive generation) proper = let fits = proper generation refl in omega arith
number_below Active _ = omega arith
number_below Valid _ = omega arith
number_below Erasing _ = omega arith

pub place_below : (mark : Mark) → place_of_mark mark < 4
place_below (Receive _) = omega arith
place_below Active = omega arith
place_below Valid = omega arith
place_below Erasing = omega arith

-- the step of a mark that is not set
pub mark_step : (page : ℕ) (mark : Mark) (old new : Device) → IsFormed old
    → page < page_count old.size → IsProper mark → is_marked old page mark ≡ false
    → MayFollow (marking page mark) old new → IsStep (marking page mark) old new
mark_step _ _ _ _ formed h proper unset follows =
    search (rules, place_below, erased_word, number_below)

follows_by : (step : Step) (old new : Device) (result : Result Unit Cut) → OnOk result (IsOn old)
    → OnOk result (new ≡ device_after step old)
    → OnErr result (IsCutIn step old new ⊎ IsUntouched old new) → MayFollow step old new
follows_by _ _ _ (Ok _) on done _ = inl (record { was_on = on; done = done })
follows_by _ _ _ (Err _) _ _ cut = inr cut

-- marking takes the mark's step, or none where the mark is set
pub marks : (page : ℕ) (mark : Mark) (old new : Device) (result : Result Unit Cut) → IsFormed old
    → page < page_count old.size → IsProper mark
    → (is_marked old page mark ≡ true → (result ≡ Ok tt) × (new ≡ old))
    → (is_marked old page mark ≡ false → OnOk result (IsOn old))
    → (is_marked old page mark ≡ false → OnOk result (new ≡ device_after (marking page mark) old))
    → OnErr result (IsCutIn (marking page mark) old new ⊎ IsUntouched old new)
    → (new ≡ old) ⊎ IsStep (marking page mark) old new
marks page mark old new result formed h proper present on done cut =
    search (rules, mark_step, follows_by)

pub same_keeps_marks : (old new : Device) → new ≡ old → KeepsMarks old new
same_keeps_marks _ _ same page mark was = search rules

pub mark_keeps_marks : (page : ℕ) (mark : Mark) (old new : Device)
    → (new ≡ old) ⊎ IsStep (marking page mark) old new → KeepsMarks old new
mark_keeps_marks _ _ old new (inl same) = same_keeps_marks old new same
mark_keeps_marks page mark old new (inr taken) =
    program_keeps_marks page (place_of_mark mark) (number_of_mark mark) old new taken

-- nothing changed
pub same_stays : (old new : Device) (side : Side) (generation : ℕ) → IsLive old side generation
    → new ≡ old → Stays old new side generation
same_stays _ _ _ _ live same = search rules

-- a mark of the live set, behind written slots
pub live_mark_stays : (page : ℕ) (mark : Mark) (old new : Device) (side : Side) (generation : ℕ)
    → IsLive old side generation → first_page old.size side ≤ page
    → IsMarkBehind old side (page - first_page old.size side) mark
    → (new ≡ old) ⊎ IsStep (marking page mark) old new → Stays old new side generation
live_mark_stays _ _ old new side generation live _ _ (inl same) =
    same_stays old new side generation live same
live_mark_stays page mark old new side generation live from behind (inr taken) =
    let step = subst (λ n. IsStep (marking n mark) old new) (omega arith) taken in
    let kept = mark_keeps_live _ _ _ _ _ _ live behind step in
    search (rules, program_keeps_wear)

-- a mark, in the other set, of a page that may be erased
pub old_mark_stays : (page : ℕ) (old new : Device) (side : Side) (generation : ℕ)
    → IsLive old side generation → IsPageOf old.size (other side) page
    → is_blank (page_at old page) ≡ false → (new ≡ old) ⊎ IsStep (marking page Erasing) old new
    → Stays old new side generation
old_mark_stays _ old new side generation live _ _ (inl same) =
    same_stays old new side generation live same
old_mark_stays page old new _ _ live of written (inr taken) =
    let kept =
    other_set_keeps_live _ _ _ _ _ live taken of ((λ first one. cc), (λ first zero. cc)) in
    record {
      keeps = kept.0;
      same_pending =
          same_not_blank _ _ _ _ live.formed kept.0.live.formed kept.0.same_size of
          (λ p apart. step_keeps_other_pages _ _ _ p taken apart)
          ((elim (program_leaves_written _ 3 _ _ _ taken) [
            | inl same ↦ ap (λ image. is_blank (get_or image page [])) same
                ∙ written
            | inr more ↦ more
          ])
          ∙ sym written);
      same_wear = search program_keeps_wear;
    }

-- a page of a set is one of the device
pub page_in_device : (device : Device) (side : Side) (page : ℕ) → first_page device.size side ≤ page
    → page - first_page device.size side < device.size.pages → page < page_count device.size
page_in_device device side _ _ below = let first = first_below device side in omega arith

pub proper_live : (mark : Mark) → (mark ≡ Active) ⊎ (mark ≡ Valid) → IsProper mark
proper_live (Receive _) (inl e) = cc
proper_live (Receive _) (inr e) = cc
proper_live Active _ = λ generation e. cc
proper_live Valid _ = λ generation e. cc
proper_live Erasing _ = λ generation e. cc

pub proper_old : IsProper Erasing
proper_old _ e = cc

-- the word of a whole mark is written
pub marked_by : (page : ℕ) (mark : Mark) (old new : Device) → IsStep (marking page mark) old new
    → new ≡ device_after (marking page mark) old → is_marked new page mark ≡ true
marked_by _ _ _ _ taken whole = search (rules, All-get_or, get_or-set_same)

-- it was before, or is now
pub marked_after : (page : ℕ) (mark : Mark) (old new : Device) → IsFormed old
    → page < page_count old.size → IsProper mark → (is_marked old page mark ≡ true → new ≡ old)
    → (is_marked old page mark ≡ false → IsOn old)
    → (is_marked old page mark ≡ false → new ≡ device_after (marking page mark) old)
    → is_marked new page mark ≡ true
marked_after page mark old new formed h proper same on done = search (rules, marked_by, mark_step)

-- of the numbers that a receive word may have, this is the one
pub one_receive : (number : ℕ) → IsGeneration number → (generation : ℕ)
    → Receive number ≡ Receive generation → IsGeneration generation
one_receive _ proper _ is = subst IsGeneration (cc is) proper
