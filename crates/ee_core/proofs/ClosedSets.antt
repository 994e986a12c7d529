-- The marks behind a commit, from those that an opening would set.
use Rattle.ee_core.proofs.Words.{◌≡◌, ℕ, ◌+◌, ◌-◌, ◌<◌, Bool, true, false, cond, List, [], ◌∷◌, ◌++◌, length, refl, sym, subst, ap, ◌∙◌, arith, suc, zero, flat_map, ◌==◌, ◌&&◌}
use Rattle.ee_core.proofs.Sets.{Device, IsFormed, page_at, Size, Step, Word, is_marked, is_written, marking, first_page, page_of_slot, Side, Active, Erasing, Valid}
use Rattle.ee_core.proofs.Calls.{IsCommittedWith, mark_where, opened_set, IsDrawn, IsSameSet, picture_of}
use Rattle.std.specs.List.{range_with_len}
use Rattle.ee_core.specs.StepLists.{steps_to_close, steps_to_mark, steps_to_mark_live, steps_to_retire}
use Rattle.ee_core.proofs.Taken.{in_set, retire_words}
use Rattle.ee_core.proofs.Drawings.{same_drawn}
use Rattle.ee_core.proofs.MovedSets.{same_page_drawn}

-- the same steps for each page
pub flat_same : (f g : ℕ → List Step) (first count : ℕ)
    → ((k : ℕ) → k < count → f (first + k) ≡ g (first + k))
    → flat_map f (range_with_len first count) ≡ flat_map g (range_with_len first count)
flat_same _ _ _ zero _ = refl
flat_same f g first (suc count) same =
    let at : first + 0 ≡ first = omega arith in
    let head : f first ≡ g first = subst (λ n. f n ≡ g n) at (same zero (omega arith)) in
    ap (λ list. list ++ flat_map f (range_with_len (first + 1) count)) head
    ∙ ap (λ list. g first ++ list)
    (flat_same f g (first + 1) count
    (λ k h. subst (λ n. f n ≡ g n) (omega arith) (same (suc k) (omega arith))))

other_place : {X : Type 0} (b : Bool) (x y : X) → cond (b && false) x y ≡ y
other_place true _ _ = refl
other_place false _ _ = refl

active_word : (b : Bool) (word : Word) → is_written word ≡ false
    → is_written (cond (b && true) (mark_where true Active) word) ≡ b
active_word true _ _ = refl
active_word false _ none = none

module _ (device : Device) (side : Side) (generation : ℕ) (words : List Word) (last : ℕ)
    (formed : IsFormed device) (held : IsCommittedWith device side generation words)
    (below : last < device.size.pages) where
  abbrev open_to : ℕ
  open_to = page_of_slot device.size (length words - 1)

  not_valid : (k : ℕ) → k < last
      → is_marked device (first_page device.size side + k) Valid ≡ false
  not_valid k h =
      ap is_written
      (held k 2 (omega (arith, h, below)) (omega (arith, formed.within_limits.some_words))
      ∙ other_place (k == 0) (mark_where true Active)
      (opened_set device.size generation open_to words k 2))

  active_first : is_marked device (first_page device.size side + last) Active ≡ (last == 0)
  active_first =
      ap is_written (held last 1 below (omega (arith, formed.within_limits.some_words)))
      ∙ active_word (last == 0) (opened_set device.size generation open_to words last 1) refl

  pub close_is : steps_to_mark_live device side last ≡ steps_to_close device.size side last
  close_is =
      let first = first_page device.size side in
      ap (λ list. list ++ steps_to_mark device Active (first + last))
      (flat_same (steps_to_mark device Valid) (λ page. marking page Valid ∷ []) first last
      (λ k h. ap (λ (b : Bool). cond b [] (marking (first + k) Valid ∷ [])) (not_valid k h)))
      ∙ ap
      (λ (b : Bool). flat_map (λ page. marking page Valid ∷ []) (range_with_len first last)
      ++ cond b [] (marking (first + last) Active ∷ [])) active_first

-- a set that is as it was is retired so
pub retire_same : (side : Side) (old new : Device) → IsFormed old → IsFormed new
    → new.size ≡ old.size → IsDrawn side new (picture_of side old)
    → steps_to_retire new side ≡ steps_to_retire old side
retire_same side old new old_formed formed sizes drawn =
    let first = first_page old.size side in
    let count = old.size.pages in
    let first_is : first ≡ first_page new.size side =
    sym (ap (λ (size : Size). first_page size side) sizes) in
    let count_is : count ≡ new.size.pages = sym (ap (λ (size : Size). size.pages) sizes) in
    sym (in_set (steps_to_mark new Erasing) new side first count formed first_is count_is)
    ∙ flat_same (λ page. retire_words (page_at new page) page)
    (λ page. retire_words (page_at old page) page) first count
    (λ k h. ap (λ words. retire_words words (first + k))
    (ap (λ n. page_at new (n + k)) first_is
    ∙ same_page_drawn side old new k old_formed formed sizes drawn (omega (arith, h, count_is))))
    ∙ in_set (steps_to_mark old Erasing) old side first count old_formed refl refl

-- so is one whose pages are kept
pub retire_kept : (side : Side) (old new : Device) → IsFormed old → IsFormed new
    → new.size ≡ old.size → IsSameSet side old new
    → steps_to_retire new side ≡ steps_to_retire old side
retire_kept side old new old_formed formed sizes same =
    retire_same side old new old_formed formed sizes (same_drawn side old new sizes same)
