-- What a program in a page of a set leaves of the device's two sets.
use Rattle.std.proofs.Common.{◌≡◌, ◌⊎◌, inl, inr, ℕ, ◌+◌, ◌<◌, List, [], ◌∷◌, take, drop, get_or, set, refl, sym, ap, ◌∙◌, arith, suc, zero}
use Rattle.std.proofs.lemmas.List.{drop-set-add, get_or-drop, get_or-take}
use Rattle.ee_flash.specs.Device.{Device, word_at}
use Rattle.ee_flash.specs.Laws.{IsStep}
use Rattle.ee_flash.specs.Step.{Program, device_after}
use Rattle.ee_flash.specs.declared.word.Word.{Word}
use Rattle.ee_flash.specs.declared.word.Word.TheVariants.{Erased, Held, Torn}
use Rattle.ee_flash.proofs.Public.{step_changes_one_page, step_leaves_pages}
use Rattle.ee_pages.specs.Laws.{IsPageOf}
use Rattle.ee_pages.specs.Page.{word_in}
use Rattle.ee_pages.specs.Sets.{committed_generation, first_page, live_of, other, set_of, word_of}
use Rattle.ee_pages.specs.declared.side.Side.{Side}
use Rattle.ee_pages.specs.declared.side.Side.TheVariants.{First, Second}
use Rattle.ee_pages.proofs.InTheSet.{with_word_in}
use Rattle.ee_pages.proofs.OtherSet.{same_set}

pub take_of_set : {X : Type 0} (n : ℕ) (xs : List X) (i : ℕ) (x : X)
    → take n (set xs i x) ≡ set (take n xs) i x
take_of_set zero xs i x = refl
take_of_set (suc n) [] i x = refl
take_of_set (suc n) (y ∷ xs) zero x = refl
take_of_set (suc n) (y ∷ xs) (suc i) x = ap (λ (rest : List _). y ∷ rest) (take_of_set n xs i x)

-- the page of the set is a page of the device
pub word-in_set : (side : Side) (device : Device) (page at : ℕ) → page < device.size.pages
    → word_of (set_of side device) page at ≡ word_at device (first_page device.size side + page) at
word-in_set First device page at h =
    let e : page ≡ 0 + page = omega arith in
    ap (λ words. word_in words at) (get_or-take device.size.pages device.image page [] h)
    ∙ ap (λ n. word_at device n at) e
word-in_set Second device page at h =
    ap (λ words. word_in words at) (get_or-drop device.size.pages device.image page [])

-- a word put into it in the device is put into it in the set
put_in_set : (side : Side) (old new : Device) (k at : ℕ) (word : Word) → k < old.size.pages
    → new.size ≡ old.size
    → new.image ≡ with_word_in old.image (first_page old.size side + k) at word
    → set_of side new ≡ with_word_in (set_of side old) k at word
put_in_set First old new k at word h same put =
    let e : 0 + k ≡ k = omega arith in
    ap (λ size. take size.pages new.image) same
    ∙ ap (take old.size.pages) (put ∙ ap (λ n. with_word_in old.image n at word) e)
    ∙ take_of_set old.size.pages old.image k (set (get_or old.image k []) at word)
    ∙ ap (λ (words : List Word). set (take old.size.pages old.image) k (set words at word))
    (sym (get_or-take old.size.pages old.image k [] h))
put_in_set Second old new k at word h same put =
    ap (λ size. drop size.pages new.image) same ∙ ap (drop old.size.pages) put
    ∙ drop-set-add old.size.pages old.image k
    (set (get_or old.image (old.size.pages + k) []) at word)
    ∙ ap (λ (words : List Word). set (drop old.size.pages old.image) k (set words at word))
    (sym (get_or-drop old.size.pages old.image k []))

pub as_it_was : (side : Side) (old new : Device) → new.size ≡ old.size → new.image ≡ old.image
    → set_of side new ≡ set_of side old
as_it_was First old new same image =
    ap (λ size. take size.pages new.image) same ∙ ap (take old.size.pages) image
as_it_was Second old new same image =
    ap (λ size. drop size.pages new.image) same ∙ ap (drop old.size.pages) image

in_other : (side : Side) (old : Device) (k : ℕ) → k < old.size.pages
    → IsPageOf old.size (other (other side)) (first_page old.size side + k)
in_other First old k h = record { from = omega arith; below = omega arith }
in_other Second old k h = record { from = omega arith; below = omega arith }

module _ (side : Side) (old new : Device) (k at value : ℕ) (h : k < old.size.pages)
    (taken : IsStep (Program (first_page old.size side + k) at value) old new) where
  -- the set is as it was, or with the word, whole or torn
  pub program_in_set : (set_of side new ≡ set_of side old)
      ⊎ (set_of side new ≡ with_word_in (set_of side old) k at (Held value))
      ⊎ (set_of side new ≡ with_word_in (set_of side old) k at Torn)
  program_in_set =
      let size = (step_changes_one_page _ old new taken).same_size in
      elim (step_leaves_pages _ old new taken) [
        | inl same ↦ inl (as_it_was side old new size same)
        | inr (inl held) ↦ inr (inl (put_in_set side old new k at (Held value) h size held))
        | inr (inr torn) ↦ inr (inr (put_in_set side old new k at Torn h size torn))
      ]

  -- the whole step puts it there
  pub whole_in_set : new ≡ device_after (Program (first_page old.size side + k) at value) old
      → set_of side new ≡ with_word_in (set_of side old) k at (Held value)
  whole_in_set done =
      put_in_set side old new k at (Held value) h (step_changes_one_page _ old new taken).same_size
      (ap (λ (device : Device). device.image) done)

  -- the other set stays
  pub other_in_set : set_of (other side) new ≡ set_of (other side) old
  other_in_set =
      same_set (other side) old new (first_page old.size side + k)
      (step_changes_one_page _ old new taken) (in_other side old k h)

  -- the word was erased
  pub was_erased : word_of (set_of side old) k at ≡ Erased
  was_erased = word-in_set side old k at h ∙ taken.may.2

-- which set is live depends on the words that commit the two
pub same_live : (side : Side) (old new : Device)
    → committed_generation (set_of side new) ≡ committed_generation (set_of side old)
    → set_of (other side) new ≡ set_of (other side) old → live_of new ≡ live_of old
same_live First old new commit same = rw (commit, same) refl
same_live Second old new commit same = rw (commit, same) refl
