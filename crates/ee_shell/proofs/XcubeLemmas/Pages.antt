-- Pages that are erased, and pages with the word of ERASING, one further.
use Rattle.std.proofs.Common.{◌≡◌, ◌<◌, ◌+◌, ◌||◌, ◌∙◌, ℕ, Bool, true, false, refl, ap, add-one, inl, inr, subst, arith}
use Rattle.std.proofs.lemmas.Bool.{cases_lt}
use Rattle.ee_flash.specs.Device.{Device}
use Rattle.ee_pages.specs.declared.state.State.TheVariants.{Erased}
use Rattle.ee_shell.specs.Xcube.Pages.{any_erasing, is_in, is_state_word}

pub page_more : (device : Device) (page : ℕ)
    → ((k : ℕ) → k < page → is_in Erased device k ≡ true) → is_in Erased device page ≡ true
    → (k : ℕ) → k < page + 1 → is_in Erased device k ≡ true
page_more device page before here k less = elim (cases_lt k page) [
  | inl early ↦ before k early
  | inr late ↦
      let same : page ≡ k = omega arith in
      subst (λ (n : ℕ). is_in Erased device n ≡ true) same here
]

pub erasing-zero : (device : Device) (first : ℕ) → any_erasing device first 0 ≡ false
unfolding any_erasing
erasing-zero device first = refl

pub erasing-next : (device : Device) (first count : ℕ)
    → any_erasing device first (count + 1)
    ≡ (any_erasing device first count || is_state_word device (first + count) 3)
unfolding any_erasing
erasing-next device first count = rw add-one refl

pub erasing-found : (device : Device) (first count : ℕ) → any_erasing device first count ≡ true
    → any_erasing device first (count + 1) ≡ true
erasing-found device first count found =
    erasing-next device first count ∙ ap (λ (b : Bool). b || is_state_word device (first + count) 3) found

pub erasing-here : (device : Device) (first count : ℕ) → any_erasing device first count ≡ false
    → any_erasing device first (count + 1) ≡ is_state_word device (first + count) 3
erasing-here device first count none =
    erasing-next device first count ∙ ap (λ (b : Bool). b || is_state_word device (first + count) 3) none
