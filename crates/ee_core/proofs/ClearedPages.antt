-- The steps of a clean step.
use Rattle.ee_core.proofs.Words.{◌≡◌, ℕ, ◌+◌, ◌-◌, ◌<◌, ◌≤◌, true, false, List, [], ◌∷◌, length, take, set, refl, sym, subst, ap, ◌∙◌, arith}
use Rattle.ee_core.proofs.Sets.{Device, IsFormed, page_at, Erase, Step, IsPageOf, is_blank, first_page, other, pending_of, set_of, Side, length-set_of}
use Rattle.ee_core.proofs.Calls.{not_blank_from, not_blank_in}
use Rattle.std.specs.Prelude.{map}
use Rattle.ee_core.specs.StepLists.{steps_to_clean}
use Rattle.ee_flash.specs.Taking.{Completes}
use Rattle.ee_core.proofs.NotBlank.{first_blank, length-not_blank}
use Rattle.ee_core.proofs.SetPages.{page_of_set}
use Rattle.ee_core.proofs.Taken.{completes_none}

-- the lowest page that is not blank is the first of them
first_waits : (device : Device) (side : Side) (page : ℕ) → IsFormed device
    → IsPageOf device.size side page → is_blank (page_at device page) ≡ false
    → ((lower : ℕ) → first_page device.size side ≤ lower → lower < page
    → is_blank (page_at device lower) ≡ true)
    → (rest : List ℕ) × (not_blank_in side device ≡ page ∷ rest)
first_waits device side page formed at written lower =
    let first = first_page device.size side in
    let k = page - first in
    let is : first + k ≡ page = omega arith in
    let within : k < device.size.pages = omega arith in (
      not_blank_from first (set (set_of side device) k []),
      first_blank (set_of side device) first k [] (omega (arith, length-set_of side device formed))
          (λ j h. ap is_blank (page_of_set side device j (omega arith))
          ∙ lower (first + j) (omega arith) (omega arith))
          (ap is_blank (page_of_set side device k within ∙ ap (page_at device) is) ∙ written) refl
          ∙ ap (λ n. n ∷ not_blank_from first (set (set_of side device) k [])) is,
    )

pub clean_is : (device : Device) (side searched : Side) (page : ℕ) → IsFormed device
    → searched ≡ other side → IsPageOf device.size searched page
    → is_blank (page_at device page) ≡ false
    → ((lower : ℕ) → first_page device.size searched ≤ lower → lower < page
    → is_blank (page_at device lower) ≡ true)
    → Erase page ∷ [] ≡ steps_to_clean device side
clean_is device side searched page formed is at written lower =
    let found = first_waits device searched page formed at written lower in
    sym
    (ap (λ set. take 1 (map Erase (not_blank_in set device))) (sym is)
    ∙ ap (λ list. take 1 (map Erase list)) found.1)

none_of : (list : List ℕ) → length list ≡ 0 → list ≡ []
none_of [] _ = refl
none_of (_ ∷ list) none = absurd (omega (arith, none))

pub clean_none : (device : Device) (side searched : Side) → searched ≡ other side
    → pending_of (set_of searched device) ≡ 0 → Completes (steps_to_clean device side) device device
clean_none device side searched is none =
    let empty : not_blank_in (other side) device ≡ [] =
    ap (λ set. not_blank_in set device) (sym is)
    ∙ none_of (not_blank_in searched device)
    (length-not_blank (set_of searched device) (first_page device.size searched) ∙ none) in
    subst (λ (list : List Step). Completes list device device)
    (sym (ap (λ list. take 1 (map Erase list)) empty)) (completes_none device)
