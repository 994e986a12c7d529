-- Which pages are blank after a step.
use Rattle.ee_flash.specs.Laws.{IsStep, page_of}
use Rattle.std.proofs.Common.{◌≡◌, inl, inr, ℕ, ◌<◌, List, [], length, true, false, get_or, set, refl, ap, ◌∙◌, arith, ◌≢◌, ◌⊎◌}
use Rattle.std.specs.Prelude.{not}
use Rattle.std.proofs.lemmas.List.{get_or-set_other, get_or-set_same, length-set}
use Rattle.std.proofs.lemmas.List.Elements.{All-get_or}
use Rattle.std.proofs.lemmas.List.Folds.{list_any_at}
use Rattle.ee_flash.specs.Device.{page_at, Device}
use Rattle.ee_flash.specs.declared.word.Word.{Word}
use Rattle.ee_flash.specs.declared.word.Word.TheVariants.{Erased, Held, Torn}
use Rattle.ee_flash.proofs.Public.{step_changes_one_page, step_leaves_pages}
use Rattle.ee_flash.specs.Step.{Program, Step}
use Rattle.ee_pages.specs.Page.{is_blank, is_written}

pub step_keeps_other_pages : (step : Step) (old new : Device) (page : ℕ) → IsStep step old new
    → page ≢ page_of step → page_at new page ≡ page_at old page
step_keeps_other_pages step old new page taken apart =
    let differs = step_changes_one_page step old new taken in
    ap (λ (image : List (List Word)). get_or image page []) differs.image
    ∙ get_or-set_other old.image _ page _ [] apart

pub written_page : (image : List (List Word)) (page at : ℕ) (word : Word) → page < length image
    → at < length (get_or image page []) → is_written word ≡ true
    → is_blank (get_or (set image page (set (get_or image page []) at word)) page []) ≡ false
written_page image page at word h within written =
    let words = get_or image page [] in
    ap is_blank (get_or-set_same image page (set words at word) [] h)
    ∙ ap not
    (list_any_at is_written (set words at word) at Erased
    (omega (arith, length-set words at word))
    (ap is_written (get_or-set_same words at word Erased within) ∙ written))

pub program_leaves_written : (page at value : ℕ) (old new : Device)
    → IsStep (Program page at value) old new
    → (new.image ≡ old.image) ⊎ (is_blank (page_at new page) ≡ false)
program_leaves_written page at value old new taken =
    let in_range : page < length old.image =
    omega (arith, taken.formed.image_length, taken.may.0) in
    let long =
    All-get_or (λ words. length words ≡ old.size.words) old.image page [] in_range
    taken.formed.page_lengths in
    let within : at < length (page_at old page) = omega (arith, long, taken.may.1) in
    elim (step_leaves_pages (Program page at value) old new taken) [
      | inl same ↦ inl same
      | inr (inl held) ↦ inr
          (ap (λ (image : List (List Word)). is_blank (get_or image page [])) held
          ∙ written_page old.image page at (Held value) in_range within refl)
      | inr (inr torn) ↦ inr
          (ap (λ (image : List (List Word)). is_blank (get_or image page [])) torn
          ∙ written_page old.image page at Torn in_range within refl)
    ]
