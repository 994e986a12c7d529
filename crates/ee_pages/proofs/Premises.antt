-- What laws of this crate need: without the named premise they would be false, and here is where.
use Rattle.std.proofs.Common.{◌≡◌, ◌<◌, inl, ℕ, List, [], length, get_or, set, refl, ap, sym, ◌∙◌, arith}
use Rattle.std.proofs.lemmas.Bool.{true≢false}
use Rattle.std.proofs.lemmas.List.{get_or-set_same}
use Rattle.ee_flash.specs.Device.{Device, IsFormed, IsOn, page_at, word_at}
use Rattle.ee_flash.specs.Laws.{CanTake, IsStep}
use Rattle.ee_flash.specs.Step.{Step, Program, with_word_programmed}
use Rattle.ee_flash.specs.declared.word.Word.{Word}
use Rattle.ee_flash.specs.declared.word.Word.TheVariants.{Erased, Held}
use Rattle.ee_pages.specs.Page.{is_written}

-- `step_keeps_other_pages` needs that the page is another than the step's: wherever a word can be
-- programmed, its page is not as it was
pub other_pages_need_another
    :
    ((step : Step) (old new : Device) (page : ℕ) → IsStep step old new
    → page_at new page ≡ page_at old page)
    → (page at value : ℕ) (old : Device) → IsFormed old → IsOn old
    → CanTake (Program page at value) old → ⊥
other_pages_need_another law page at value old formed on may =
    let new : Device = with_word_programmed page at value old in
    let same =
    law (Program page at value) old new page
    (record {
      formed = formed;
      may = may;
      follows = inl (record { was_on = on; done = refl });
    }) in
    let words = page_at old page in
    let in_range : page < length old.image = omega (arith, formed.image_length, may.0) in
    let long = formed.page_lengths page [] in_range in
    let held : word_at new page at ≡ Held value =
    ap (λ (page : List Word). get_or page at Erased)
    (get_or-set_same old.image page (set words at (Held value)) [] in_range)
    ∙ get_or-set_same words at (Held value) Erased (omega (arith, long, may.1)) in
    let erased : word_at new page at ≡ Erased =
    ap (λ (page : List Word). get_or page at Erased) same ∙ may.2 in
    true≢false (ap is_written (sym held ∙ erased))
