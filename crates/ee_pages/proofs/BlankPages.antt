-- How many pages of a set are not blank after a step in it, and where every slot is written.
use Rattle.ee_flash.specs.Size.{slot_count}
use Rattle.ee_pages.specs.Legal.{IsLive}
use Rattle.std.proofs.Common.{rules, ◌≡◌, inl, inr, ℕ, ◌+◌, ◌-◌, ◌*◌, ◌<◌, ◌≤◌, Bool, true, false, not, cond, List, [], ◌∷◌, length, get_or, set, replicate, refl, sym, ap, ◌∙◌, arith, suc, ◌⊎◌}
use Rattle.std.specs.List.{filter}
use Rattle.std.proofs.lemmas.Bool.{cases_Bool}
use Rattle.std.proofs.lemmas.List.{get_or-replicate, get_or-set_same, length-replicate}
use Rattle.std.proofs.lemmas.List.Elements.{All-get_or}
use Rattle.std.proofs.lemmas.List.Folds.{list_any_at}
use Rattle.std.proofs.lemmas.List.Sums.{length-filter, prefix_len_passes, sum_by-set}
use Rattle.std.proofs.lemmas.Nat.{row_fits}
use Rattle.ee_flash.specs.Device.{Device, page_at}
use Rattle.ee_flash.specs.Laws.{IsStep, page_of}
use Rattle.ee_flash.specs.Step.{Erase, Program, Step, device_after}
use Rattle.ee_flash.specs.declared.word.Word.{Word}
use Rattle.ee_flash.specs.declared.word.Word.TheVariants.{Erased}
use Rattle.ee_flash.proofs.Public.{step_changes_one_page}
use Rattle.ee_pages.specs.Laws.{IsPageOf}
use Rattle.ee_pages.specs.Page.{is_blank, is_written}
use Rattle.ee_pages.specs.Sets.{first_page, front, pending_of, set_of, slots_of, fill_of}
use Rattle.ee_pages.specs.declared.side.Side.{Side}
use Rattle.ee_pages.proofs.Legal.{fill-front}
use Rattle.ee_pages.proofs.OtherPages.{program_leaves_written}
use Rattle.ee_pages.proofs.OwnSet.{own_set, page_of_set}
use Rattle.ee_pages.proofs.Slots.{blank_page, get_or-slots_of, length-set_of, pages-set_of}

-- how much a page adds to those that are not blank
abbrev counts : List Word → ℕ
counts page = cond (not (is_blank page)) 1 0

replaced : (pages : List (List Word)) (k : ℕ) (page : List Word) → k < length pages
    → pending_of (set pages k page) + counts (get_or pages k []) ≡ pending_of pages + counts page
replaced pages k page h = search (rules, length-filter, sum_by-set)

after_step : (step : Step) (old new : Device) (side : Side) → IsPageOf old.size side (page_of step)
    → IsStep step old new
    → pending_of (set_of side new) + counts (page_at old (page_of step))
    ≡ pending_of (set_of side old) + counts (page_at new (page_of step))
after_step step old new side of taken =
    let page = page_of step in
    let k = page - first_page old.size side in
    let at : page ≡ first_page old.size side + k = omega (arith, of.from) in
    let below : k < old.size.pages = omega (arith, of.from, of.below) in
    let within : k < length (set_of side old) =
    omega (arith, length-set_of side old taken.formed) in
    let moved = own_set side old new page k (step_changes_one_page step old new taken) at below in
    let there = page_of_set side old page k at below in
    let count = replaced (set_of side old) k (page_at new page) within in
    rw moved (rw there at count)

pub erase_lowers_pending : (page : ℕ) (old new : Device) (side : Side) → IsPageOf old.size side page
    → is_blank (page_at old page) ≡ false → IsStep (Erase page) old new
    → (pending_of (set_of side new) ≡ pending_of (set_of side old))
    ⊎ (pending_of (set_of side new) + 1 ≡ pending_of (set_of side old))
erase_lowers_pending page old new side of written taken =
    let count = after_step (Erase page) old new side of taken in
    elim (cases_Bool (is_blank (page_at new page))) [
      | inl blank ↦ inr (omega (arith, rw (written, blank) at count))
      | inr still ↦ inl (omega (arith, rw (written, still) at count))
    ]

pub whole_erase_lowers_pending : (page : ℕ) (old new : Device) (side : Side)
    → IsPageOf old.size side page → is_blank (page_at old page) ≡ false
    → IsStep (Erase page) old new → new ≡ device_after (Erase page) old
    → (pending_of (set_of side new) + 1 ≡ pending_of (set_of side old))
    × (is_blank (page_at new page) ≡ true)
whole_erase_lowers_pending page old new side of written taken whole =
    let count = after_step (Erase page) old new side of taken in
    let words = old.size.words in
    let in_range : page < length old.image = omega (arith, taken.formed.image_length, taken.may) in
    let there : page_at new page ≡ replicate words Erased =
    ap (λ (device : Device). page_at device page) whole
    ∙ get_or-set_same old.image page (replicate words Erased) [] in_range in
    let blank : is_blank (page_at new page) ≡ true =
    ap is_blank there
    ∙ blank_page (replicate words Erased) words (length-replicate words Erased)
    (λ k h. ap is_written (get_or-replicate words k Erased Erased h)) in
    (omega (arith, rw (written, blank) at count), blank)

pub program_keeps_pending : (page at value : ℕ) (old new : Device) (side : Side)
    → IsPageOf old.size side page → is_blank (page_at old page) ≡ false
    → IsStep (Program page at value) old new
    → pending_of (set_of side new) ≡ pending_of (set_of side old)
program_keeps_pending page at value old new side of written taken =
    let count = after_step (Program page at value) old new side of taken in
    let still : is_blank (page_at new page) ≡ false =
    elim (program_leaves_written page at value old new taken) [
      | inl same ↦ ap (λ (image : List (List Word)). is_blank (get_or image page [])) same ∙ written
      | inr more ↦ more
    ] in
    omega (arith, rw (written, still) at count)

all_pass : {X : Type 0} (p : X → Bool) (d : X) (xs : List X)
    → ((k : ℕ) → k < length xs → p (get_or xs k d) ≡ true) → length (filter p xs) ≡ length xs
all_pass p d [] each = refl
all_pass p d (x ∷ xs) each =
    let here : p x ≡ true = each 0 (omega arith) in
    rw here (ap suc (all_pass p d xs (λ k h. each (suc k) (omega arith))))

pub full_set_has_no_blank_page : (device : Device) (side : Side) (generation : ℕ)
    → IsLive device side generation
    → fill_of (slots_of (set_of side device)) ≡ slot_count device.size
    → pending_of (set_of side device) ≡ device.size.pages
full_set_has_no_blank_page device side generation live full =
    let pages = set_of side device in
    let words = device.size.words in
    let count = length-set_of side device live.formed in
    let before = fill-front side device generation live.formed live.allowed in
    let written : front (slots_of pages) ≡ device.size.pages * (words - 4) =
    omega (arith, before, full) in
    all_pass (λ (page : List Word). not (is_blank page)) [] pages (λ k h.
    let below : k < device.size.pages = omega (arith, count) in
    let some : 0 < words - 4 = omega (arith, live.formed.within_limits.some_words) in
    let row : k * (words - 4) + (words - 4) ≤ device.size.pages * (words - 4) =
    row_fits k (words - 4) device.size.pages (words - 4) below (omega arith) in
    let first : is_written (get_or (slots_of pages) (k * (words - 4) + 0) Erased) ≡ true =
    prefix_len_passes is_written (slots_of pages) (k * (words - 4) + 0) Erased
    (omega (arith, written, row)) in
    let same = get_or-slots_of words pages k 0 (pages-set_of side device live.formed) h some in
    let long : length (get_or pages k []) ≡ words =
    All-get_or (λ page. length page ≡ words) pages k [] h
    (pages-set_of side device live.formed) in
    let any =
    list_any_at is_written (get_or pages k []) 4 Erased
    (omega (arith, long, live.formed.within_limits.some_words))
    (sym (ap is_written same) ∙ first) in
    rw any refl)
    ∙ count
