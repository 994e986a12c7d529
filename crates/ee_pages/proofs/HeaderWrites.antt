-- A word in a header of a set, behind written slots.
use Rattle.std.proofs.Common.{◌≡◌, ◌≢◌, ◌⊎◌, inl, inr, ℕ, ◌+◌, ◌-◌, ◌*◌, ◌<◌, ◌≤◌, true, List, [], length, get_or, refl, ap, ◌∙◌, arith, suc, zero}
use Rattle.std.proofs.lemmas.Grind.{common_steps}
use Rattle.std.proofs.lemmas.List.Elements.{All-get_or}
use Rattle.ee_flash.specs.Device.{Device, IsFormed}
use Rattle.ee_flash.specs.declared.word.Word.{Word}
use Rattle.ee_pages.specs.Legal.{fits, place_of}
use Rattle.ee_pages.specs.Sets.{fill_of, front, set_of, slots_of, word_of}
use Rattle.ee_pages.specs.declared.side.Side.{Side}
use Rattle.ee_pages.specs.declared.table.Place.TheVariants.{Marking, Receiving}
use Rattle.ee_pages.proofs.InTheSet.{IsObeyed, slots-header, still_obeyed, with_word_in, word-elsewhere, word-there}
use Rattle.ee_pages.proofs.Legal.{fill-front}
use Rattle.ee_pages.proofs.Slots.{length-set_of, pages-set_of}

pub first_or_further : (page : ℕ) → (page ≡ 0) ⊎ (0 < page)
first_or_further zero = inl refl
first_or_further (suc page) = inr (omega arith)

pub place_of-active : (page : ℕ) → 0 < page → place_of page 1 ≡ Marking
place_of-active page h = grind (arith, common_steps)

pub place_of-receive : (page : ℕ) → 0 < page → place_of page 0 ≡ Receiving
place_of-receive page h = grind (arith, common_steps)

-- what a set is after a word was put into this place of the header of this page
pub record IsHeaderWritten (device : Device) (generation k at : ℕ) (word : Word)
    (old new : List (List Word)) : Type 0 where
  pub slots : slots_of new ≡ slots_of old
  pub obeyed : IsObeyed device.size generation new
  pub there : word_of new k at ≡ word
  pub elsewhere : (page place : ℕ) → (page ≢ k) ⊎ (place ≢ at)
      → word_of new page place ≡ word_of old page place

header_behind : (start at front : ℕ) → at < 4 → start ≤ front → start + (at - 4) ≤ front
header_behind start at front h behind = omega arith

module _ (side : Side) (device : Device) (generation : ℕ) (formed : IsFormed device)
    (obeyed : IsObeyed device.size generation (set_of side device)) where
  -- a word that fits, with every slot before its page written
  pub header_written : (k at : ℕ) (word : Word) → k < device.size.pages → at < 4
      → k * (device.size.words - 4) ≤ fill_of (slots_of (set_of side device))
      → fits generation (place_of k at) word ≡ true
      → IsHeaderWritten device generation k at word (set_of side device)
      (with_word_in (set_of side device) k at word)
  header_written k at word below header behind fit =
      let pages = set_of side device in
      let in_range : k < length pages = omega (arith, length-set_of side device formed) in
      let long =
      All-get_or (λ page. length page ≡ device.size.words) pages k [] in_range
      (pages-set_of side device formed) in
      let inside : at < length (get_or pages k []) =
      omega (arith, long, formed.within_limits.some_words) in
      let slots = slots-header pages k at word header in
      let there = word-there pages k at word in_range inside in
      let elsewhere =
      λ (page place : ℕ) (apart : (page ≢ k) ⊎ (place ≢ at)).
      word-elsewhere pages k at word page place in_range apart in
      let same : front (slots_of (with_word_in pages k at word)) ≡ front (slots_of pages) =
      ap front slots in
      let filled = fill-front side device generation formed obeyed in
      record {
        slots = slots;
        obeyed =
            still_obeyed device.size generation k at pages (with_word_in pages k at word) obeyed
            (omega (arith, same)) elsewhere
            (ap (fits generation (place_of k at)) there ∙ fit)
            (header_behind (k * (device.size.words - 4)) at
            (front (slots_of (with_word_in pages k at word))) header
            (omega (arith, same, filled)));
        there = there;
        elsewhere = elsewhere;
      }
