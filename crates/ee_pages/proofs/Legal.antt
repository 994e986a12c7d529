-- What the table of a legal image says of its slots.
use Rattle.std.proofs.Common.{◌≡◌, inl, inr, ℕ, ◌+◌, ◌-◌, ◌*◌, ◌<◌, ◌≤◌, ◌/◌, ◌%◌, Bool, true, false, not, ◌&&◌, ◌||◌, nat_le, get_or, sym, subst, ap, ◌∙◌, arith}
use Rattle.std.proofs.lemmas.Bool.{cases_lt}
use Rattle.std.proofs.lemmas.Grind.{common_steps}
use Rattle.std.proofs.lemmas.List.Sums.{prefix_len_stops}
use Rattle.std.proofs.lemmas.List.{get_or_past}
use Rattle.ee_flash.specs.Device.{Device, IsFormed}
use Rattle.ee_flash.specs.Size.{slot_count}
use Rattle.ee_flash.specs.declared.word.Word.TheVariants.{Erased}
use Rattle.ee_pages.specs.Page.{is_written}
use Rattle.ee_pages.specs.Sets.{fill_of, front, page_of_slot, place_of_slot, set_of, slots_of, word_of}
use Rattle.ee_pages.specs.Legal.{fits, is_allowed_at, place_of, slots_before}
use Rattle.ee_pages.specs.declared.side.Side.{Side}
use Rattle.ee_pages.proofs.Front.{filter_front}
use Rattle.ee_pages.proofs.Slots.{length-slots, page_in_range, place_in_range, slot_at, split_by}

places : (a b n : ℕ) → n ≡ a + b → a + (4 + b - 4) ≡ n
places a b n e = omega arith

pub erased_behind : (fit written : Bool) (before front : ℕ)
    → (fit && (not written || nat_le before front)) ≡ true → front < before → written ≡ false
erased_behind fit written before front h more = grind (arith, common_steps)

-- the number of a slot is the count of slots before its place
pub slots_before_slot : (device : Device) (slot : ℕ)
    → slots_before device.size (page_of_slot device.size slot) (place_of_slot device.size slot)
    ≡ slot
slots_before_slot device slot =
    places (slot / (device.size.words - 4) * (device.size.words - 4))
    (slot % (device.size.words - 4)) slot (split_by slot (device.size.words - 4))

-- every slot from the front on is erased
pub slots_behind : (side : Side) (device : Device) (generation : ℕ) → IsFormed device
    → ((page at : ℕ) → page < device.size.pages → at < device.size.words
    → is_allowed_at device.size generation (set_of side device) page at ≡ true)
    → (slot : ℕ) → front (slots_of (set_of side device)) ≤ slot
    → is_written (get_or (slots_of (set_of side device)) slot Erased) ≡ false
slots_behind side device generation formed allowed slot h =
    let slots = slots_of (set_of side device) in
    let count = length-slots side device formed in
    elim (cases_lt slot (slot_count device.size)) [
      | inr past ↦ ap is_written (get_or_past slots slot Erased (omega (arith, count)))
      | inl within ↦ elim (cases_lt (front slots) slot) [
        | inr same ↦ let e : slot ≡ front slots = omega arith in
            ap (λ n. is_written (get_or slots n Erased)) e
            ∙ prefix_len_stops is_written slots Erased (omega (arith, count))
        | inl more ↦
            let page = page_of_slot device.size slot in
            let at = place_of_slot device.size slot in
            let fact =
            allowed page at (page_in_range device slot within)
            (place_in_range device slot formed) in
            ap is_written (slot_at side device slot formed within)
            ∙ erased_behind
            (fits generation (place_of page at) (word_of (set_of side device) page at))
            (is_written (word_of (set_of side device) page at))
            (slots_before device.size page at) (front slots) fact
            (subst (λ n. front slots < n) (sym (slots_before_slot device slot)) more)
      ]
    ]

-- so as many slots are written as stand before the first erased one
pub fill-front : (side : Side) (device : Device) (generation : ℕ) → IsFormed device
    → ((page at : ℕ) → page < device.size.pages → at < device.size.words
    → is_allowed_at device.size generation (set_of side device) page at ≡ true)
    → front (slots_of (set_of side device)) ≡ fill_of (slots_of (set_of side device))
fill-front side device generation formed allowed =
    sym
    (filter_front is_written Erased (slots_of (set_of side device))
    (slots_behind side device generation formed allowed))
