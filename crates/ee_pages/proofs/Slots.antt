-- Where the slots of a set stand.
use Rattle.std.proofs.Common.{rules, ◌≡◌, ℕ, ◌+◌, ◌-◌, ◌*◌, ◌<◌, ◌≤◌, ◌/◌, ◌%◌, List, [], ◌∷◌, length, take, drop, get_or, sym, subst, ap, ◌∙◌, arith, suc}
use Rattle.std.specs.List.{All}
use Rattle.std.proofs.lemmas.List.{length-take-le, length-drop, length-append, get_or-drop}
use Rattle.std.proofs.lemmas.List.Concat.{get_or-flat_map}
use Rattle.std.proofs.lemmas.List.Elements.{All-take, All-drop, All-get_or, All-from_get_or}
use Rattle.std.proofs.lemmas.Nat.{row-Below}
use Rattle.std.proofs.Math.Nat.{div-add-mod, mul-le-mul_left, mul-le-mul_right}
use Rattle.std.proofs.lemmas.List.Folds.{list_any_none}
use Rattle.std.specs.Prelude.{not, true, false}
use Rattle.ee_pages.specs.Page.{is_blank, is_written, word_in}
use Rattle.ee_flash.specs.Device.{Device, IsFormed}
use Rattle.ee_flash.specs.Size.{slot_count}
use Rattle.ee_flash.specs.declared.word.Word.{Word}
use Rattle.ee_flash.specs.declared.word.Word.TheVariants.{Erased}
use Rattle.ee_pages.specs.Sets.{page_of_slot, place_of_slot, set_of, slots_of, word_of}
use Rattle.ee_pages.specs.declared.side.Side.{Side}
use Rattle.ee_pages.specs.declared.side.Side.TheVariants.{First, Second}

pub length-set_of : (side : Side) (device : Device) → IsFormed device
    → length (set_of side device) ≡ device.size.pages
length-set_of First device formed =
    length-take-le device.size.pages device.image (omega (arith, formed.image_length))
length-set_of Second device formed =
    length-drop device.size.pages device.image ∙ omega (arith, formed.image_length)

pub pages-set_of : (side : Side) (device : Device) → IsFormed device
    → All (λ page. length page ≡ device.size.words) (set_of side device)
pages-set_of First device formed =
    All-take (λ page. length page ≡ device.size.words) device.size.pages device.image
    formed.page_lengths
pages-set_of Second device formed =
    All-drop (λ page. length page ≡ device.size.words) device.size.pages device.image
    formed.page_lengths

-- a list of pages that have as many words each
pub length-slots_of : (words : ℕ) (pages : List (List Word))
    → All (λ page. length page ≡ words) pages → length (slots_of pages) ≡ length pages * (words - 4)
length-slots_of words [] each = omega arith
length-slots_of words (page ∷ pages) each =
    let here : length page ≡ words = each 0 [] (omega arith) in
    let rest : length (slots_of pages) ≡ length pages * (words - 4) =
    length-slots_of words pages (λ k none h. each (suc k) none (omega arith)) in
    simp (length-append, length-drop) (omega (arith, rest, here))

pub get_or-slots_of : (words : ℕ) (pages : List (List Word)) (page at : ℕ)
    → All (λ page. length page ≡ words) pages → page < length pages → at < words - 4
    → get_or (slots_of pages) (page * (words - 4) + at) Erased ≡ word_of pages page (4 + at)
get_or-slots_of words pages page at each in_range within =
    let before : length (slots_of (take page pages)) ≡ page * (words - 4) =
    length-slots_of words (take page pages) (All-take (λ page. length page ≡ words) page pages each)
    ∙ ap (λ n. n * (words - 4)) (length-take-le page pages (omega arith)) in
    let long : length (get_or pages page []) ≡ words =
    All-get_or (λ page. length page ≡ words) pages page [] in_range each in
    let inside : at < length (drop 4 (get_or pages page [])) =
    simp length-drop (omega (arith, long)) in
    ap (λ n. get_or (slots_of pages) (n + at) Erased) (sym before)
    ∙ get_or-flat_map (drop 4) pages page at [] Erased in_range inside
    ∙ get_or-drop 4 (get_or pages page []) at Erased

pub split_by : (n m : ℕ) → n ≡ n / m * m + n % m
split_by n m = omega (arith, div-add-mod n m)

row_of : (n m pages : ℕ) → n < pages * m → n / m < pages
row_of n m pages h = (row-Below n m m pages (omega arith) (omega arith)).1

pub page_in_range : (device : Device) (slot : ℕ) → slot < slot_count device.size
    → page_of_slot device.size slot < device.size.pages
page_in_range device slot h = row_of slot (device.size.words - 4) device.size.pages h

pub slot_below : (device : Device) (slot : ℕ) → IsFormed device → slot ≤ slot_count device.size
    → slot - 1 < slot_count device.size
slot_below device slot formed h = search (rules, mul-le-mul_left)

pub place_in_range : (device : Device) (slot : ℕ) → IsFormed device
    → place_of_slot device.size slot < device.size.words
place_in_range device slot formed = search rules

-- a slot of a device's set, by its number
pub slot_at : (side : Side) (device : Device) (slot : ℕ) → IsFormed device
    → slot < slot_count device.size
    → get_or (slots_of (set_of side device)) slot Erased
    ≡ word_of (set_of side device) (page_of_slot device.size slot)
    (place_of_slot device.size slot)
slot_at side device slot formed h =
    let pages = set_of side device in
    let count = length-set_of side device formed in
    let some : 0 < device.size.words - 4 = omega (arith, formed.within_limits.some_words) in
    let below = page_in_range device slot h in
    let in_range : slot / (device.size.words - 4) < length pages =
    subst (λ n. slot / (device.size.words - 4) < n) (sym count) below in
    let within : slot % (device.size.words - 4) < device.size.words - 4 = omega (arith, some) in
    let split : slot
    ≡ slot / (device.size.words - 4) * (device.size.words - 4)
    + slot % (device.size.words - 4) =
    split_by slot (device.size.words - 4) in
    ap (λ n. get_or (slots_of pages) n Erased) split
    ∙ get_or-slots_of device.size.words pages (slot / (device.size.words - 4))
    (slot % (device.size.words - 4)) (pages-set_of side device formed) in_range within

pub length-slots : (side : Side) (device : Device) → IsFormed device
    → length (slots_of (set_of side device)) ≡ slot_count device.size
length-slots side device formed =
    length-slots_of device.size.words (set_of side device) (pages-set_of side device formed)
    ∙ ap (λ n. n * (device.size.words - 4)) (length-set_of side device formed)

-- the first slots of a page are slots of the set
pub row_within : (side : Side) (device : Device) (page used : ℕ) → IsFormed device
    → page < device.size.pages → used ≤ device.size.words - 4
    → page * (device.size.words - 4) + used ≤ length (slots_of (set_of side device))
row_within side device page used formed h few =
    let rows : (page + 1) * (device.size.words - 4) ≤ device.size.pages * (device.size.words - 4) =
    mul-le-mul_right (device.size.words - 4) (omega arith) in
    omega (arith, rows, length-slots side device formed)

pub blank_page : (words : List Word) (n : ℕ) → length words ≡ n
    → ((k : ℕ) → k < n → is_written (word_in words k) ≡ false) → is_blank words ≡ true
blank_page words n long each =
    ap not
    (list_any_none is_written words
    (All-from_get_or (λ word. is_written word ≡ false) words Erased
    (λ k h. each k (omega arith))))
