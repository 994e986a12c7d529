-- Runs of the slots of a set: the words of a page, by their readings.
use Rattle.std.proofs.Common.{◌≡◌, ℕ, ◌+◌, ◌-◌, ◌*◌, ◌<◌, ◌≤◌, ◌%◌, ◌^◌, None, List, [], ◌++◌, length, take, drop, get_or, sym, subst, ap, ◌∙◌, arith}
use Rattle.std.proofs.Math.Seq.{take-add}
use Rattle.std.proofs.lemmas.List.{ext_get_or, get_or-drop, get_or-take, length-drop, length-take-le}
use Rattle.std.specs.Prelude.{◌≢◌}
use Rattle.ee_flash.specs.Device.{Device, IsFormed, page_at, word_at}
use Rattle.ee_flash.specs.Runs.{AreReadings, IsShownBy, words_from}
use Rattle.ee_flash.specs.Size.{page_count}
use Rattle.ee_flash.specs.declared.word.Word.{Word}
use Rattle.ee_flash.specs.declared.word.Word.TheVariants.{Erased}
use Rattle.ee_flash.proofs.Public.{length-page_at}
use Rattle.ee_pages.specs.Meaning.{latest_in, says}
use Rattle.ee_pages.specs.Nearest.{Named, with_each_named}
use Rattle.ee_pages.specs.Sets.{first_page, set_of, slots_of}
use Rattle.ee_pages.specs.declared.side.Side.{Side}
use Rattle.ee_pages.specs.declared.side.Side.TheVariants.{First, Second}
use Rattle.ee_pages.proofs.LastSaid.{silent_from}
use Rattle.ee_pages.proofs.Nearest.{few-gathered, gathered-append}
use Rattle.ee_pages.proofs.Passes.{slot_here}
use Rattle.ee_pages.proofs.Readings.{silent_by}
use Rattle.ee_pages.proofs.RunWords.{reading_at, whole_reads}
use Rattle.ee_pages.proofs.Slots.{row_within}

pub in_device : (side : Side) (device : Device) (page here : ℕ)
    → here ≡ first_page device.size side + page → page < device.size.pages
    → here < page_count device.size
in_device First device page here at inside = omega arith
in_device Second device page here at inside = omega arith

module _ (device : Device) (side : Side) (page here : ℕ) (formed : IsFormed device)
    (inside : page < device.size.pages) (here_is : here ≡ first_page device.size side + page) where
  -- words of the page are slots of the set
  pub words_here : (from count : ℕ) → from + count ≤ device.size.words - 4
      → take count (drop (page * (device.size.words - 4) + from) (slots_of (set_of side device)))
      ≡ take count (drop (4 + from) (page_at device here))
  words_here from count few =
      let row = device.size.words - 4 in
      let slots = slots_of (set_of side device) in
      let words = page_at device here in
      let long =
      length-page_at device here formed (in_device side device page here here_is inside) in
      let within = row_within side device page (from + count) formed inside few in
      let of_slots : length (take count (drop (page * row + from) slots)) ≡ count =
      length-take-le count (drop (page * row + from) slots)
      (simp length-drop (omega (arith, within))) in
      let of_words : length (take count (drop (4 + from) words)) ≡ count =
      length-take-le count (drop (4 + from) words)
      (simp length-drop (omega (arith, long, few))) in
      ext_get_or Erased (take count (drop (page * row + from) slots))
      (take count (drop (4 + from) words)) (of_slots ∙ sym of_words) (λ k h.
      let less : k < count = omega (arith, h, of_slots) in
      let place : page * row + from + k ≡ page * row + (from + k) = omega arith in
      let same : 4 + (from + k) ≡ 4 + from + k = omega arith in
      get_or-take count (drop (page * row + from) slots) k Erased less
      ∙ get_or-drop (page * row + from) slots k Erased
      ∙ ap (λ n. get_or slots n Erased) place
      ∙ slot_here device side page here formed inside here_is (from + k) (omega (arith, less, few))
      ∙ ap (λ n. get_or words n Erased) same
      ∙ sym
      (get_or-take count (drop (4 + from) words) k Erased less
      ∙ get_or-drop (4 + from) words k Erased))

module _ (reads : Word → ℕ → Type 0) (device : Device) (side : Side) (page here : ℕ)
    (formed : IsFormed device) (inside : page < device.size.pages)
    (here_is : here ≡ first_page device.size side + page) where
  -- a run of them has as many readings as were asked for
  pub whole_run : (from count room : ℕ) (readings : List ℕ) → from + count ≤ device.size.words - 4
      → room ≡ count → AreReadings reads (words_from device here (4 + from) room) readings
      → (length readings ≡ count)
      × AreReadings reads (words_from device here (4 + from) (length readings)) readings
  whole_run from count room readings few all are =
      whole_reads reads device here (4 + from) count room readings formed
      (in_device side device page here here_is inside) (omega (arith, few)) all are

  -- a slot by its reading
  pub slot_reads : (from j : ℕ) (readings : List ℕ) → from + length readings ≤ device.size.words - 4
      → AreReadings reads (words_from device here (4 + from) (length readings)) readings
      → j < length readings
      → reads
      (get_or (slots_of (set_of side device)) (page * (device.size.words - 4) + (from + j)) Erased)
      (get_or readings j 0)
  slot_reads from j readings few are h =
      let same : 4 + (from + j) ≡ 4 + from + j = omega arith in
      subst (λ (word : Word). reads word (get_or readings j 0))
      (sym
      (slot_here device side page here formed inside here_is (from + j) (omega (arith, h, few))
      ∙ ap (word_at device here) same))
      (reading_at reads device here (4 + from) readings are j h)

  -- a run of them whose last readings end in other addresses, before slots that say
  -- nothing of this one
  pub run_silent : ((word : Word) (reading : ℕ) → reads word reading → IsShownBy word reading)
      → (from ends used address : ℕ) (readings : List ℕ) → from + length readings ≤ used
      → used ≤ device.size.words - 4
      → AreReadings reads (words_from device here (4 + from) (length readings)) readings
      → ends ≤ length readings
      → ((k : ℕ) → ends ≤ k → k < length readings → get_or readings k 0 % 2 ^ 16 ≢ address)
      → latest_in
      (drop (from + length readings)
      (take used
      (drop (page * (device.size.words - 4)) (slots_of (set_of side device)))))
      address
      ≡ None
      → latest_in
      (drop (from + ends)
      (take used
      (drop (page * (device.size.words - 4)) (slots_of (set_of side device)))))
      address
      ≡ None
  run_silent shown from ends used address readings low few are most behind silent =
      let before = page * (device.size.words - 4) in
      let slots = slots_of (set_of side device) in
      let row = take used (drop before slots) in
      let to = from + length readings in
      let fewer = length readings - ends in
      let start : to - fewer ≡ from + ends = omega (arith, most) in
      let within = row_within side device page used formed inside few in
      subst (λ n. latest_in (drop n row) address ≡ None) start
      (silent_from before used slots address within fewer to (omega arith) low silent (λ k from_ends
      below.
      let at : from + (k - from) ≡ k = omega (arith, from_ends, start) in
      let less : k - from < length readings = omega (arith, below, at) in
      let word = get_or slots (before + (from + (k - from))) Erased in
      let reading = get_or readings (k - from) 0 in
      subst (λ n. says (get_or slots (before + n) Erased) address ≡ None) at
      (silent_by word reading address
      (shown word reading (slot_reads from (k - from) readings (omega (arith, low, few)) are less))
      (behind (k - from) (omega (arith, from_ends, start, at)) less))))

module _ (device : Device) (side : Side) (page here : ℕ) (formed : IsFormed device)
    (inside : page < device.size.pages) (here_is : here ≡ first_page device.size side + page) where
  -- what is gathered of a run of them, behind those before it
  pub run_gathers : (room above from count : ℕ) (list after : List Named)
      → from + count ≤ device.size.words - 4
      → list
      ≡ take room
      (with_each_named above
      (take (page * (device.size.words - 4) + from) (slots_of (set_of side device))) [])
      → after ≡ take room (with_each_named above (words_from device here (4 + from) count) list)
      → after
      ≡ take room
      (with_each_named above
      (take (page * (device.size.words - 4) + from + count)
      (slots_of (set_of side device))) [])
  run_gathers room above from count list after few so_far more =
      let start = page * (device.size.words - 4) + from in
      let slots = slots_of (set_of side device) in
      let words = words_from device here (4 + from) count in
      let before = with_each_named above (take start slots) [] in
      more
      ∙ ap (λ (l : List Named). take room (with_each_named above words l)) so_far
      ∙ few-gathered room above words before
      ∙ ap (take room) (sym (gathered-append above (take start slots) words []))
      ∙ ap (λ (l : List Word). take room (with_each_named above (take start slots ++ l) []))
      (sym (words_here device side page here formed inside here_is from count few))
      ∙ ap (λ (l : List Word). take room (with_each_named above l []))
      (sym (take-add start count slots))
