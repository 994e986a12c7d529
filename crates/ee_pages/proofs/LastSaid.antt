-- What the last slots say.
use Rattle.std.proofs.Common.{rules, ◌≡◌, ℕ, ◌+◌, ◌-◌, ◌*◌, ◌<◌, ◌≤◌, Option, Some, None, false, List, [], ◌∷◌, length, take, drop, ◌++◌, get_or, refl, sym, subst, ap, ◌∙◌, arith, suc, zero}
use Rattle.std.proofs.Math.Nat.{div-mul-le_self}
use Rattle.std.proofs.Math.Seq.{drop-cons}
use Rattle.std.proofs.lemmas.List.{get_or-drop, get_or-take, length-drop, length-take-le}
use Rattle.std.proofs.lemmas.Simd.{chunk-drop}
use Rattle.std.proofs.lemmas.List.Sums.{prefix_len-le-length}
use Rattle.ee_flash.specs.Device.{Device}
use Rattle.ee_flash.specs.Size.{slot_count}
use Rattle.ee_flash.specs.declared.word.Word.{Word}
use Rattle.ee_flash.specs.declared.word.Word.TheVariants.{Erased, Held, Torn}
use Rattle.ee_pages.specs.Layout.{IsLayout}
use Rattle.ee_pages.specs.Meaning.{later_of, latest_in, says}
use Rattle.ee_pages.specs.Page.{is_written}
use Rattle.ee_pages.specs.Sets.{first_page, front, page_of_slot, set_of, slots_of}
use Rattle.ee_pages.specs.declared.find.Layout.{Layout}
use Rattle.ee_pages.proofs.Legal.{fill-front, slots_behind}
use Rattle.ee_pages.proofs.Slots.{length-slots, page_in_range, slot_below, split_by}

-- an erased word says nothing
says-erased : (word : Word) (address : ℕ) → is_written word ≡ false → says word address ≡ None
says-erased Erased address e = refl
says-erased (Held number) address e = absurd (cc e)
says-erased Torn address e = absurd (cc e)

pub latest_in-erased : (words : List Word) (address : ℕ)
    → ((k : ℕ) → is_written (get_or words k Erased) ≡ false) → latest_in words address ≡ None
latest_in-erased [] address each = refl
latest_in-erased (word ∷ words) address each =
    rw (says-erased word address (each 0), latest_in-erased words address (λ k. each (suc k))) refl

-- what the last slots say is what all say
pub latest_in-drop : (k : ℕ) (words : List Word) (address : ℕ) (said : Option ℕ)
    → latest_in (drop k words) address ≡ Some said → latest_in words address ≡ Some said
latest_in-drop zero words address said e = e
latest_in-drop (suc k) [] address said e = e
latest_in-drop (suc k) (word ∷ words) address said e =
    ap (later_of (says word address)) (latest_in-drop k words address said e)

pub latest_in-step : (slot : ℕ) (words : List Word) (address : ℕ) → slot < length words
    → latest_in (drop slot words) address
    ≡ later_of (says (get_or words slot Erased) address)
    (latest_in (drop (slot + 1) words) address)
latest_in-step slot words address h =
    let e : slot + 1 ≡ suc slot = omega arith in
    rw (e, drop-cons words slot Erased h) refl

-- what is said of an address in two parts, one behind the other
pub later-none : (said : Option (Option ℕ)) → later_of None said ≡ said
later-none None = refl
later-none (Some said) = refl

pub later-later : (first second third : Option (Option ℕ))
    → later_of first (later_of second third) ≡ later_of (later_of first second) third
later-later first second None = refl
later-later first second (Some said) = refl

pub latest_in-append : (words more : List Word) (address : ℕ)
    → latest_in (words ++ more) address
    ≡ later_of (latest_in words address) (latest_in more address)
latest_in-append [] more address = sym (later-none (latest_in more address))
latest_in-append (word ∷ words) more address =
    ap (later_of (says word address)) (latest_in-append words more address)
    ∙ later-later (says word address) (latest_in words address) (latest_in more address)

-- some words in a row, where those behind them say nothing
pub latest_in-row : (start end : ℕ) (words : List Word) (address : ℕ) → start ≤ end
    → latest_in (drop end words) address ≡ None
    → latest_in (drop start words) address
    ≡ latest_in (take (end - start) (drop start words)) address
latest_in-row start end words address h silent =
    let e : start + (end - start) ≡ end = omega arith in
    ap (λ words. latest_in words address) (chunk-drop start (end - start) words)
    ∙ latest_in-append (take (end - start) (drop start words)) (drop (start + (end - start)) words)
    address
    ∙ ap
    (λ n. later_of (latest_in (take (end - start) (drop start words)) address)
    (latest_in (drop n words) address)) e
    ∙ ap (later_of (latest_in (take (end - start) (drop start words)) address)) silent

module _ (start count : ℕ) (words : List Word) (address : ℕ)
    (within : start + count ≤ length words) where
  pub length-row : length (take count (drop start words)) ≡ count
  length-row = length-take-le count (drop start words) (simp length-drop (omega arith))

  get_or-row : (slot : ℕ) → slot < count
      → get_or (take count (drop start words)) slot Erased ≡ get_or words (start + slot) Erased
  get_or-row slot h =
      get_or-take count (drop start words) slot Erased h ∙ get_or-drop start words slot Erased

  -- one word of the row more, where `left` were not yet looked at
  pub one_lower : (left : ℕ) → 0 < left → left ≤ count
      → latest_in (drop left (take count (drop start words))) address ≡ None
      → latest_in (drop (left - 1) (take count (drop start words))) address
      ≡ says (get_or words (start + (left - 1)) Erased) address
  one_lower left some h silent = search (rules, latest_in-step, length-row, get_or-row)

  -- what the last word of the row that says something says
  pub newest : (left : ℕ) (said : Option ℕ) → 0 < left → left ≤ count
      → latest_in (drop left (take count (drop start words))) address ≡ None
      → says (get_or words (start + (left - 1)) Erased) address ≡ Some said
      → latest_in (take count (drop start words)) address ≡ Some said
  newest left said some h silent e =
      latest_in-drop (left - 1) (take count (drop start words)) address said
      (one_lower left some h silent ∙ e)

  -- words of the row that say nothing, before others that don't
  pub silent_from : (fewer to : ℕ) → fewer ≤ to → to ≤ count
      → latest_in (drop to (take count (drop start words))) address ≡ None
      → ((k : ℕ) → to - fewer ≤ k → k < to → says (get_or words (start + k) Erased) address ≡ None)
      → latest_in (drop (to - fewer) (take count (drop start words))) address ≡ None
  silent_from zero to few within_row silent each =
      let same : to ≡ to - 0 = omega arith in
      subst (λ n. latest_in (drop n (take count (drop start words))) address ≡ None) same silent
  silent_from (suc fewer) to few within_row silent each =
      let next : to - 1 - fewer ≡ to - suc fewer = omega arith in
      let last =
      one_lower to (omega arith) within_row silent
      ∙ each (to - 1) (omega arith) (omega arith) in
      subst (λ n. latest_in (drop n (take count (drop start words))) address ≡ None) next
      (silent_from fewer (to - 1) (omega arith) (omega arith) last
      (λ k low high. each k (omega (arith, low)) (omega (arith, high))))

module _ (device : Device) (layout : Layout) (found : IsLayout device layout) where
  -- the layout's fill is how many slots stand before the first erased one
  pub fill_is : layout.fill ≡ front (slots_of (set_of layout.side device))
  fill_is =
      found.fill
      ∙ sym (fill-front layout.side device layout.generation found.live.formed found.live.allowed)

  fill_within : layout.fill ≤ slot_count device.size
  fill_within =
      let most = prefix_len-le-length is_written (slots_of (set_of layout.side device)) in
      omega (arith, fill_is, most, length-slots layout.side device found.live.formed)

  -- from the fill on nothing is said
  pub silent_behind : (address : ℕ)
      → latest_in (drop layout.fill (slots_of (set_of layout.side device))) address ≡ None
  silent_behind address = latest_in-erased _ address (λ k.
      ap is_written (get_or-drop layout.fill (slots_of (set_of layout.side device)) k Erased)
      ∙ slots_behind layout.side device layout.generation found.live.formed found.live.allowed
      (layout.fill + k) (omega (arith, fill_is)))

  -- the page of the last written slot, within its set
  pub last_page : (first : ℕ) → first ≡ first_page device.size layout.side
      → layout.current - first ≡ page_of_slot device.size (layout.fill - 1)
  last_page first e = omega (arith, found.current)

  pub last_in_range : page_of_slot device.size (layout.fill - 1) < device.size.pages
  last_in_range =
      page_in_range device (layout.fill - 1)
      (slot_below device layout.fill found.live.formed fill_within)

  pub last_from : page_of_slot device.size (layout.fill - 1) * (device.size.words - 4) ≤ layout.fill
  last_from = omega (arith, div-mul-le_self (layout.fill - 1) (device.size.words - 4))

  pub last_to : layout.fill ≤ (page_of_slot device.size (layout.fill - 1) + 1)
      * (device.size.words - 4)
  last_to = search (rules, split_by)
