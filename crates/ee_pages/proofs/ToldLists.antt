-- What slots say of a list of addresses, part after part.
use Rattle.std.proofs.Common.{◌≡◌, ℕ, ◌+◌, ◌-◌, ◌*◌, ◌<◌, ◌≤◌, Option, Some, None, true, false, List, [], ◌∷◌, ◌++◌, length, map, take, drop, get_or, set, is_some, refl, sym, ap, ◌∙◌, arith, suc, zero}
use Rattle.std.proofs.lemmas.List.{drop-drop, get_or_default, set-get_or}
use Rattle.std.proofs.Math.Seq.{take-add}
use Rattle.ee_flash.specs.Device.{Device, IsFormed}
use Rattle.ee_flash.specs.Runs.{words_from}
use Rattle.ee_flash.specs.declared.word.Word.{Word}
use Rattle.ee_flash.specs.declared.word.Word.TheVariants.{Erased}
use Rattle.ee_pages.specs.Loading.{loaded, told, value_over}
use Rattle.ee_pages.specs.Layout.{IsLayout}
use Rattle.ee_pages.specs.Meaning.{later_of, latest_in, meaning, says, value_said}
use Rattle.ee_pages.specs.Sets.{first_page, set_of, slots_of}
use Rattle.ee_pages.specs.declared.find.Layout.{Layout}
use Rattle.ee_pages.specs.declared.side.Side.{Side}
use Rattle.ee_pages.specs.declared.loading.Wanted.{Wanted}
use Rattle.ee_pages.proofs.LastSaid.{latest_in-append, latest_in-drop, latest_in-row, silent_behind}
use Rattle.ee_pages.proofs.RunSlots.{words_here}
use Rattle.ee_pages.proofs.SpanTells.{one_before}

-- ---- words, from the last down

pub one_word_lower : (words : List Word) (left address : ℕ) → 0 < left → left ≤ length words
    → latest_in (drop left words) address ≡ None
    → latest_in (drop (left - 1) words) address ≡ says (get_or words (left - 1) Erased) address
one_word_lower words left address some within silent =
    one_before words left address some within
    ∙ ap (later_of (says (get_or words (left - 1) Erased) address)) silent

-- what the last ones say, where they say something, all say
pub all_say : (k : ℕ) (words : List Word) (address : ℕ) (said : Option (Option ℕ))
    → latest_in (drop k words) address ≡ said → is_some said ≡ true
    → said ≡ latest_in words address
all_say k words address None is some = absurd (cc some)
all_say k words address (Some said) is some = sym (latest_in-drop k words address said is)

pub none_said : (said : Option (Option ℕ)) → is_some said ≡ false → said ≡ None
none_said None none = refl
none_said (Some said) none = absurd (cc none)

-- ---- a list that is changed from the front on

module _ {A : Type 0} (f : A → A) where
  abbrev pub so_far : List A → ℕ → List A
  so_far list at = map f (take at list) ++ drop at list

  pub here : (list : List A) (at : ℕ) (none : A)
      → get_or (so_far list at) at none ≡ get_or list at none
  here [] zero none = refl
  here [] (suc at) none = refl
  here (first ∷ list) zero none = refl
  here (first ∷ list) (suc at) none = here list at none

  pub next : (list : List A) (at : ℕ) (none : A) → at < length list
      → set (so_far list at) at (f (get_or list at none)) ≡ so_far list (at + 1)
  next [] at none h = absurd (omega (arith, h))
  next (first ∷ list) zero none h = refl
  next (first ∷ list) (suc at) none h =
      let more : suc at + 1 ≡ suc (at + 1) = omega arith in
      rw more (ap (λ (rest : List A). f first ∷ rest) (next list at none (omega (arith, h))))

  pub changed_next : (now list : List A) (at : ℕ) (none : A) → at < length list
      → now ≡ so_far list at → set now at (f (get_or now at none)) ≡ so_far list (at + 1)
  changed_next now list at none h is =
      ap (λ (list : List A). set list at (f (get_or list at none))) is
      ∙ ap (λ (item : A). set (so_far list at) at (f item)) (here list at none)
      ∙ next list at none h

  pub kept_next : (now list : List A) (at : ℕ) (none : A) → at < length list
      → now ≡ so_far list at → f (get_or now at none) ≡ get_or now at none
      → now ≡ so_far list (at + 1)
  kept_next now list at none h is same =
      sym (set-get_or now at none) ∙ ap (set now at) (sym same) ∙ changed_next now list at none h is

-- ---- entries

abbrev clear_one : Wanted → Wanted
clear_one entry = record { address = entry.address; value = None }

abbrev valued : Wanted → Option ℕ → Wanted
valued entry value = record { address = entry.address; value = value }

abbrev over : Wanted → Option (Option ℕ) → Wanted
over entry said = record { address = entry.address; value = value_over entry.value said }

abbrev tell_one : List Word → Wanted → Wanted
tell_one words entry = over entry (latest_in words entry.address)

pub cleared_next : (now list : List Wanted) (at : ℕ) (none : Wanted) → at < length list
    → now ≡ loaded (λ address. None) (take at list) ++ drop at list
    → set now at (record { address = (get_or now at none).address; value = None })
    ≡ loaded (λ address. None) (take (at + 1) list) ++ drop (at + 1) list
cleared_next now list at none h is = changed_next clear_one now list at none h is

module _ (words : List Word) (now list : List Wanted) (at : ℕ) (none : Wanted)
    (h : at < length list) (long : length now ≡ length list)
    (is : now ≡ told words (take at list) ++ drop at list)
    (other : Wanted) where
  same_address : (get_or now at none).address ≡ (get_or now at other).address
  same_address =
      ap (λ (entry : Wanted). entry.address)
      (get_or_default now at none other (omega (arith, h, long)))

  pub told_next : (said : Option ℕ) → latest_in words (get_or now at other).address ≡ Some said
      → set now at (record { address = (get_or now at none).address; value = said })
      ≡ told words (take (at + 1) list) ++ drop (at + 1) list
  told_next said e =
      ap (λ (said : Option (Option ℕ)). set now at (over (get_or now at none) said))
      (sym (ap (latest_in words) same_address ∙ e))
      ∙ changed_next (tell_one words) now list at none h is

  pub untold_next : latest_in words (get_or now at other).address ≡ None
      → now ≡ told words (take (at + 1) list) ++ drop (at + 1) list
  untold_next e =
      kept_next (tell_one words) now list at none h is
      (ap (over (get_or now at none)) (ap (latest_in words) same_address ∙ e))

-- ---- what more slots say

over_none : (entries : List Wanted) → told [] entries ≡ entries
over_none [] = refl
over_none (entry ∷ entries) = ap (λ (rest : List Wanted). entry ∷ rest) (over_none entries)

pub told_none : (words : List Word) (entries : List Wanted) → words ≡ []
    → told words entries ≡ entries
told_none words entries none =
    ap (λ (words : List Word). told words entries) none ∙ over_none entries

pub told_same : (words more : List Word) (entries : List Wanted)
    → ((address : ℕ) → latest_in words address ≡ latest_in more address)
    → told words entries ≡ told more entries
told_same words more [] same = refl
told_same words more (entry ∷ entries) same =
    ap (λ (said : Option (Option ℕ)). over entry said ∷ told words entries) (same entry.address)
    ∙ ap (λ (rest : List Wanted). tell_one more entry ∷ rest) (told_same words more entries same)

over_both : (entry : Wanted) (said more : Option (Option ℕ))
    → over (over entry said) more ≡ over entry (later_of said more)
over_both entry said None = refl
over_both entry said (Some more) = refl

pub told_both : (words more : List Word) (entries : List Wanted)
    → told more (told words entries) ≡ told (words ++ more) entries
told_both words more [] = refl
told_both words more (entry ∷ entries) =
    ap (λ (first : Wanted). first ∷ told more (told words entries))
    (over_both entry (latest_in words entry.address) (latest_in more entry.address)
    ∙ ap (over entry) (sym (latest_in-append words more entry.address)))
    ∙ ap (λ (rest : List Wanted). tell_one (words ++ more) entry ∷ rest)
    (told_both words more entries)

-- so many more slots behind those before
pub told_more : (from count : ℕ) (slots : List Word) (entries now after : List Wanted)
    → now ≡ told (take from slots) entries → after ≡ told (take count (drop from slots)) now
    → after ≡ told (take (from + count) slots) entries
told_more from count slots entries now after so_far more =
    more
    ∙ ap (told (take count (drop from slots))) so_far
    ∙ told_both (take from slots) (take count (drop from slots)) entries
    ∙ ap (λ (words : List Word). told words entries) (sym (take-add from count slots))

-- a run of a page
module _ (device : Device) (side : Side) (page here : ℕ) (formed : IsFormed device)
    (inside : page < device.size.pages) (here_is : here ≡ first_page device.size side + page) where
  pub run_told : (from count : ℕ) (entries now after : List Wanted)
      → from + count ≤ device.size.words - 4
      → now
      ≡ told
      (take from (drop (page * (device.size.words - 4)) (slots_of (set_of side device))))
      entries
      → after ≡ told (words_from device here (4 + from) count) now
      → after
      ≡ told
      (take (from + count) (drop (page * (device.size.words - 4)) (slots_of (set_of side device))))
      entries
  run_told from count entries now after few so_far more =
      let slots = slots_of (set_of side device) in
      let start = page * (device.size.words - 4) in
      told_more from count (drop start slots) entries now after so_far
      (more
      ∙ ap (λ (words : List Word). told words now)
      (sym (words_here device side page here formed inside here_is from count few)
      ∙ ap (take count) (sym (drop-drop from start slots))))

-- ---- all slots that are used

silent_still : (k : ℕ) (words : List Word) (address : ℕ) (said : Option (Option ℕ))
    → latest_in words address ≡ None → latest_in (drop k words) address ≡ said → said ≡ None
silent_still k words address None silent is = refl
silent_still k words address (Some said) silent is =
    absurd (cc (silent, latest_in-drop k words address said is))

value_none : (said : Option (Option ℕ)) → value_over None said ≡ value_said said
value_none None = refl
value_none (Some said) = refl

pub all_told : (slots : List Word) (entries : List Wanted)
    → told slots (loaded (λ address. None) entries) ≡ loaded (meaning slots) entries
all_told slots [] = refl
all_told slots (entry ∷ entries) =
    ap
    (λ (value : Option ℕ).
    (valued entry value) ∷ told slots (loaded (λ address. None) entries))
    (value_none (latest_in slots entry.address))
    ∙ ap (λ (rest : List Wanted). valued entry (meaning slots entry.address) ∷ rest)
    (all_told slots entries)

module _ (device : Device) (layout : Layout) (found : IsLayout device layout) where
  pub all_used : (count address : ℕ) → layout.fill ≤ count
      → latest_in (take count (slots_of (set_of layout.side device))) address
      ≡ latest_in (slots_of (set_of layout.side device)) address
  all_used count address most =
      let slots = slots_of (set_of layout.side device) in
      let silent =
      silent_still (count - layout.fill) (drop layout.fill slots) address
      (latest_in (drop (count - layout.fill) (drop layout.fill slots)) address)
      (silent_behind device layout found address) refl in
      let at : layout.fill + (count - layout.fill) ≡ count = omega (arith, most) in
      let whole : count - 0 ≡ count = omega arith in
      ap (λ n. latest_in (take n slots) address) (sym whole)
      ∙ sym
      (latest_in-row 0 count slots address (omega arith)
      (ap (λ (words : List Word). latest_in words address)
      (ap (λ n. drop n slots) (sym at)
      ∙ sym (drop-drop (count - layout.fill) layout.fill slots))
      ∙ silent))
