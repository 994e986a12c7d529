-- What slots say of the addresses of a span, the newest first.
use Rattle.std.proofs.Common.{◌≡◌, ℕ, ◌+◌, ◌-◌, ◌*◌, ◌<◌, ◌≤◌, Option, Some, None, true, List, [], ◌∷◌, length, take, drop, get_or, is_some, refl, sym, subst, ap, ◌∙◌, arith, suc, zero}
use Rattle.std.proofs.lemmas.List.{drop-drop, drop-take, take-take}
use Rattle.std.proofs.lemmas.Simd.{chunk-drop}
use Rattle.ee_flash.specs.Device.{Device, IsFormed}
use Rattle.ee_flash.specs.Runs.{words_from}
use Rattle.ee_flash.specs.declared.word.Word.{Word}
use Rattle.ee_flash.specs.declared.word.Word.TheVariants.{Erased}
use Rattle.ee_pages.specs.Meaning.{later_of, latest_in, meaning, says, value_said}
use Rattle.ee_pages.specs.Sets.{first_page, set_of, slots_of}
use Rattle.ee_pages.specs.Spans.{AreSaidTo, IsSpan, Span, TellsBefore, span_says}
use Rattle.ee_pages.specs.declared.side.Side.{Side}
use Rattle.ee_pages.proofs.LastSaid.{latest_in-append, latest_in-step, later-later, later-none, length-row}
use Rattle.ee_pages.proofs.Slots.{row_within}
use Rattle.ee_pages.proofs.RunSlots.{words_here}

-- nothing more is said
pub tells_nothing : (said : ℕ → Option (Option ℕ)) (span : Span)
    → ((address : ℕ) → said address ≡ None) → TellsBefore said span span
tells_nothing said span none = record {
  first = refl;
  count = refl;
  each = λ at low.
      sym
      (ap (λ (before : Option (Option ℕ)). later_of before (span_says span at)) (none (span.first + at))
      ∙ later-none (span_says span at));
}

-- where it is known what both parts say, before and behind, it is known what both say together
pub tells_both : (before behind both : ℕ → Option (Option ℕ)) (old mid new : Span)
    → ((address : ℕ) → both address ≡ later_of (before address) (behind address))
    → TellsBefore behind old mid → TellsBefore before mid new → TellsBefore both old new
tells_both before behind both old mid new is one two = record {
  first = two.first ∙ one.first;
  count = two.count ∙ one.count;
  each = λ at low.
      let low_mid : at < mid.count = subst (λ n. at < n) (sym one.count) low in
      let a : ℕ = old.first + at in
      two.each at low_mid
      ∙ ap (λ n. later_of (before (n + at)) (span_says mid at)) one.first
      ∙ ap (later_of (before a)) (one.each at low)
      ∙ later-later (before a) (behind a) (span_says old at)
      ∙ ap (λ (said : Option (Option ℕ)). later_of said (span_says old at)) (sym (is a));
}

later_some : (before said : Option (Option ℕ)) → is_some said ≡ true → later_of before said ≡ said
later_some before (Some said) some = refl
later_some before None some = absurd (cc some)

-- what is said of all addresses isn't changed by what stands before
pub tells_all : (before behind both : ℕ → Option (Option ℕ)) (old new : Span)
    → ((address : ℕ) → both address ≡ later_of (before address) (behind address))
    → AreSaidTo new new.count → TellsBefore behind old new → TellsBefore both old new
tells_all before behind both old new is said one =
    tells_both before behind both old new new is one (record {
      first = refl;
      count = refl;
      each = λ at low.
          sym (later_some (before (new.first + at)) (span_says new at) (said at low));
    })

-- ---- the words of a list

-- one word lower
pub one_before : (words : List Word) (left address : ℕ) → 0 < left → left ≤ length words
    → latest_in (drop (left - 1) words) address
    ≡ later_of (says (get_or words (left - 1) Erased) address) (latest_in (drop left words) address)
one_before words left address some within =
    let inside : left - 1 < length words = omega arith in
    let next : left - 1 + 1 ≡ left = omega arith in
    latest_in-step (left - 1) words address inside
    ∙ ap
    (λ n. later_of (says (get_or words (left - 1) Erased) address)
    (latest_in (drop n words) address)) next

pub behind_all : (words : List Word) (end address : ℕ) → end ≡ length words
    → latest_in (drop end words) address ≡ None
behind_all [] zero address e = refl
behind_all [] (suc end) address e = refl
behind_all (word ∷ words) zero address e = absurd (omega (arith, e))
behind_all (word ∷ words) (suc end) address e = behind_all words end address (omega (arith, e))

-- some words in a row, and those behind them
pub in_two : (start end : ℕ) (words : List Word) (address : ℕ) → start ≤ end
    → latest_in (drop start words) address
    ≡ later_of (latest_in (take (end - start) (drop start words)) address)
    (latest_in (drop end words) address)
in_two start end words address h =
    let e : start + (end - start) ≡ end = omega arith in
    ap (λ words. latest_in words address) (chunk-drop start (end - start) words)
    ∙ latest_in-append (take (end - start) (drop start words)) (drop (start + (end - start)) words)
    address
    ∙ ap
    (λ n. later_of (latest_in (take (end - start) (drop start words)) address)
    (latest_in (drop n words) address)) e

-- what a row of slots says, in a row of them and those behind it
module _ (device : Device) (side : Side) (page here : ℕ) (formed : IsFormed device)
    (inside : page < device.size.pages) (here_is : here ≡ first_page device.size side + page) where
  pub run_before : (from count used : ℕ) (address : ℕ) → from + count ≤ used
      → used ≤ device.size.words - 4
      → latest_in
      (drop from (take used (drop (page * (device.size.words - 4)) (slots_of (set_of side device)))))
      address
      ≡ later_of (latest_in (words_from device here (4 + from) count) address)
      (latest_in
      (drop (from + count)
      (take used (drop (page * (device.size.words - 4)) (slots_of (set_of side device)))))
      address)
  run_before from count used address few most =
      let slots = slots_of (set_of side device) in
      let start = page * (device.size.words - 4) in
      let row = take used (drop start slots) in
      let words = words_from device here (4 + from) count in
      let all : from + (used - from) ≡ used = omega (arith, few) in
      let some : from + count - from ≡ count = omega arith in
      let row_from : drop from row ≡ take (used - from) (drop from (drop start slots)) =
      subst
      (λ n. drop from (take n (drop start slots)) ≡ take (used - from) (drop from (drop start slots)))
      all (drop-take from (used - from) (drop start slots)) in
      let here_words : take count (drop from row) ≡ words =
      ap (take count) row_from
      ∙ take-take count (used - from) (drop from (drop start slots)) (omega (arith, few))
      ∙ ap (take count) (drop-drop from start slots)
      ∙ words_here device side page here formed inside here_is from count (omega (arith, few, most)) in
      in_two from (from + count) row address (omega arith)
      ∙ ap
      (λ n. later_of (latest_in (take n (drop from row)) address)
      (latest_in (drop (from + count) row) address)) some
      ∙ ap
      (λ (words : List Word). later_of (latest_in words address)
      (latest_in (drop (from + count) row) address))
      here_words

-- ---- the values of a span

pub all_values : (slots : List Word) (old new : Span) → 0 < new.count → old.count ≤ 16
    → ((at : ℕ) → at < 16 → span_says old at ≡ None) → TellsBefore (latest_in slots) old new
    → IsSpan (meaning slots) new
all_values slots old new some few none tells = record {
  some = some;
  each = λ at low.
      let below : at < old.count = subst (λ n. at < n) tells.count low in
      ap value_said
      (tells.each at below
      ∙ ap (later_of (latest_in slots (old.first + at))) (none at (omega (arith, below, few))))
      ∙ ap (λ n. value_said (latest_in slots (n + at))) (sym tells.first);
}

pub length_of_row : (device : Device) (side : Side) (page used : ℕ) → IsFormed device
    → page < device.size.pages → used ≤ device.size.words - 4
    → length (take used (drop (page * (device.size.words - 4)) (slots_of (set_of side device))))
    ≡ used
length_of_row device side page used formed inside few =
    length-row (page * (device.size.words - 4)) used (slots_of (set_of side device)) 0
    (row_within side device page used formed inside few)
