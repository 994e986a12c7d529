-- What every outcome of a step keeps.
use Rattle.std.proofs.Common.{◌≡◌, ◌⊎◌, inl, inr, ℕ, ◌+◌, ◌<◌, ◌≤◌, List, [], Option, Some, None, option_map, length, get_or, set, replicate, refl, sym, ap, ◌∙◌, arith, rules}
use Rattle.std.specs.List.{All}
use Rattle.std.proofs.lemmas.Bool.{cases_lt, true≢false}
use Rattle.std.proofs.lemmas.Option.{same_Some}
use Rattle.std.proofs.lemmas.List.{get_or-replicate, get_or-set_same, length-set, length-replicate, set-get_or, get_or_past}
use Rattle.std.proofs.lemmas.List.Elements.{All-from_get_or, All-get_or, All-set}
use Rattle.ee_flash.specs.Device.{Device, IsBelowAllOnes, IsFormed, IsOn, all_ones, page_at, wear_at}
use Rattle.ee_flash.specs.Size.{page_count}
use Rattle.ee_flash.specs.Step.{Step, Program, Erase, IsPartlyErased, MayFollow, MayLeave, device_after}
use Rattle.ee_flash.specs.Power.{GoesOn, IsCut}
use Rattle.ee_flash.specs.Laws.{CanTake, page_of, IsStep, DiffersInPage}
use Rattle.ee_flash.specs.declared.word.Word.{Word}
use Rattle.ee_flash.specs.declared.word.Word.TheVariants.{Erased, Held, Torn}

-- an erased page, and one as it was, are partly erased
IsPartlyErased-replicate : (words : List Word) (n : ℕ) → length words ≡ n
    → IsPartlyErased words (replicate n Erased)
IsPartlyErased-replicate words n is = record {
  as_long = length-replicate n Erased ∙ sym is;
  each = λ at. elim (cases_lt at n) [
    | inl below ↦ inr (inl (get_or-replicate n at Erased Erased below))
    | inr past ↦ inr
        (inl
        (get_or_past (replicate n Erased) at Erased (omega (arith, length-replicate n Erased))))
  ];
}

IsPartlyErased-same : (words : List Word) → IsPartlyErased words words
IsPartlyErased-same words = record { as_long = refl; each = λ at. inl refl }

leaves : (step : Step) (old new : Device) → IsFormed old → CanTake step old → MayFollow step old new
    → MayLeave step old new
leaves (Program page at value) old new formed may (inl done) =
    inr (inl (ap (λ (device : Device). device.image) done.done))
leaves (Program page at value) old new formed may (inr (inl cut)) = cut.image
leaves (Program page at value) old new formed may (inr (inr untouched)) =
    inl (ap (λ (device : Device). device.image) untouched.same)
leaves (Erase page) old new formed may (inl done) =
    let words = replicate old.size.words Erased in
    let in_range : page < length old.image = omega (arith, formed.image_length) in
    let same : get_or (set old.image page words) page [] ≡ words =
    get_or-set_same old.image page words [] in_range in
    rw done.done
    (rw same (
      IsPartlyErased-replicate (page_at old page) old.size.words
          (formed.page_lengths page [] in_range),
      refl,
    ))
leaves (Erase page) old new formed may (inr (inl cut)) = cut.image
leaves (Erase page) old new formed may (inr (inr untouched)) =
    rw untouched.same (IsPartlyErased-same (page_at old page), sym (set-get_or old.image page []))

pub step_leaves_pages : (step : Step) (old new : Device) → IsStep step old new
    → MayLeave step old new
step_leaves_pages step old new taken = leaves step old new taken.formed taken.may taken.follows

-- a list that differs in one place differs in its own element there
own_element : {X : Type 0} (old new : List X) (i : ℕ) (x d : X) → i < length old → new ≡ set old i x
    → new ≡ set old i (get_or new i d)
own_element {X = X} old new i x d within is =
    is
    ∙ ap (set old i)
    (sym (ap (λ (xs : List X). get_or xs i d) is ∙ get_or-set_same old i x d within))

same_element : {X : Type 0} (old new : List X) (i : ℕ) (d : X) → new ≡ old
    → new ≡ set old i (get_or new i d)
same_element {X = X} old new i d is =
    is ∙ sym (set-get_or old i d) ∙ ap (λ (xs : List X). set old i (get_or xs i d)) (sym is)

one_page : (step : Step) (old new : Device) → IsFormed old → CanTake step old
    → MayLeave step old new → new.image ≡ set old.image (page_of step) (page_at new (page_of step))
one_page (Program page at value) old new formed may (inl same) =
    same_element old.image new.image page [] same
one_page (Program page at value) old new formed may (inr (inl held)) =
    own_element old.image new.image page _ [] (omega (arith, formed.image_length, may.0)) held
one_page (Program page at value) old new formed may (inr (inr torn)) =
    own_element old.image new.image page _ [] (omega (arith, formed.image_length, may.0)) torn
one_page (Erase page) old new formed may left = left.1

pub wear_is : (step : Step) (old new : Device) → MayFollow step old new
    → (new.wear ≡ old.wear) ⊎ (new.wear ≡ (device_after step old).wear)
wear_is step old new (inl done) = inr (ap (λ (device : Device). device.wear) done.done)
wear_is step old new (inr (inl cut)) = inr cut.wear
wear_is step old new (inr (inr untouched)) =
    inl (ap (λ (device : Device). device.wear) untouched.same)

one_wear : (step : Step) (old new : Device) → IsFormed old → CanTake step old
    → (new.wear ≡ old.wear) ⊎ (new.wear ≡ (device_after step old).wear)
    → new.wear ≡ set old.wear (page_of step) (wear_at new (page_of step))
one_wear step old new formed may (inl same) = same_element old.wear new.wear (page_of step) 0 same
one_wear (Program page at value) old new formed may (inr same) =
    same_element old.wear new.wear page 0 same
one_wear (Erase page) old new formed may (inr more) =
    own_element old.wear new.wear page _ 0 (omega (arith, formed.wear_length)) more

pub completed_size : (step : Step) (old : Device) → (device_after step old).size ≡ old.size
completed_size (Program page at value) old = refl
completed_size (Erase page) old = refl

same_size : (step : Step) (old new : Device) → MayFollow step old new → new.size ≡ old.size
same_size step old new (inl done) =
    ap (λ (device : Device). device.size) done.done ∙ completed_size step old
same_size step old new (inr (inl cut)) = cut.same_size
same_size step old new (inr (inr untouched)) = ap (λ (device : Device). device.size) untouched.same

pub step_changes_one_page : (step : Step) (old new : Device) → IsStep step old new
    → DiffersInPage (page_of step) old new
step_changes_one_page step old new taken =
    search (rules, one_page, one_wear, same_size, step_leaves_pages, wear_is)

-- what the page of a step holds after it
element_there : {X : Type 0} (old new : List X) (i : ℕ) (x d : X) → i < length old
    → new ≡ set old i x → get_or new i d ≡ x
element_there {X = X} old new i x d within is =
    ap (λ (xs : List X). get_or xs i d) is ∙ get_or-set_same old i x d within

page_length : (step : Step) (old new : Device) → IsFormed old → CanTake step old
    → MayLeave step old new → length (page_at new (page_of step)) ≡ old.size.words
page_length (Program page at value) old new formed may (inl same) =
    rw same (formed.page_lengths page [] (omega (arith, formed.image_length, may.0)))
page_length (Program page at value) old new formed may (inr (inl held)) =
    let in_range : page < length old.image = omega (arith, formed.image_length, may.0) in
    rw (element_there old.image new.image page _ [] in_range held)
    (length-set (page_at old page) at (Held value) ∙ formed.page_lengths page [] in_range)
page_length (Program page at value) old new formed may (inr (inr torn)) =
    let in_range : page < length old.image = omega (arith, formed.image_length, may.0) in
    rw (element_there old.image new.image page _ [] in_range torn)
    (length-set (page_at old page) at Torn ∙ formed.page_lengths page [] in_range)
page_length (Erase page) old new formed may left =
    left.0.as_long ∙ formed.page_lengths page [] (omega (arith, formed.image_length))

pub below-held : (value : ℕ) → value < all_ones → IsBelowAllOnes (Held value)
below-held value below held is = let same : value ≡ held = cc in omega arith

-- a page of a device has as many words as its size says
pub length-page_at : (device : Device) (page : ℕ) → IsFormed device → page < page_count device.size
    → length (page_at device page) ≡ device.size.words
length-page_at device page formed h =
    All-get_or (λ page. length page ≡ device.size.words) device.image page []
    (omega (arith, formed.image_length)) formed.page_lengths

below-torn : IsBelowAllOnes Torn
below-torn held is = cc

page_below : (step : Step) (old new : Device) → IsFormed old → CanTake step old
    → MayLeave step old new → All IsBelowAllOnes (page_at new (page_of step))
page_below (Program page at value) old new formed may (inl same) =
    rw same (formed.below_all_ones page [] (omega (arith, formed.image_length, may.0)))
page_below (Program page at value) old new formed may (inr (inl held)) =
    let in_range : page < length old.image = omega (arith, formed.image_length, may.0) in
    rw (element_there old.image new.image page _ [] in_range held)
    (All-set IsBelowAllOnes (page_at old page) at (Held value) (below-held value may.3)
    (formed.below_all_ones page [] in_range))
page_below (Program page at value) old new formed may (inr (inr torn)) =
    let in_range : page < length old.image = omega (arith, formed.image_length, may.0) in
    rw (element_there old.image new.image page _ [] in_range torn)
    (All-set IsBelowAllOnes (page_at old page) at Torn below-torn
    (formed.below_all_ones page [] in_range))
page_below (Erase page) old new formed may left =
    All-from_get_or IsBelowAllOnes (page_at new page) Erased (λ at within value held.
    let in_range : page < length old.image = omega (arith, formed.image_length) in
    let as_long = left.0.as_long in
    elim (left.0.each at) [
      | inl same ↦ All-get_or IsBelowAllOnes (page_at old page) at Erased (omega arith)
          (formed.below_all_ones page [] in_range) value (sym same ∙ held)
      | inr (inl erased) ↦ cc
      | inr (inr torn) ↦ cc
    ])

wear_fits : (step : Step) (old : Device) → IsFormed old
    → All (λ count. count ≤ all_ones) (device_after step old).wear
wear_fits (Program page at value) old formed = formed.wear_fits
wear_fits (Erase page) old formed =
    All-set (λ count. count ≤ all_ones) old.wear page _ (omega arith) formed.wear_fits

wear_stays : (step : Step) (old new : Device) → IsFormed old
    → (new.wear ≡ old.wear) ⊎ (new.wear ≡ (device_after step old).wear)
    → All (λ count. count ≤ all_ones) new.wear
wear_stays step old new formed (inl same) = rw same formed.wear_fits
wear_stays step old new formed (inr more) = rw more (wear_fits step old formed)

completed_cuts : (step : Step) (old : Device)
    → ((device_after step old).cuts ≡ old.cuts)
    × ((device_after step old).cuts_left ≡ old.cuts_left)
completed_cuts (Program page at value) old = (refl, refl)
completed_cuts (Erase page) old = (refl, refl)

cuts_fit : (step : Step) (old new : Device) → IsFormed old → MayFollow step old new
    → new.cuts ≤ all_ones
cuts_fit step old new formed (inl done) =
    rw done.done (rw ((completed_cuts step old).0) formed.cuts_fit)
cuts_fit step old new formed (inr (inl cut)) = rw cut.cuts (omega arith)
cuts_fit step old new formed (inr (inr untouched)) = rw untouched.same formed.cuts_fit

cuts_left_fit : (step : Step) (old new : Device) → IsFormed old → MayFollow step old new
    → (left : ℕ) → new.cuts_left ≡ Some left → left ≤ all_ones
cuts_left_fit step old new formed (inl done) left is =
    formed.cuts_left_fit left
    (sym ((completed_cuts step old).1)
    ∙ sym (ap (λ (device : Device). device.cuts_left) done.done) ∙ is)
cuts_left_fit step old new formed (inr (inl cut)) left is =
    let fits =
    formed.cuts_left_fit (left + 1) (cut.cuts_left ∙ ap (option_map (λ (n : ℕ). n + 1)) is)
    in omega arith
cuts_left_fit step old new formed (inr (inr untouched)) left is =
    formed.cuts_left_fit left (sym (ap (λ (device : Device). device.cuts_left) untouched.same) ∙ is)

pub step_keeps_formed : (step : Step) (old new : Device) → IsStep step old new → IsFormed new
step_keeps_formed step old new taken =
    let page = page_of step in
    let left = step_leaves_pages step old new taken in
    let formed = taken.formed in
    let changed = step_changes_one_page step old new taken in
    let count : length new.image ≡ length old.image =
    ap length changed.image ∙ length-set old.image page (page_at new page) in
    let wears : length new.wear ≡ length old.wear =
    ap length changed.wear ∙ length-set old.wear page (wear_at new page) in
    record {
      within_limits = rw changed.same_size formed.within_limits;
      image_length = rw changed.same_size (count ∙ formed.image_length);
      page_lengths =
          rw (changed.same_size, changed.image)
          (All-set (λ (words : List Word). length words ≡ old.size.words) old.image page
          (page_at new page) (page_length step old new formed taken.may left)
          formed.page_lengths);
      below_all_ones =
          rw changed.image
          (All-set (All IsBelowAllOnes) old.image page (page_at new page)
          (page_below step old new formed taken.may left) formed.below_all_ones);
      wear_length = rw changed.same_size (wears ∙ formed.wear_length);
      wear_fits = wear_stays step old new formed (wear_is step old new taken.follows);
      cuts_fit = cuts_fit step old new formed taken.follows;
      cuts_left_fit = cuts_left_fit step old new formed taken.follows;
    }

completed_power : (step : Step) (old : Device) → IsOn old → GoesOn old (device_after step old)
completed_power (Program page at value) old on = record {
  same_size = refl;
  same_power = refl;
  same_cuts = refl;
  same_cuts_left = refl;
  same_while_off = λ off. absurd (true≢false (sym on ∙ off));
}
completed_power (Erase page) old on = record {
  same_size = refl;
  same_power = refl;
  same_cuts = refl;
  same_cuts_left = refl;
  same_while_off = λ off. absurd (true≢false (sym on ∙ off));
}

pub step_ends : (step : Step) (old new : Device) → MayFollow step old new
    → GoesOn old new ⊎ IsCut old new
step_ends step old new (inl done) = inl (rw done.done (completed_power step old done.was_on))
step_ends step old new (inr (inl cut)) =
    inr
    (record {
      was_on = cut.was_on;
      is_off = cut.is_off;
      same_size = cut.same_size;
      one_more_cut = cut.cuts;
      one_less_left = cut.cuts_left;
    })
step_ends step old new (inr (inr untouched)) =
    inl
    (rw untouched.same
    (record {
      same_size = refl;
      same_power = refl;
      same_cuts = refl;
      same_cuts_left = refl;
      same_while_off = λ off. refl;
    }))

pub calls_compose : (first second third : Device) → GoesOn first second
    → (GoesOn second third → GoesOn first third) × (IsCut second third → IsCut first third)
calls_compose first second third on = search (rules, same_size)

-- none left is not one more than some
pub some_more : (left : Option ℕ) → Some 0 ≡ option_map (λ n. n + 1) left → ⊥
some_more None e = cc
some_more (Some n) e = let same : 0 ≡ n + 1 = same_Some 0 (n + 1) e in omega arith

pub no_cut_left : (old new : Device) → old.cuts_left ≡ Some 0 → IsCut old new → ⊥
no_cut_left old new none cut = some_more new.cuts_left (sym none ∙ cut.one_less_left)
