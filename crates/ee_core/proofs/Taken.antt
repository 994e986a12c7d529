-- Steps that were taken, one after another.
use Rattle.ee_core.proofs.Words.{rules, ◌≡◌, ◌≢◌, ◌⊎◌, inl, inr, ℕ, ◌+◌, ◌-◌, ◌<◌, ◌≤◌, Bool, true, false, cond, List, [], ◌∷◌, ◌++◌, length, get_or, refl, sym, subst, ap, ◌∙◌, arith, suc, zero, append_assoc, Result, Ok, Err, IsErr, true≢false, get_or-set_other, flat_map}
use Rattle.ee_core.proofs.Sets.{Device, IsFormed, IsOff, IsOn, page_at, GoesOn, IsCut, Ends, Erase, Program, Step, IsCutIn, IsUntouched, device_after, one_more, Word, is_blank, is_written, marking, place_of_mark, word_in, Mark, Erasing, Side, first_page, set_of, length-set_of}
use Rattle.ee_core.proofs.Calls.{not_blank_from, not_blank_in}
use Rattle.ee_core.proofs.SetPages.{page_of_set}
use Rattle.std.specs.List.{range_with_len}
use Rattle.std.specs.Prelude.{map}
use Rattle.std.proofs.lemmas.List.Concat.{flat_map_single}
use Rattle.ee_flash.specs.Laws.{all_completed, page_of}
use Rattle.ee_flash.proofs.Public.{all_completed_on, completed_size}
use Rattle.ee_flash.specs.Taking.{Completes, CutAt, IsCutAmong, StopsAmong, Takes}
use Rattle.ee_core.proofs.AfterCalls.{not_both}
use Rattle.std.proofs.lemmas.Grind.{flat_map-append}

pub completed-append : (steps more : List Step) (device : Device)
    → all_completed (steps ++ more) device ≡ all_completed more (all_completed steps device)
completed-append [] _ _ = refl
completed-append (step ∷ steps) more device = completed-append steps more (device_after step device)

pub completed-size : (steps : List Step) (device : Device)
    → (all_completed steps device).size ≡ device.size
completed-size [] _ = refl
completed-size (step ∷ steps) device =
    completed-size steps (device_after step device) ∙ completed_size step device

-- ---- none, one, and more behind some

pub completes_none : (device : Device) → Completes [] device device
completes_none _ = record { done = refl; none_while_off = λ _. refl }

pub completes_one : {new : Device} (step : Step) (old : Device) → IsOn old
    → new ≡ device_after step old → Completes (step ∷ []) old new
completes_one _ old on done =
    record { done = done; none_while_off = λ off. absurd (not_both old on off) }

pub stops_one : {old new : Device} (step : Step) → IsCutIn step old new ⊎ IsUntouched old new
    → StopsAmong (step ∷ []) old new
stops_one step (inl cut) = inl (CutAt [] step [] refl cut)
stops_one _ (inr none) = inr none

-- a call that took no step while power was off
still : {steps : List Step} {old mid : Device} → Completes steps old mid → IsOff old
    → (steps ≡ []) × (mid ≡ old)
still {old = old} first off =
    let none = first.none_while_off off in
    (none, first.done ∙ ap (λ steps. all_completed steps old) none)

pub completes_both : {old mid new : Device} (steps more : List Step) → Completes steps old mid
    → Completes more mid new → Completes (steps ++ more) old new
completes_both {old = old} {mid = mid} steps more first second = record {
  done =
      second.done ∙ ap (all_completed more) first.done ∙ sym (completed-append steps more old);
  none_while_off = λ off.
      let none = still first off in
      ap (λ list. list ++ more) none.0
      ∙ second.none_while_off (ap (λ (device : Device). device.on) none.1 ∙ off);
}

pub stops_first : {old new : Device} (steps more : List Step) → StopsAmong steps old new
    → StopsAmong (steps ++ more) old new
stops_first steps more (inl (CutAt before step behind are cut)) =
    inl
    (CutAt before step (behind ++ more)
    (ap (λ list. list ++ more) are ∙ append_assoc before (step ∷ behind) more) cut)
stops_first _ _ (inr none) = inr none

pub stops_then : {old mid new : Device} (steps more : List Step) → Completes steps old mid
    → StopsAmong more mid new → StopsAmong (steps ++ more) old new
stops_then {old = old} {mid = mid} {new = new} steps more first
    (inl (CutAt before step behind are cut)) =
    inl
    (CutAt (steps ++ before) step behind
    (ap (λ list. steps ++ list) are ∙ sym (append_assoc steps before (step ∷ behind)))
    (subst (λ (device : Device). IsCutIn step device new)
    (ap (all_completed before) first.done ∙ sym (completed-append steps before old)) cut))
stops_then {old = old} {mid = mid} {new = new} steps more first (inr none) =
    let off : IsOff old =
    sym (all_completed_on steps old)
    ∙ ap (λ (device : Device). device.on) (sym first.done)
    ∙ none.was_off in
    inr (record { was_off = off; same = none.same ∙ (still first off).1 })

-- ---- power and cuts, which follow

completed-cuts : (steps : List Step) (device : Device)
    → (all_completed steps device).cuts ≡ device.cuts
completed-cuts [] _ = refl
completed-cuts (Program page at value ∷ steps) device =
    completed-cuts steps (device_after (Program page at value) device)
completed-cuts (Erase page ∷ steps) device =
    completed-cuts steps (device_after (Erase page) device)

completed-cuts_left : (steps : List Step) (device : Device)
    → (all_completed steps device).cuts_left ≡ device.cuts_left
completed-cuts_left [] _ = refl
completed-cuts_left (Program page at value ∷ steps) device =
    completed-cuts_left steps (device_after (Program page at value) device)
completed-cuts_left (Erase page ∷ steps) device =
    completed-cuts_left steps (device_after (Erase page) device)

pub goes_on_taken : {old new : Device} (steps : List Step) → Completes steps old new
    → GoesOn old new
goes_on_taken {old = old} steps taken = record {
  same_size = ap (λ (device : Device). device.size) taken.done ∙ completed-size steps old;
  same_power = ap (λ (device : Device). device.on) taken.done ∙ all_completed_on steps old;
  same_cuts = ap (λ (device : Device). device.cuts) taken.done ∙ completed-cuts steps old;
  same_cuts_left =
      ap (λ (device : Device). device.cuts_left) taken.done ∙ completed-cuts_left steps old;
  same_while_off = λ off. (still taken off).1;
}

pub cut_taken : {old new : Device} {steps : List Step} → IsCutAmong steps old new → IsCut old new
cut_taken {old = old} (CutAt before _ _ _ cut) = record {
  was_on = sym (all_completed_on before old) ∙ cut.was_on;
  is_off = cut.is_off;
  same_size = cut.same_size ∙ completed-size before old;
  one_more_cut = cut.cuts ∙ ap one_more (completed-cuts before old);
  one_less_left = sym (completed-cuts_left before old) ∙ cut.cuts_left;
}

-- a call that takes steps ends as every call does
pub ends_taken : {T E : Type 0} {old new : Device} (result : Result T E) (steps : List Step)
    → Takes result steps old new → Ends result old new
ends_taken (Ok _) steps takes =
    record { ok = goes_on_taken steps takes.done; cut = tt; off = tt }
ends_taken {old = old} (Err _) steps takes = elim takes.cut [
  | inl among ↦ record {
    ok = tt;
    cut = λ on. cut_taken among;
    off = λ off. absurd (not_both old (cut_taken among).was_on off);
  }
  | inr none ↦ record {
    ok = tt;
    cut = λ on. absurd (not_both old on none.was_off);
    off = λ off. none.same;
  }
]

-- ---- results

pub takes_ok : {T E : Type 0} {value : T} {steps : List Step} {old new : Device}
    → Completes steps old new → Takes {E = E} (Ok value) steps old new
takes_ok done = record { done = done; cut = tt }

pub takes_err : {T E : Type 0} {steps : List Step} {old new : Device} (result : Result T E)
    → IsErr result → StopsAmong steps old new → Takes result steps old new
takes_err (Ok _) is _ = absurd (true≢false (sym is))
takes_err (Err _) _ stops = record { done = tt; cut = stops }

no_front : (before : List Step) (step : Step) (behind : List Step)
    → [] ≡ before ++ (step ∷ behind) → ⊥
no_front [] _ _ is = absurd (cc is)
no_front (_ ∷ _) _ _ is = absurd (cc is)

-- on a device that was on an error is a cut
pub among_on : {steps : List Step} {old new : Device} → IsOn old → StopsAmong steps old new
    → IsCutAmong steps old new
among_on _ (inl among) = among
among_on {old = old} on (inr none) = absurd (not_both old on none.was_off)

-- in no step at all none is cut
pub nothing_stops : {old new : Device} → IsCutAmong [] old new → ⊥
nothing_stops (CutAt before step behind are _) = no_front before step behind are

-- ---- a step that is taken unless something stands there

pub completes_unless : {new : Device} (there : Bool) (step : Step) (old : Device)
    → (there ≡ true → new ≡ old) → (there ≡ false → IsOn old)
    → (there ≡ false → new ≡ device_after step old)
    → Completes (cond there [] (step ∷ [])) old new
completes_unless {new = new} true _ old same _ _ =
    subst (λ (device : Device). Completes [] old device) (sym (same refl)) (completes_none old)
completes_unless false step old _ on done = completes_one step old (on refl) (done refl)

pub stops_unless : {old new : Device} (there : Bool) (step : Step) → (there ≡ true → ⊥)
    → IsCutIn step old new ⊎ IsUntouched old new → StopsAmong (cond there [] (step ∷ [])) old new
stops_unless true _ none _ = absurd (none refl)
stops_unless false step _ cut = stops_one step cut

-- ---- page by page

pub range_more : (first count : ℕ)
    → range_with_len first (count + 1) ≡ range_with_len first count ++ ((first + count) ∷ [])
range_more first zero = ap (λ n. n ∷ []) (omega arith)
range_more first (suc count) =
    let longer : suc count + 1 ≡ suc (count + 1) = omega arith in
    let end : first + 1 + count ≡ first + suc count = omega arith in
    ap (range_with_len first) longer
    ∙ ap (λ list. first ∷ list)
    (range_more (first + 1) count
    ∙ ap (λ n. range_with_len (first + 1) count ++ (n ∷ [])) end)

pub range_split : (first count more : ℕ)
    → range_with_len first (count + more)
    ≡ range_with_len first count ++ range_with_len (first + count) more
range_split first zero more =
    let all : 0 + more ≡ more = omega arith in
    let start : first ≡ first + 0 = omega arith in
    ap (range_with_len first) all ∙ ap (λ n. range_with_len n more) start
range_split first (suc count) more =
    let longer : suc count + more ≡ suc (count + more) = omega arith in
    let end : first + 1 + count ≡ first + suc count = omega arith in
    ap (range_with_len first) longer
    ∙ ap (λ list. first ∷ list)
    (range_split (first + 1) count more
    ∙ ap (λ n. range_with_len (first + 1) count ++ range_with_len n more) end)

-- each step is in a page below this one
abbrev pub AreBelow : ℕ → List Step → Type 0
AreBelow page [] = Unit {0}
AreBelow page (step ∷ steps) = (page_of step < page) × AreBelow page steps

below-append : (page : ℕ) (steps more : List Step) → AreBelow page steps → AreBelow page more
    → AreBelow page (steps ++ more)
below-append _ [] _ _ rest = rest
below-append page (_ ∷ steps) more first rest =
    (first.0, below-append page steps more first.1 rest)

below-more : (page more : ℕ) (steps : List Step) → page ≤ more → AreBelow page steps
    → AreBelow more steps
below-more _ _ [] _ _ = tt
below-more page more (_ ∷ steps) le below =
    (omega (arith, below.0), below-more page more steps le below.1)

other_page : (step : Step) (device : Device) (page : ℕ) → page ≢ page_of step
    → page_at (device_after step device) page ≡ page_at device page
other_page (Program at _ _) device page apart = get_or-set_other device.image at page _ [] apart
other_page (Erase at) device page apart = get_or-set_other device.image at page _ [] apart

-- so they leave this page as it was
pub page_stays : (steps : List Step) (device : Device) (page : ℕ) → AreBelow page steps
    → page_at (all_completed steps device) page ≡ page_at device page
page_stays [] _ _ _ = refl
page_stays (step ∷ steps) device page below =
    page_stays steps (device_after step device) page below.1
    ∙ other_page step device page (λ same. omega (arith, same, below.0))

-- steps of one page that depend on its words alone
module _ (steps : List Word → ℕ → List Step)
    (own : (words : List Word) (page : ℕ) → AreBelow (page + 1) (steps words page)) where
  abbrev pub each_of : Device → ℕ → ℕ → List Step
  each_of device first count =
      flat_map (λ page. steps (page_at device page) page) (range_with_len first count)

  each_below : (device : Device) (first count : ℕ)
      → AreBelow (first + count) (each_of device first count)
  each_below _ _ zero = tt
  each_below device first (suc count) =
      below-append (first + suc count) (steps (page_at device first) first)
      (each_of device (first + 1) count)
      (below-more (first + 1) (first + suc count) _ (omega arith) (own (page_at device first) first))
      (subst (λ n. AreBelow n (each_of device (first + 1) count)) (omega arith)
      (each_below device (first + 1) count))

  pub each_more : (device : Device) (first count page : ℕ) → first + count ≡ page
      → each_of device first (count + 1)
      ≡ each_of device first count ++ steps (page_at device page) page
  each_more device first count page at =
      ap (flat_map (λ page. steps (page_at device page) page)) (range_more first count)
      ∙ flat_map-append (λ page. steps (page_at device page) page) (range_with_len first count)
      ((first + count) ∷ [])
      ∙ ap (λ n. each_of device first count ++ (steps (page_at device n) n ++ [])) at
      ∙ ap (λ list. each_of device first count ++ list) (search (rules))

  pub each_split : (device : Device) (first count more : ℕ)
      → each_of device first (count + more)
      ≡ each_of device first count ++ each_of device (first + count) more
  each_split device first count more =
      ap (flat_map (λ page. steps (page_at device page) page)) (range_split first count more)
      ∙ flat_map-append (λ page. steps (page_at device page) page) (range_with_len first count)
      (range_with_len (first + count) more)

  module _ (old mid new : Device) (first page : ℕ) (from : first ≤ page)
      (so_far : Completes (each_of old first (page - first)) old mid) where
    pub same_words : page_at mid page ≡ page_at old page
    same_words =
        ap (λ (device : Device). page_at device page) so_far.done
        ∙ page_stays (each_of old first (page - first)) old page
        (subst (λ n. AreBelow n (each_of old first (page - first))) (omega arith)
        (each_below old first (page - first)))

    pub each_next : Completes (steps (page_at mid page) page) mid new
        → Completes (each_of old first (page + 1 - first)) old new
    each_next step =
        subst (λ (list : List Step). Completes list old new)
        (sym
        (ap (each_of old first) (omega arith)
        ∙ each_more old first (page - first) page (omega arith)))
        (completes_both (each_of old first (page - first)) (steps (page_at old page) page) so_far
        (subst (λ words. Completes (steps words page) mid new) same_words step))

    -- or power was cut there, before so many pages were gone over
    pub each_stops : (count : ℕ) → page < first + count
        → StopsAmong (steps (page_at mid page) page) mid new
        → StopsAmong (each_of old first count) old new
    each_stops count below stops =
        let rest = each_of old (first + (page + 1 - first)) (count - (page + 1 - first)) in
        subst (λ (list : List Step). StopsAmong list old new)
        (sym
        (ap (each_of old first) (omega arith)
        ∙ each_split old first (page + 1 - first) (count - (page + 1 - first))))
        (stops_first (each_of old first (page + 1 - first)) rest
        (subst (λ (list : List Step). StopsAmong list old new)
        (sym
        (ap (each_of old first) (omega arith)
        ∙ each_more old first (page - first) page (omega arith)))
        (stops_then (each_of old first (page - first)) (steps (page_at old page) page) so_far
        (subst (λ words. StopsAmong (steps words page) mid new) same_words stops))))

-- ---- the steps of a page, by its words

-- it is erased, unless it is blank
abbrev pub erase_words : List Word → ℕ → List Step
erase_words words page = cond (is_blank words) [] (Erase page ∷ [])

-- it is marked, unless it is
abbrev pub mark_words : Mark → List Word → ℕ → List Step
mark_words mark words page =
    cond (is_written (word_in words (place_of_mark mark))) [] (marking page mark ∷ [])

-- it may be erased, unless it is blank
abbrev pub retire_words : List Word → ℕ → List Step
retire_words words page = cond (is_blank words) [] (mark_words Erasing words page)

one_below : (there : Bool) (step : Step) (page : ℕ) → page_of step ≡ page
    → AreBelow (page + 1) (cond there [] (step ∷ []))
one_below true _ _ _ = tt
one_below false step page at = (omega (arith, at), tt)

pub erase_below : (words : List Word) (page : ℕ) → AreBelow (page + 1) (erase_words words page)
erase_below words page = one_below (is_blank words) (Erase page) page refl

pub mark_below : (mark : Mark) (words : List Word) (page : ℕ)
    → AreBelow (page + 1) (mark_words mark words page)
mark_below mark words page =
    one_below (is_written (word_in words (place_of_mark mark))) (marking page mark) page refl

none_or_below : (blank : Bool) (page : ℕ) (steps : List Step) → AreBelow (page + 1) steps
    → AreBelow (page + 1) (cond blank [] steps)
none_or_below true _ _ _ = tt
none_or_below false _ _ below = below

pub retire_below : (words : List Word) (page : ℕ) → AreBelow (page + 1) (retire_words words page)
retire_below words page =
    none_or_below (is_blank words) page (mark_words Erasing words page)
    (mark_below Erasing words page)

-- before the first page
pub each_start : (steps : List Word → ℕ → List Step) (device : Device) (first : ℕ)
    → Completes
    (flat_map (λ page. steps (page_at device page) page) (range_with_len first (first - first)))
    device device
each_start steps device first =
    let none : 0 ≡ first - first = omega arith in
    subst
    (λ n. Completes
    (flat_map (λ page. steps (page_at device page) page) (range_with_len first n)) device device)
    none (completes_none device)

-- ---- the pages that are not blank

chosen_page : (b c : Bool) (f : ℕ → List Step) (first : ℕ) (rest : List Step) (numbers : List ℕ)
    → c ≡ b → rest ≡ flat_map f numbers
    → cond c [] (f first) ++ rest ≡ flat_map f (cond b numbers (first ∷ numbers))
chosen_page true c f first rest numbers same is = rw same is
chosen_page false c f first rest numbers same is = rw same (ap (λ list. f first ++ list) is)

by_page : (f : ℕ → List Step) (device : Device) (pages : List (List Word)) (first : ℕ)
    → ((k : ℕ) → k < length pages → get_or pages k [] ≡ page_at device (first + k))
    → flat_map (λ page. cond (is_blank (page_at device page)) [] (f page))
    (range_with_len first (length pages))
    ≡ flat_map f (not_blank_from first pages)
by_page _ _ [] _ _ = refl
by_page f device (page ∷ pages) first same =
    let here : page ≡ page_at device first =
    same zero (omega arith) ∙ ap (page_at device) (omega arith) in
    chosen_page (is_blank page) (is_blank (page_at device first)) f first
    (flat_map (λ page. cond (is_blank (page_at device page)) [] (f page))
    (range_with_len (first + 1) (length pages)))
    (not_blank_from (first + 1) pages)
    (ap is_blank (sym here))
    (by_page f device pages (first + 1)
    (λ k h. same (suc k) (omega arith) ∙ ap (page_at device) (omega arith)))

-- of a set
pub in_set : (f : ℕ → List Step) (device : Device) (side : Side) (first count : ℕ)
    → IsFormed device → first ≡ first_page device.size side → count ≡ device.size.pages
    → flat_map (λ page. cond (is_blank (page_at device page)) [] (f page))
    (range_with_len first count)
    ≡ flat_map f (not_blank_in side device)
in_set f device side first count formed first_is count_is =
    let steps = λ (page : ℕ). cond (is_blank (page_at device page)) [] (f page) in
    ap (λ n. flat_map steps (range_with_len n count)) first_is
    ∙ ap (λ n. flat_map steps (range_with_len (first_page device.size side) n))
    (omega (arith, count_is, length-set_of side device formed))
    ∙ by_page f device (set_of side device) (first_page device.size side)
    (λ k h. page_of_set side device k (omega (arith, length-set_of side device formed)))

pub in_device : (f : ℕ → List Step) (device : Device) (count : ℕ) → count ≡ length device.image
    → flat_map (λ page. cond (is_blank (page_at device page)) [] (f page)) (range_with_len 0 count)
    ≡ flat_map f (not_blank_from 0 device.image)
in_device f device count count_is =
    let steps = λ (page : ℕ). cond (is_blank (page_at device page)) [] (f page) in
    ap (λ n. flat_map steps (range_with_len 0 n)) count_is
    ∙ by_page f device device.image 0 (λ k h. ap (page_at device) (omega arith))

-- erases, one a page
pub erases_in : (numbers : List ℕ) → flat_map (λ page. Erase page ∷ []) numbers ≡ map Erase numbers
erases_in numbers = flat_map_single Erase numbers
