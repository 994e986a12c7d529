-- The pages that wait to be erased: how many they are, and whether a page is one of them.
use Rattle.ee_core.proofs.Words.{◌≡◌, ℕ, ◌+◌, ◌-◌, ◌<◌, ◌≤◌, true, false, cond, Option, Some, None, ◌∷◌, length, set, refl, sym, ap, ◌∙◌, arith, length-take, rules}
use Rattle.ee_core.proofs.Sets.{Device, IsFormed, page_at, IsPageOf, is_blank, first_page, live_of, other, pending_of, set_of, Side, First, Second, length-set_of}
use Rattle.ee_core.proofs.Calls.{IsSameBut, not_blank_from, not_blank_in, pending_pages, pending_pages_in, state_in, state_of}
use Rattle.ee_core.proofs.NotBlank.{first_blank, length-not_blank, not_blank_same, times_below, times_here, times_past}
use Rattle.ee_core.proofs.SetPages.{one_changed, page_of_set}
use Rattle.ee_core.proofs.Wears.{times}

as_many : (device : Device) (live : Option (Side × ℕ))
    → length (pending_pages_in device live) ≡ (state_in device live).pending
as_many _ None = refl
as_many device (Some live) =
    length-not_blank (set_of (other live.0) device) (first_page device.size (other live.0))

-- they are as many as the state says
pub length-pending_pages : (device : Device)
    → length (pending_pages device) ≡ (state_of device).pending
length-pending_pages device = as_many device (live_of device)

-- as many of a set, where they are the same
pub as_many_not_blank : (side : Side) (old new : Device)
    → not_blank_in side new ≡ not_blank_in side old
    → pending_of (set_of side new) ≡ pending_of (set_of side old)
as_many_not_blank side old new same = search (rules, length-not_blank)

-- 1 for a page that is not blank
abbrev pub waits : Device → ℕ → ℕ
waits device page = cond (is_blank (page_at device page)) 0 1

-- a page is named once if it is one of the set and not blank
pub times_in_set : (side : Side) (device : Device) (page : ℕ) → IsPageOf device.size side page
    → times page (not_blank_in side device) ≡ waits device page
times_in_set side device page at =
    let k = page - first_page device.size side in
    let is : first_page device.size side + k ≡ page = omega arith in
    let within : k < device.size.pages = omega arith in
    search (rules, times_here, page_of_set)

-- and not at all if it is one of the other set
pub times_in_other : (side : Side) (device : Device) (page : ℕ) → IsPageOf device.size side page
    → times page (not_blank_in (other side) device) ≡ 0
times_in_other First device _ at = times_below (set_of Second device) _ _ (omega arith)
times_in_other Second device page at =
    let few : length (set_of First device) ≤ device.size.pages =
    omega (arith, length-take device.size.pages device.image) in
    search (rules, times_past)

-- ---- one page changed

-- a page of the set was changed, from blank to blank or between others
pub same_not_blank : (side : Side) (old new : Device) (page : ℕ) → IsFormed old → IsFormed new
    → new.size ≡ old.size → IsPageOf old.size side page → IsSameBut page old new
    → is_blank (page_at new page) ≡ is_blank (page_at old page)
    → not_blank_in side new ≡ not_blank_in side old
same_not_blank side old new page old_formed new_formed sizes at same blank =
    let k = page - first_page old.size side in
    let is : first_page old.size side + k ≡ page = omega arith in
    let within : k < old.size.pages = omega arith in
    ap (λ size. not_blank_from (first_page size side) (set_of side new)) sizes
    ∙ ap (not_blank_from (first_page old.size side))
    (one_changed _ _ _ _ k old_formed new_formed sizes is within same)
    ∙ not_blank_same _ _ k _
    (blank ∙ ap is_blank (sym (page_of_set _ _ k within ∙ ap (page_at old) is)))

-- the lowest that was not blank is blank
pub lowest_blank : (side : Side) (old new : Device) (page : ℕ) → IsFormed old → IsFormed new
    → new.size ≡ old.size → IsPageOf old.size side page → IsSameBut page old new
    → is_blank (page_at old page) ≡ false
    → ((lower : ℕ) → first_page old.size side ≤ lower → lower < page
    → is_blank (page_at old lower) ≡ true)
    → is_blank (page_at new page) ≡ true → not_blank_in side old ≡ page ∷ not_blank_in side new
lowest_blank side old new page old_formed new_formed sizes at same written lower blank =
    let k = page - first_page old.size side in
    let is : first_page old.size side + k ≡ page = omega arith in
    let within : k < old.size.pages = omega arith in
    first_blank _ _ k _ (omega (arith, length-set_of side old old_formed))
    (λ j h. ap is_blank (page_of_set _ old j (omega arith))
    ∙ lower (first_page old.size side + j) (omega arith) (omega arith))
    (ap is_blank (page_of_set _ _ k within ∙ ap (page_at old) is) ∙ written) blank
    ∙ ap
    (λ n.
    n ∷ not_blank_from (first_page old.size side) (set (set_of side old) k (page_at new page)))
    is
    ∙ ap (λ list. page ∷ not_blank_from (first_page old.size side) list)
    (sym (one_changed _ _ _ _ k old_formed new_formed sizes is within same))
    ∙ ap (λ size. page ∷ not_blank_from (first_page size side) (set_of side new)) (sym sizes)
