-- The pages of a set by their numbers in the device.
use Rattle.ee_core.proofs.Words.{rules, ◌≡◌, ◌≢◌, ℕ, ◌+◌, ◌<◌, ◌≤◌, inl, inr, [], get_or, set, sym, ap, ◌∙◌, arith, cases_eq, ext_get_or, length-set, refl}
use Rattle.ee_core.proofs.Sets.{Device, IsFormed, page_at, Size, page_count, IsPageOf, first_page, other, set_of, Side, First, Second, length-set_of}
use Rattle.ee_core.proofs.Calls.{IsSameBut, IsSameSet}
use Rattle.ee_pages.proofs.Public.{page_of_set as page_numbered}

pub page_of_set : (side : Side) (device : Device) (k : ℕ) → k < device.size.pages
    → get_or (set_of side device) k [] ≡ page_at device (first_page device.size side + k)
page_of_set _ _ _ h = page_numbered _ _ _ _ refl h

pub first_below : (size : Size) (side : Side) → first_page size side ≤ size.pages
first_below _ First = omega arith
first_below _ Second = omega arith

-- a page of a set is one of the device
pub page_of_device : (size : Size) (side : Side) (page : ℕ) → IsPageOf size side page
    → page < page_count size
page_of_device size side _ at = omega (arith, first_below size side)

pub page_in_device : (size : Size) (side : Side) (k : ℕ) → k < size.pages
    → first_page size side + k < page_count size
page_in_device size side k h = omega (arith, first_below size side)

-- a page that a loop over a set came to
pub page_reached : (side : Side) (old mid : Device) (first pages page : ℕ)
    → first ≡ first_page old.size side → pages ≡ old.size.pages → mid.size ≡ old.size → first ≤ page
    → page < first + pages → IsPageOf mid.size side page
page_reached side _ _ _ _ _ first_is pages_is sizes from below = search rules

-- a page of one set is none of the other
pub apart : (size : Size) (side : Side) (page k : ℕ) → IsPageOf size (other side) page
    → k < size.pages → first_page size side + k ≢ page
apart _ First page k at h e = omega arith
apart size Second page k at h e = omega arith

pub apart_other : (size : Size) (side : Side) (page k : ℕ) → IsPageOf size side page
    → k < size.pages → first_page size (other side) + k ≢ page
apart_other _ First page k at h e = omega arith
apart_other size Second page k at h e = omega arith

-- the same set has the same pages
pub same_page : (side : Side) (old new : Device) (k : ℕ) → new.size ≡ old.size
    → IsSameSet side old new → k < old.size.pages
    → page_at new (first_page new.size side + k) ≡ page_at old (first_page old.size side + k)
same_page _ _ _ k sizes same h = search (rules, page_of_set)

-- what changes one page of a set leaves the other set
pub same_other : (side : Side) (old new : Device) (page : ℕ) → IsFormed old → IsFormed new
    → new.size ≡ old.size → IsPageOf old.size side page → IsSameBut page old new
    → IsSameSet (other side) old new
same_other side old new page old_formed new_formed sizes at same =
    let pages = ap (λ size. size.pages) sizes in
    let new_count = length-set_of _ _ new_formed ∙ pages in
    ext_get_or [] (set_of (other side) new) (set_of (other side) old)
    (new_count ∙ sym (length-set_of _ _ old_formed)) (λ k h.
    let within : k < old.size.pages = omega arith in
    page_of_set (other side) new k (omega arith)
    ∙ ap (λ size. page_at new (first_page size (other side) + k)) sizes
    ∙ same (first_page old.size (other side) + k) (apart_other old.size side page k at within)
    ∙ sym (page_of_set (other side) old k within))

-- what changes one page of a set changes it in the list of its pages
pub one_changed : (side : Side) (old new : Device) (page k : ℕ) → IsFormed old → IsFormed new
    → new.size ≡ old.size → first_page old.size side + k ≡ page → k < old.size.pages
    → IsSameBut page old new → set_of side new ≡ set (set_of side old) k (page_at new page)
one_changed side old new page k old_formed new_formed sizes at _ same =
    let pages = ap (λ size. size.pages) sizes in
    let old_count = length-set_of _ _ old_formed in
    let new_count = length-set_of _ _ new_formed ∙ pages in
    ext_get_or [] (set_of side new) (set (set_of side old) k (page_at new page))
    (new_count ∙ sym old_count ∙ sym (length-set (set_of side old) k (page_at new page))) (λ j
    h.
    let there =
    page_of_set side new j (omega arith)
    ∙ ap (λ size. page_at new (first_page size side + j)) sizes in
    elim (cases_eq j k) [
      | inl here ↦
          search rules
      | inr other ↦
          search (rules, page_of_set)
    ])
