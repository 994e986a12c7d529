-- How wear rises over several steps, page by page and in all.
use Rattle.ee_core.proofs.Words.{rules, ◌≡◌, ◌⊎◌, inl, inr, ℕ, ◌+◌, ◌<◌, ◌++◌, List, [], ◌∷◌, ◌≤◌, Bool, true, false, cond, eqb, length, get_or, set, min, refl, sym, subst, ap, ◌∙◌, arith, All, sum, cases_eq, true≢false, get_or-set_other, get_or-set_same, get_or_past, length-append, length-set, All-append, All-cons, All-from_get_or, All-get_or, All-head, All-nil, All-tail, sum_by-set}
use Rattle.ee_core.proofs.Sets.{Device, IsOn, all_ones, Erase, IsCutIn, IsUntouched, with_page_erased, one_more, total_wear_of}
use Rattle.ee_core.proofs.Calls.{CountsWear, WearRises, Wears, worn_by}

-- ---- wears as lists

-- no count stands at all ones
abbrev IsCounted : List ℕ → Type 0
IsCounted wear = All (λ count. count < all_ones) wear

-- each page of a list has a wear
abbrev AreThere : List ℕ → List ℕ → Type 0
AreThere pages wear = All (λ page. page < length wear) pages

length-worn_by : (pages wear : List ℕ) → length (worn_by pages wear) ≡ length wear
length-worn_by [] _ = refl
length-worn_by (page ∷ pages) wear =
    length-worn_by pages (set wear page (one_more (get_or wear page 0)))
    ∙ length-set wear page (one_more (get_or wear page 0))

worn_by-append : (pages more wear : List ℕ)
    → worn_by (pages ++ more) wear ≡ worn_by more (worn_by pages wear)
worn_by-append [] _ _ = refl
worn_by-append (page ∷ pages) more wear =
    worn_by-append pages more (set wear page (one_more (get_or wear page 0)))

-- a count that is one more, below all ones
below_more : (count top : ℕ) → min (count + 1) top < top
    → (count < top) × (min (count + 1) top ≡ count + 1)
below_more _ _ h = (omega arith, omega arith)

more_counts : (wear : List ℕ) (page : ℕ) → page < length wear
    → IsCounted (set wear page (one_more (get_or wear page 0)))
    → IsCounted wear × (sum (set wear page (one_more (get_or wear page 0))) ≡ sum wear + 1)
more_counts wear page h counts =
    let more = one_more (get_or wear page 0) in
    let long = length-set wear page more in
    let here =
    below_more (get_or wear page 0) all_ones
    (subst (λ count. count < all_ones) (get_or-set_same wear page more 0 h)
    (All-get_or (λ count. count < all_ones) _ _ 0 (omega arith) counts)) in
    let each = All-from_get_or (λ count. count < all_ones) _ 0 (λ k in_range. elim (cases_eq k _) [
      | inl same ↦ subst (λ n. get_or wear n 0 < all_ones) (sym same) here.0
      | inr other ↦ subst (λ count. count < all_ones) (get_or-set_other wear page k more 0 other)
          (All-get_or (λ count. count < all_ones) _ k 0 (omega arith) counts)
    ]) in
    (each, omega (arith, sum_by-set (λ count. count) _ _ more 0 h))

all_count : (pages wear : List ℕ) → AreThere pages wear → IsCounted (worn_by pages wear)
    → IsCounted wear × (sum (worn_by pages wear) ≡ sum wear + length pages)
all_count [] _ _ counts = (counts, omega arith)
all_count (page ∷ pages) wear there counts =
    let rest =
    subst (λ n. All (λ page. page < n) pages)
    (sym (length-set wear page (one_more (get_or wear page 0))))
    (All-tail (λ page. page < length wear) _ _ there) in
    let later = all_count pages (set wear page (one_more (get_or wear page 0))) rest counts in
    let now = more_counts wear page (All-head (λ page. page < length wear) _ _ there) later.0 in
    (now.0, omega arith)

-- ---- how often a page is worn

-- how often a list names a page
abbrev pub times : ℕ → List ℕ → ℕ
times _ [] = 0
times page (here ∷ pages) = cond (eqb here page) 1 0 + times page pages

-- one more, of a page that may be past the end
worn_once : (wear : List ℕ) (page : ℕ)
    → get_or (set wear page (one_more (get_or wear page 0))) page 0 ≤ get_or wear page 0 + 1
worn_once wear page = search (rules, get_or_past)

worn_one : (wear : List ℕ) (here page : ℕ)
    → get_or (set wear here (one_more (get_or wear here 0))) page 0 ≤ get_or wear page 0
    + cond (eqb here page) 1 0
worn_one wear here page = search (rules, worn_once)

-- a page wears no more often than the list names it
pub worn_at_most : (pages wear : List ℕ) (page : ℕ)
    → get_or (worn_by pages wear) page 0 ≤ get_or wear page 0 + times page pages
worn_at_most [] _ _ = omega arith
worn_at_most (here ∷ pages) wear page =
    let later = worn_at_most pages (set wear here (one_more (get_or wear here 0))) page in
    let now = worn_one wear here page in
    omega arith

one_few : (same : Bool) (times count : ℕ) → times ≤ count → cond same 1 0 + times ≤ count + 1
one_few true _ _ h = omega arith
one_few false _ _ h = omega arith

pub times_few : (pages : List ℕ) (page : ℕ) → times page pages ≤ length pages
times_few [] _ = omega arith
times_few (here ∷ pages) page =
    let rest = one_few (eqb here page) (times page pages) (length pages) (times_few pages page) in
    omega arith

-- ---- wears of devices

pub wears_none : (old new : Device) → new.wear ≡ old.wear → Wears [] old new
wears_none old _ same = search All-nil

-- an erase of a page that was begun
pub page_wears : (page : ℕ) (old new : Device) → page < length old.wear
    → new.wear ≡ (with_page_erased page old).wear → Wears (page ∷ []) old new
page_wears _ _ _ h wear = search (All-cons, All-nil)

-- so is an erase that was cut with the power on
pub cut_page_wears : (page : ℕ) (old new : Device) → page < length old.wear
    → IsCutIn (Erase page) old new ⊎ IsUntouched old new → IsOn old → Wears (page ∷ []) old new
cut_page_wears page old new h (inl cut) _ = page_wears page old new h cut.wear
cut_page_wears _ _ _ h (inr untouched) on = absurd (true≢false (sym on ∙ untouched.was_off))

pub wears_both : (pages more : List ℕ) (old mid new : Device) → Wears pages old mid
    → Wears more mid new → Wears (pages ++ more) old new
wears_both pages more old _ _ first second =
    record {
      there =
          All-append (λ page. page < length old.wear) _ _ first.there
          (subst (λ n. All (λ page. page < n) more)
          (ap length first.wear_is ∙ length-worn_by pages old.wear) second.there);
      wear_is = search (rules, worn_by-append);
    }

-- what wears nothing more
pub wears_still : (pages : List ℕ) (old mid new : Device) → Wears pages old mid
    → new.wear ≡ mid.wear → Wears pages old new
wears_still _ _ _ _ wears same = search rules

-- ---- so many erases

pub wears_rise : (pages : List ℕ) (erases : ℕ) (old new : Device) → Wears pages old new
    → length pages ≡ erases → WearRises erases old new
wears_rise pages _ _ _ wears count = search rules

pub no_wear : (old new : Device) → new.wear ≡ old.wear → WearRises 0 old new
no_wear old new same = wears_rise [] 0 old new (wears_none old new same) refl

pub wear_adds : (a b : ℕ) (old mid new : Device) → WearRises a old mid → WearRises b mid new
    → WearRises (a + b) old new
wear_adds a b old mid new first second = record {
  pages = first.pages ++ second.pages;
  count = omega (arith, length-append first.pages second.pages);
  wears = search wears_both;
}

-- In all, wear rose by as many as were erased, where no page of the device now was erased as
-- often as can be counted.
pub total_rises : (erases : ℕ) (old new : Device) → WearRises erases old new → CountsWear new
    → CountsWear old × (total_wear_of new ≡ total_wear_of old + erases)
total_rises _ old _ rises counts =
    let all =
    all_count rises.pages old.wear rises.wears.there
    (subst IsCounted rises.wears.wear_is counts) in
    let total = ap sum rises.wears.wear_is in
    (all.0, omega arith)
