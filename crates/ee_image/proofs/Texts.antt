-- A text is one device's, or has one fault, and not both.
use Rattle.ee_image.specs.declared.fault.ImageFault.{ImageFault}
use Rattle.std.proofs.Common.{rules, ◌≡◌, ◌≢◌, ◌⊎◌, ℕ, ◌+◌, ◌<◌, ◌≤◌, List, [], ◌∷◌, ◌++◌, length, refl, sym, ap, ◌∙◌, subst, arith, inl, inr}
use Rattle.std.specs.List.{All}
use Rattle.std.proofs.lemmas.List.{append-nil}
use Rattle.std.proofs.lemmas.List.Elements.{All-head, All-tail}
use Rattle.ee_flash.specs.Size.{Size, IsWithinLimits, page_count}
use Rattle.ee_flash.specs.Device.{Device, IsBelowAllOnes, IsFormed, all_ones}
use Rattle.ee_flash.specs.declared.word.Word.{Word}
use Rattle.ee_image.specs.Text.{image_text, page_lines, at_rest, ArePages, IsNumbered}
use Rattle.ee_image.specs.Fault.{BeginsWithSize, NoPage, IsBadPage, IsFirstBadImageLine, HasBadShape, IsImageTextFault}
use Rattle.ee_image.specs.declared.fault.ImageFault.TheVariants.{TooLong, BadLine, BadShape, Memory}
use Rattle.ee_image.proofs.Fronts.{GoesOn, compare_fronts}
use Rattle.ee_image.proofs.Lengths.{length-image}
use Rattle.ee_image.proofs.Lines.{one_size}

pub numbered : (size : Size) → IsWithinLimits size → IsNumbered size
numbered size limits =
    record { pages = omega (arith, limits.few_pages); words = omega (arith, limits.few_words) }

ArePages-formed : (words : ℕ) (pages : List (List Word)) (wears : List ℕ)
    → length pages ≡ length wears → All (λ page. length page ≡ words) pages
    → All (All IsBelowAllOnes) pages → All (λ count. count ≤ all_ones) wears
    → ArePages words pages wears
ArePages-formed words [] [] same lengths below fits = tt
ArePages-formed words [] (wear ∷ wears) same lengths below fits = absurd (omega arith)
ArePages-formed words (page ∷ pages) [] same lengths below fits = absurd (omega arith)
ArePages-formed words (page ∷ pages) (wear ∷ wears) same lengths below fits =
    let as_long = All-head (λ (p : List Word). length p ≡ words) page pages lengths in
    let under = All-head (All IsBelowAllOnes) page pages below in
    let wear_fits = All-head (λ (count : ℕ). count ≤ all_ones) wear wears fits in
    let rest =
    ArePages-formed words pages wears (omega arith)
    (All-tail (λ (p : List Word). length p ≡ words) page pages lengths)
    (All-tail (All IsBelowAllOnes) page pages below)
    (All-tail (λ (count : ℕ). count ≤ all_ones) wear wears fits) in
    (record { wear_fits = wear_fits; as_long = as_long; below_all_ones = under }, rest)

pub formed_pages : (device : Device) → IsFormed device
    → ArePages device.size.words device.image device.wear
formed_pages device formed =
    ArePages-formed device.size.words device.image device.wear
    (formed.image_length ∙ sym formed.wear_length) formed.page_lengths formed.below_all_ones
    formed.wear_fits

pub begins : (device : Device) → IsFormed device
    → BeginsWithSize (image_text device) device.size (page_lines device.image device.wear)
begins device formed =
    record { numbered = numbered device.size formed.within_limits; text_is = refl }

pub short : (device : Device) → IsFormed device → length (image_text device) ≤ 4194304
short device formed =
    length-image device.size device.image device.wear (numbered device.size formed.within_limits)
    (formed_pages device formed) (formed.within_limits).few_words
    (omega (arith, formed.image_length, (formed.within_limits).few_pages))

-- ---- behind the first line

-- pages that are as many as needed have no bad line
no_bad_page : (size : Size) (pages : List (List Word)) (wears text : List ℕ) (n : ℕ)
    → ArePages size.words pages wears → length pages ≡ page_count size
    → text ≡ page_lines pages wears → IsBadPage size text n → ⊥
no_bad_page size pages wears text n proper many text_is bad =
    let e : page_lines pages wears ++ [] ≡ page_lines bad.pages bad.wears ++ bad.rest =
    append-nil (page_lines pages wears) ∙ sym text_is ∙ bad.text_is in
    elim (compare_fronts size.words pages bad.pages wears bad.wears [] bad.rest proper bad.proper e) [
      | inl same ↦
          let count : length pages ≡ length bad.pages = ap length same.pages_are in
          elim bad.stops [
            | inl early ↦ let h = early.0 in omega arith
            | inr late ↦ late.1 (sym same.rest_is)
          ]
      | inr (inl on) ↦
          let longer = on.longer in
          elim bad.stops [
            | inl early ↦ let h = early.0 in omega arith
            | inr late ↦ let h = late.0 in omega arith
          ]
      | inr (inr on) ↦
          let longer = on.longer in
          elim bad.stops [
            | inl early ↦ on.a_page early.1
            | inr late ↦ let h = late.0 in omega arith
          ]
    ]

-- where a row of pages breaks off too early, no other one goes on, nor stops so late
stops_there : (size : Size) (pages others : List (List Word)) (rest : List ℕ)
    → GoesOn size.words pages others rest → length others ≤ page_count size
    → ((length pages < page_count size) × NoPage size.words rest)
    ⊎ ((length pages ≡ page_count size) × (rest ≢ []))
    → ⊥
stops_there size pages others rest on few (inl early) = on.a_page early.1
stops_there size pages others rest on few (inr late) = let h = on.longer in
    let k = late.0 in omega arith

at_most : (size : Size) (text : List ℕ) (n : ℕ) (bad : IsBadPage size text n)
    → length bad.pages ≤ page_count size
at_most size text n bad = elim bad.stops [
  | inl early ↦ let h = early.0 in omega arith
  | inr late ↦ let h = late.0 in omega arith
]

-- there is one first bad line
one_bad_page : (size : Size) (text : List ℕ) (m n : ℕ) → IsBadPage size text m
    → IsBadPage size text n → m ≡ n
one_bad_page size text m n bad other =
    elim
    (compare_fronts size.words bad.pages other.pages bad.wears other.wears bad.rest other.rest
    bad.proper other.proper (sym bad.text_is ∙ other.text_is)) [
      | inl same ↦ bad.number ∙ ap (λ pages. length pages + 2) same.pages_are ∙ sym other.number
      | inr (inl on) ↦ absurd
          (stops_there size bad.pages other.pages bad.rest on (at_most size text n other) bad.stops)
      | inr (inr on) ↦ absurd
          (stops_there size other.pages bad.pages other.rest on (at_most size text m bad)
          other.stops)
    ]

-- the same, where size and rest are only equal
bad_page_at : (size other : Size) (rest more : List ℕ) (n : ℕ) → size ≡ other → rest ≡ more
    → IsBadPage size rest n → IsBadPage other more n
bad_page_at size other rest more n p q bad =
    subst (λ s. IsBadPage s more n) p (subst (λ r. IsBadPage size r n) q bad)

-- ---- the laws

good_line : (device : Device) (n : ℕ) → IsFormed device → IsFirstBadImageLine (image_text device) n
    → ⊥
good_line device n formed (inl none) =
    none.0 device.size (page_lines device.image device.wear) (begins device formed)
good_line device n formed (inr later) =
    let same =
    one_size (image_text device) later.size device.size later.rest
    (page_lines device.image device.wear) later.begins (begins device formed) in
    no_bad_page device.size device.image device.wear (page_lines device.image device.wear) n
    (formed_pages device formed) formed.image_length refl
    (bad_page_at later.size device.size later.rest (page_lines device.image device.wear) n same.0
    same.1 later.bad)

good_shape : (device : Device) → IsFormed device → HasBadShape (image_text device) → ⊥
good_shape device formed bad =
    let same =
    one_size (image_text device) bad.size device.size bad.rest
    (page_lines device.image device.wear) bad.begins (begins device formed) in
    bad.outside (subst IsWithinLimits (sym same.0) formed.within_limits)

pub texts_are_good_lem : (device : Device) (fault : ImageFault) → IsFormed device
    → IsImageTextFault (image_text device) fault → ⊥
texts_are_good_lem device TooLong formed long = omega (arith, short device formed)
texts_are_good_lem device (BadLine n) formed bad = good_line device n formed bad.1
texts_are_good_lem device BadShape formed bad = good_shape device formed bad.1
texts_are_good_lem device Memory formed wrong = wrong

one_line : (text : List ℕ) (m n : ℕ) → IsFirstBadImageLine text m → IsFirstBadImageLine text n
    → m ≡ n
one_line text m n (inl none) (inl none_either) = none.1 ∙ sym none_either.1
one_line text m n (inl none) (inr later) = absurd (none.0 later.size later.rest later.begins)
one_line text m n (inr later) (inl none) = absurd (none.0 later.size later.rest later.begins)
one_line text m n (inr later) (inr other) =
    let same =
    one_size text later.size other.size later.rest other.rest later.begins other.begins in
    one_bad_page other.size other.rest m n
    (bad_page_at later.size other.size later.rest other.rest m same.0 same.1 later.bad)
    other.bad

line_or_shape : (text : List ℕ) (n : ℕ) → IsFirstBadImageLine text n → HasBadShape text → ⊥
line_or_shape text n (inl none) bad = none.0 bad.size bad.rest bad.begins
line_or_shape text n (inr later) bad =
    let same = one_size text bad.size later.size bad.rest later.rest bad.begins later.begins in
    bad.outside (subst IsWithinLimits (sym same.0) later.within_limits)

pub one_fault_lem : (text : List ℕ) (fault other : ImageFault) → IsImageTextFault text fault
    → IsImageTextFault text other → fault ≡ other
one_fault_lem text TooLong TooLong bad other = refl
one_fault_lem text TooLong (BadLine n) bad other = absurd (let h = other.0 in omega arith)
one_fault_lem text TooLong BadShape bad other = absurd (let h = other.0 in omega arith)
one_fault_lem text (BadLine m) TooLong bad other = absurd (let h = bad.0 in omega arith)
one_fault_lem text (BadLine m) (BadLine n) bad other = ap BadLine (one_line text m n bad.1 other.1)
one_fault_lem text (BadLine m) BadShape bad other = absurd (line_or_shape text m bad.1 other.1)
one_fault_lem text BadShape TooLong bad other = absurd (let h = bad.0 in omega arith)
one_fault_lem text BadShape (BadLine n) bad other = absurd (line_or_shape text n other.1 bad.1)
one_fault_lem text BadShape BadShape bad other = refl
one_fault_lem text Memory other wrong bad = absurd wrong
one_fault_lem text TooLong Memory bad wrong = absurd wrong
one_fault_lem text (BadLine m) Memory bad wrong = absurd wrong
one_fault_lem text BadShape Memory bad wrong = absurd wrong

same_at_rest : (device other : Device) → device.size ≡ other.size → device.image ≡ other.image
    → device.wear ≡ other.wear → at_rest device ≡ at_rest other
same_at_rest device other size image wear = search rules

pub one_device_lem : (device other : Device) → IsFormed device → IsFormed other
    → image_text device ≡ image_text other → at_rest device ≡ at_rest other
one_device_lem device other formed right e =
    let sizes =
    one_size (image_text device) device.size other.size (page_lines device.image device.wear)
    (page_lines other.image other.wear) (begins device formed)
    (subst (λ text. BeginsWithSize text other.size (page_lines other.image other.wear)) (sym e)
    (begins other right)) in
    let words : device.size.words ≡ other.size.words = ap (λ (s : Size). s.words) sizes.0 in
    let many : page_count device.size ≡ page_count other.size = ap page_count sizes.0 in
    let counts : length device.image ≡ length other.image =
    formed.image_length ∙ many ∙ sym right.image_length in
    let pages =
    subst (λ w. ArePages w device.image device.wear) words (formed_pages device formed) in
    elim
    (compare_fronts other.size.words device.image other.image device.wear other.wear [] [] pages
    (formed_pages other right) (ap (λ l. l ++ []) sizes.1)) [
      | inl same ↦ same_at_rest device other sizes.0 same.pages_are same.wears_are
      | inr (inl on) ↦ absurd (let h = on.longer in omega arith)
      | inr (inr on) ↦ absurd (let h = on.longer in omega arith)
    ]
