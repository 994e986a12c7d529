-- An image has one fault at most for which a scan finds nothing, and a legal image none.
use Rattle.std.proofs.Common.{rules, ◌≡◌, inl, inr, ℕ, ◌-◌, ◌≤◌, Bool, true, false, nat_lt, Option, Some, None, List, refl, sym, ap, ◌∙◌, subst, arith}
use Rattle.std.specs.List.{All}
use Rattle.std.proofs.lemmas.Bool.{cases_order}
use Rattle.std.proofs.lemmas.Grind.{common_steps}
use Rattle.std.proofs.lemmas.List.Elements.{All-drop, All-take}
use Rattle.ee_flash.specs.Device.{Device}
use Rattle.ee_flash.specs.Size.{Size}
use Rattle.ee_flash.specs.declared.word.Word.{Word}
use Rattle.ee_pages.specs.Layout.{IsFirstForeign, IsScanFault}
use Rattle.ee_pages.specs.Legal.{IsLegal, is_allowed_at}
use Rattle.ee_pages.specs.Page.{is_blank}
use Rattle.ee_pages.specs.Sets.{committed_generation, first_page, greater_set, live_of, set_of}
use Rattle.ee_pages.specs.declared.find.ScanFault.{ScanFault}
use Rattle.ee_pages.specs.declared.find.ScanFault.TheVariants.{Unformatted, NoLiveSet, TwoLive, Foreign}
use Rattle.ee_pages.specs.declared.side.Side.{Side}
use Rattle.ee_pages.specs.declared.side.Side.TheVariants.{First, Second}
use Rattle.ee_pages.proofs.BlankWords.{blank_set}

-- ---- a device with no live set

uncommitted : (pages : List (List Word)) → All (λ page. is_blank page ≡ true) pages
    → committed_generation pages ≡ None
uncommitted pages blank = rw (blank_set pages 0 1 blank) refl

pub none_live : (first second : Option ℕ) → first ≡ None → second ≡ None
    → greater_set first second ≡ None
none_live first second e f = rw e (rw f refl)

not_less : (n : ℕ) → nat_lt n n ≡ false
not_less n = grind (arith, common_steps)

two_live : (first second : Option ℕ) (generation : ℕ) → first ≡ Some generation
    → second ≡ Some generation → greater_set first second ≡ None
two_live first second generation e f = rw e (rw f (rw (not_less generation) refl))

-- but for a foreign word, what a scan finds wrong is that no set is live
abbrev IsSetFault : ScanFault → Type 0
IsSetFault (Foreign page at) = ⊥
IsSetFault fault = Unit {0}

no_live : (device : Device) (fault : ScanFault) → IsSetFault fault → IsScanFault device fault
    → live_of device ≡ None
no_live device Unformatted kind blank =
    none_live (committed_generation (set_of First device))
    (committed_generation (set_of Second device))
    (uncommitted (set_of First device)
    (All-take (λ page. is_blank page ≡ true) device.size.pages device.image blank))
    (uncommitted (set_of Second device)
    (All-drop (λ page. is_blank page ≡ true) device.size.pages device.image blank))
no_live device NoLiveSet kind none =
    none_live (committed_generation (set_of First device))
    (committed_generation (set_of Second device)) none.1 none.2
no_live device TwoLive kind both =
    two_live (committed_generation (set_of First device))
    (committed_generation (set_of Second device)) both.1.0 both.1.1 both.1.2
no_live device (Foreign page at) kind fault = absurd kind

-- ---- a scan's faults

some_live : (live : Option (Side × ℕ)) (found : Side × ℕ) → live ≡ None → live ≡ Some found → ⊥
some_live live found none some =
    let wrong : ◌≡◌ {A = Option (Side × ℕ)} None (Some found) = sym none ∙ some in cc wrong

-- where a word may not stand
record IsForeignIn (device : Device) (page at : ℕ) (side : Side) (generation : ℕ) : Type 0 where
  live : live_of device ≡ Some (side, generation)
  behind : first_page device.size side ≤ page
  first : IsFirstForeign device.size generation (set_of side device)
      (page - first_page device.size side) at

at_live : (device : Device) (page at : ℕ) (side : Side) (generation : ℕ) (other : Side)
    (greatest : ℕ)
    → live_of device ≡ Some (other, greatest) → IsForeignIn device page at side generation
    → IsForeignIn device page at other greatest
at_live device page at side generation other greatest live fault = search (rules, live)

both_ways : (allowed : Bool) → allowed ≡ true → allowed ≡ false → ⊥
both_ways allowed is isnt = let wrong : true ≡ false = sym is ∙ isnt in cc wrong

no_foreign : (device : Device) (page at : ℕ) → IsLegal device → IsScanFault device (Foreign page at)
    → ⊥
no_foreign device page at legal fault =
    let found = fault.1 in
    let same = at_live device page at found.0 found.1 legal.0 legal.1 legal.2.live
    (record { live = found.2; behind = found.3; first = found.4 }) in
    both_ways _
    (legal.2.allowed (page - first_page device.size legal.0) at same.first.page_in_range
    same.first.place_in_range) same.first.foreign

-- a legal image has no fault
pub legal_is_good : (device : Device) (fault : ScanFault) → IsLegal device
    → IsScanFault device fault → ⊥
legal_is_good device Unformatted legal fault =
    some_live (live_of device) _ (no_live device Unformatted tt fault) legal.2.live
legal_is_good device NoLiveSet legal fault =
    some_live (live_of device) _ (no_live device NoLiveSet tt fault) legal.2.live
legal_is_good device TwoLive legal fault =
    some_live (live_of device) _ (no_live device TwoLive tt fault) legal.2.live
legal_is_good device (Foreign page at) legal fault = no_foreign device page at legal fault

one_first : (size : Size) (generation : ℕ) (pages : List (List Word)) (page at other place : ℕ)
    → IsFirstForeign size generation pages page at
    → IsFirstForeign size generation pages other place → (page ≡ other) × (at ≡ place)
one_first size generation pages page at other place first second = elim (cases_order page other) [
  | inr (inl less) ↦ absurd
      (both_ways _ (second.pages_before page at less first.place_in_range) first.foreign)
  | inr (inr more) ↦ absurd
      (both_ways _ (first.pages_before other place more second.place_in_range) second.foreign)
  | inl same ↦ elim (cases_order at place) [
    | inl at_same ↦ (same, at_same)
    | inr (inl less) ↦ absurd
        (both_ways _ (second.places_before at less)
        (subst (λ p. is_allowed_at size generation pages p at ≡ false) same first.foreign))
    | inr (inr more) ↦ absurd
        (both_ways _ (first.places_before place more)
        (subst (λ p. is_allowed_at size generation pages p place ≡ false) (sym same)
        second.foreign))
  ]
]

one_foreign : (device : Device) (page at other place : ℕ) → IsScanFault device (Foreign page at)
    → IsScanFault device (Foreign other place) → Foreign page at ≡ Foreign other place
one_foreign device page at other place first second =
    let found = second.1 in
    let from = at_live device page at first.1.0 first.1.1 found.0 found.1 found.2
    (record { live = first.1.2; behind = first.1.3; first = first.1.4 }) in
    let same =
    one_first device.size found.1 (set_of found.0 device)
    (page - first_page device.size found.0) at (other - first_page device.size found.0)
    place from.first found.4 in
    let pages : page ≡ other = omega (arith, same.0, from.behind, found.3) in
    ap (λ p. Foreign p at) pages ∙ ap (λ a. Foreign other a) same.1

no_set_and_foreign : (device : Device) (fault : ScanFault) (page at : ℕ) → IsSetFault fault
    → IsScanFault device fault → IsScanFault device (Foreign page at) → ⊥
no_set_and_foreign device fault page at kind none foreign =
    some_live (live_of device) _ (no_live device fault kind none) foreign.1.2

some_none : (found : Option ℕ) (generation : ℕ) → found ≡ None → found ≡ Some generation → ⊥
some_none found generation none some =
    let wrong : ◌≡◌ {A = Option ℕ} None (Some generation) = sym none ∙ some in cc wrong

pub one_scan_fault : (device : Device) (fault other : ScanFault) → IsScanFault device fault
    → IsScanFault device other → fault ≡ other
one_scan_fault device Unformatted Unformatted h i = refl
one_scan_fault device Unformatted NoLiveSet h i = absurd (i.0 h)
one_scan_fault device Unformatted TwoLive h i = absurd (i.0 h)
one_scan_fault device Unformatted (Foreign page at) h i = absurd (i.0 h)
one_scan_fault device NoLiveSet Unformatted h i = absurd (h.0 i)
one_scan_fault device NoLiveSet NoLiveSet h i = refl
one_scan_fault device NoLiveSet TwoLive h i = absurd (some_none _ i.1.0 h.1 i.1.1)
one_scan_fault device NoLiveSet (Foreign page at) h i =
    absurd (no_set_and_foreign device NoLiveSet page at tt h i)
one_scan_fault device TwoLive Unformatted h i = absurd (h.0 i)
one_scan_fault device TwoLive NoLiveSet h i = absurd (some_none _ h.1.0 i.1 h.1.1)
one_scan_fault device TwoLive TwoLive h i = refl
one_scan_fault device TwoLive (Foreign page at) h i =
    absurd (no_set_and_foreign device TwoLive page at tt h i)
one_scan_fault device (Foreign page at) Unformatted h i = absurd (h.0 i)
one_scan_fault device (Foreign page at) NoLiveSet h i =
    absurd (no_set_and_foreign device NoLiveSet page at tt i h)
one_scan_fault device (Foreign page at) TwoLive h i =
    absurd (no_set_and_foreign device TwoLive page at tt i h)
one_scan_fault device (Foreign page at) (Foreign other place) h i =
    one_foreign device page at other place h i
