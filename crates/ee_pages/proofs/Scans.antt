-- What a scan has found out makes its answer.
use Rattle.std.proofs.Common.{◌≡◌, ℕ, ◌+◌, ◌-◌, ◌<◌, ◌≤◌, Some, None, true, refl, sym, subst, ap, ◌∙◌, arith}
use Rattle.std.proofs.lemmas.Bool.{le-ltb, lt-ltb}
use Rattle.ee_flash.specs.Device.{Device, IsFormed}
use Rattle.ee_pages.specs.Layout.{IsFirstForeign, IsLayout, IsScanFault, IsUnformatted}
use Rattle.ee_pages.specs.Legal.{is_allowed_at}
use Rattle.ee_pages.specs.Sets.{committed_generation, first_page, front, greater_set, live_of, page_of_slot, set_of, slots_of}
use Rattle.ee_pages.specs.declared.find.ScanFault.TheVariants.{Foreign}
use Rattle.ee_pages.specs.declared.side.Side.{Side}
use Rattle.ee_pages.specs.declared.side.Side.TheVariants.{First, Second}
use Rattle.ee_pages.proofs.Legal.{fill-front}

same_page : (start page first : ℕ) → start ≡ first → page ≡ start + page - first
same_page start page first e = omega arith

pub foreign_fault : (device : Device) (side : Side) (generation start page at : ℕ)
    → (IsUnformatted device → ⊥) → live_of device ≡ Some (side, generation)
    → start ≡ first_page device.size side
    → IsFirstForeign device.size generation (set_of side device) page at
    → IsScanFault device (Foreign (start + page) at)
foreign_fault device side generation start page at formatted live e foreign = (
  formatted,
  (
    side,
    generation,
    live,
    omega arith,
    subst (λ k. IsFirstForeign device.size generation (set_of side device) k at)
        (same_page start page (first_page device.size side) e) foreign,
  ),
)

pub layout_found : (device : Device) (side : Side) (generation written current : ℕ)
    → IsFormed device → live_of device ≡ Some (side, generation)
    → written ≡ front (slots_of (set_of side device))
    → ((page at : ℕ) → page < device.size.pages → at < device.size.words
    → is_allowed_at device.size generation (set_of side device) page at ≡ true)
    → current ≡ first_page device.size side + page_of_slot device.size (written - 1)
    → IsLayout device
    (record { side = side; generation = generation; fill = written; current = current })
layout_found device side generation written current formed live e allowed place = record {
  live = record { formed = formed; live = live; allowed = allowed };
  fill = e ∙ fill-front side device generation formed allowed;
  current = place;
}

pub first_below : (device : Device) (side : Side) → first_page device.size side ≤ device.size.pages
first_below device First = omega arith
first_below device Second = omega arith

-- of two sets that are committed the one with the greater generation is live
module _ (device : Device) (first second : ℕ)
    (first_is : Some first ≡ committed_generation (set_of First device))
    (second_is : Some second ≡ committed_generation (set_of Second device)) where
  live_is : live_of device ≡ greater_set (Some first) (Some second)
  live_is =
      ap (λ found. greater_set found (committed_generation (set_of Second device))) (sym first_is)
      ∙ ap (greater_set (Some first)) (sym second_is)

  pub first_live : second < first → live_of device ≡ Some (First, first)
  first_live h = live_is ∙ rw (lt-ltb second first h) refl

  pub second_live : first < second → live_of device ≡ Some (Second, second)
  second_live h = live_is ∙ rw (le-ltb second first (omega arith), lt-ltb first second h) refl

  pub none_live : first ≡ second → live_of device ≡ None
  none_live e =
      live_is
      ∙ rw (le-ltb second first (omega (arith, e)), le-ltb first second (omega (arith, e))) refl
