-- Lists of counts: those of a device, and their differences.
use Rattle.std.specs.Prelude.{◌≡◌, ◌≤◌, ℕ, suc, ◌+◌, ◌-◌, List, [], ◌∷◌, map}
use Rattle.std.specs.List.{range_with_len, sum}
use Rattle.std.proofs.Common.{arith, refl, sym}
use Rattle.std.proofs.lemmas.List.FromFn.{fill_by_all}
use Rattle.std.proofs.lemmas.List.Sums.{sum_by-cons}
use Rattle.ee_flash.specs.Size.{page_count}
use Rattle.ee_flash.specs.Device.{Device, IsFormed, wear_at}
use Rattle.ee_wear.specs.Counts.{IsLedger}
use Rattle.ee_wear.specs.Since.{NoneFell, differences}

-- the wear of each page, read one by one
pub wear_read : (device : Device) → IsFormed device
    → map (wear_at device) (range_with_len 0 (page_count device.size)) ≡ device.wear
wear_read device formed =
    sym
    (fill_by_all (wear_at device) device.wear (page_count device.size) 0 formed.wear_length
    (λ k h. refl))

pub IsLedger-wear : (device : Device) → IsFormed device → IsLedger device.wear
IsLedger-wear device formed = record {
  some_pages = omega (arith, formed.wear_length, formed.within_limits.some_pages);
  few_pages = omega (arith, formed.wear_length, formed.within_limits.few_pages);
  fits = formed.wear_fits;
}

tails : (x y : ℕ) (before now : List ℕ) → NoneFell (x ∷ before) (y ∷ now) → NoneFell before now
tails x y before now h =
    record { as_many = omega (arith, h.as_many); each = λ k below. h.each (suc k) (omega arith) }

pub sum-differences : (before now : List ℕ) → NoneFell before now
    → sum before + sum (differences before now) ≡ sum now
sum-differences [] [] h = refl
sum-differences [] (y ∷ now) h = omega (arith, h.as_many)
sum-differences (x ∷ before) [] h = omega (arith, h.as_many)
sum-differences (x ∷ before) (y ∷ now) h =
    let rest = sum-differences before now (tails x y before now h) in
    let grown : x ≤ y = h.each 0 (omega arith) in
    let old = sum_by-cons (λ n. n) x before in
    let new = sum_by-cons (λ n. n) y now in
    let more = sum_by-cons (λ n. n) (y - x) (differences before now) in
    omega (arith, rest, grown, old, new, more)
