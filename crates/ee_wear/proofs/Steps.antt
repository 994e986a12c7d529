-- What a step does to the wear.
use Rattle.std.proofs.Common.{◌≡◌, ◌⊎◌, inl, inr, ℕ, ◌+◌, ◌<◌, ◌≤◌, List, length, get_or, set, refl, ap, arith}
use Rattle.std.specs.List.{sum}
use Rattle.std.proofs.lemmas.Bool.{cases_eq}
use Rattle.std.proofs.lemmas.List.{get_or-set_same, get_or-set_other, length-set}
use Rattle.std.proofs.lemmas.List.Sums.{sum_by-set}
use Rattle.ee_flash.specs.Device.{Device, IsOn, all_ones, wear_at}
use Rattle.ee_flash.specs.Laws.{IsStep}
use Rattle.ee_flash.specs.Step.{Step, Program, Erase, MayFollow, device_after, one_more}
use Rattle.ee_flash.proofs.Public.{wear_is}
use Rattle.ee_wear.specs.Since.{NoneFell}

NoneFell-same : (old new : List ℕ) → new ≡ old → NoneFell old new
NoneFell-same old new is = rw is record { as_many = refl; each = λ k below. omega arith }

NoneFell-set : (old new : List ℕ) (page more : ℕ) → page < length old → get_or old page 0 ≤ more
    → new ≡ set old page more → NoneFell old new
NoneFell-set old new page more within grown is = rw is record {
  as_many = length-set old page more;
  each = λ k below. elim (cases_eq k page) [
    | inl here ↦ rw here (omega (arith, get_or-set_same old page more 0 within))
    | inr there ↦ omega (arith, get_or-set_other old page k more 0 there)
  ];
}

wear_stays : (step : Step) (old new : Device) → IsStep step old new
    → (new.wear ≡ old.wear) ⊎ (new.wear ≡ (device_after step old).wear) → NoneFell old.wear new.wear
wear_stays step old new taken (inl same) = NoneFell-same old.wear new.wear same
wear_stays (Program page at value) old new taken (inr same) = NoneFell-same old.wear new.wear same
wear_stays (Erase page) old new taken (inr more) =
    let within : page < length old.wear = omega (arith, taken.formed.wear_length, taken.may) in
    let fits : wear_at old page ≤ all_ones = taken.formed.wear_fits page 0 within in
    NoneFell-set old.wear new.wear page (one_more (wear_at old page)) within (omega (arith, fits))
    more

pub no_wear_falls : (step : Step) (old new : Device) → IsStep step old new
    → NoneFell old.wear new.wear
no_wear_falls step old new taken =
    wear_stays step old new taken (wear_is step old new taken.follows)

pub programs_wear_nothing : (page at value : ℕ) (old new : Device)
    → IsStep (Program page at value) old new → sum new.wear ≡ sum old.wear
programs_wear_nothing page at value old new taken =
    elim (wear_is (Program page at value) old new taken.follows) [
      | inl same ↦ ap sum same
      | inr same ↦ ap sum same
    ]

one_more-set : (old new : List ℕ) (page : ℕ) → page < length old → get_or old page 0 < all_ones
    → new ≡ set old page (one_more (get_or old page 0)) → sum new ≡ sum old + 1
one_more-set old new page within below is =
    let raised = sum_by-set (λ n. n) old page (one_more (get_or old page 0)) 0 within in
    rw is (omega (arith, raised))

wear_of_erase : (page : ℕ) (old new : Device) → MayFollow (Erase page) old new → IsOn old
    → new.wear ≡ (device_after (Erase page) old).wear
wear_of_erase page old new (inl done) on = ap (λ (device : Device). device.wear) done.done
wear_of_erase page old new (inr (inl cut)) on = cut.wear
wear_of_erase page old new (inr (inr untouched)) on = cc

pub erases_wear_one : (page : ℕ) (old new : Device) → IsStep (Erase page) old new → IsOn old
    → get_or old.wear page 0 < all_ones → sum new.wear ≡ sum old.wear + 1
erases_wear_one page old new taken on below =
    one_more-set old.wear new.wear page (omega (arith, taken.formed.wear_length, taken.may)) below
    (wear_of_erase page old new taken.follows on)
