-- What each call adds to the pages that were erased or wait to be.
use Rattle.std.proofs.Common.{◌≡◌, ◌∙◌, ◌+◌, ◌-◌, ℕ, List, [], ◌∷◌, length, ap, refl, arith, rules}
use Rattle.ee_flash.specs.Device.{Device}
use Rattle.ee_pages.specs.Meaning.{Change}
use Rattle.ee_core.specs.Calls.{ErasesOne}
use Rattle.ee_core.specs.Changes.{Appends, Moves}
use Rattle.ee_core.specs.State.{State, WearRises, Wears, pending_pages, state_of, worn_by}
use Rattle.ee_core.proofs.Public.{length-pending_pages, no_wear, wear_adds, wears_rise}
use Rattle.ee_image_store.specs.Erases.{ErasesRise}

pub by_wear : (old new : Device) → state_of new ≡ state_of old → WearRises 0 old new
    → ErasesRise 0 old new
by_wear old new same wear = search rules

pub as_before : (old new : Device) → new ≡ old → ErasesRise 0 old new
as_before old new same =
    by_wear old new (ap state_of same) (no_wear old new (ap (λ (d : Device). d.wear) same))

pub by_append : (old : Device) (change : Change) (new : Device) → Appends old change new
    → ErasesRise 0 old new
by_append old change new appends = search (rules, no_wear)

pub by_move : (old : Device) (change : Change) (new : Device) → Moves old (change ∷ []) new
    → ErasesRise old.size.pages old new
by_move old change new moves =
    let pending : (state_of new).pending ≡ old.size.pages =
    ap (λ (s : State). s.pending) moves.state_is in
    record {
      erased = (state_of old).pending;
      wear = wears_rise (pending_pages old) (state_of old).pending old new moves.wear
          (length-pending_pages old);
      rise = omega (arith, pending);
    }

pub by_clean : (old new : Device) → ErasesOne old new → ErasesRise 0 old new
by_clean old new one =
    let pending : (state_of new).pending ≡ (state_of old).pending - 1 =
    ap (λ (s : State). s.pending) one.state_is in
    record {
      erased = 1;
      wear = wears_rise (one.lowest.page ∷ []) 1 old new one.lowest.wear refl;
      rise = omega (arith, pending, one.some);
    }

-- one call after another
pub both : (old mid new : Device) (first second all : ℕ) → ErasesRise first old mid
    → ErasesRise second mid new → all ≡ first + second → ErasesRise all old new
both old mid new first second all before after e = record {
  erased = before.erased + after.erased;
  wear = wear_adds before.erased after.erased old mid new before.wear after.wear;
  rise = omega (arith, after.rise, before.rise, e);
}

-- a device of which nothing was erased
worn_by-none : (pages wear : List ℕ) → length pages ≡ 0 → worn_by pages wear ≡ wear
worn_by-none [] wear e = refl
worn_by-none (page ∷ pages) wear e = absurd (omega (arith, e))

pub unworn : (old new : Device) → WearRises 0 old new → new.wear ≡ old.wear
unworn old new rises = rises.wears.wear_is ∙ worn_by-none rises.pages old.wear rises.count

-- the wear that came since a device is what came since one with the same wear
pub wear_since : (old other new : Device) (erases : ℕ) → old.wear ≡ other.wear
    → WearRises erases old new → WearRises erases other new
wear_since old other new erases same rises = search rules

-- the same of the pages by name
pub pages_since : (old other new : Device) (pages : List ℕ) → other.wear ≡ old.wear
    → Wears pages other new → Wears pages old new
pages_since old other new pages same wears = search rules
