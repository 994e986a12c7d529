-- The values of a map, gathered by rising address.
use Rattle.std.proofs.Common.{◌≡◌, ◌∙◌, ℕ, Bool, cond, Some, None, List, [], ◌∷◌, refl, ap, arith, nat_cmp, rules}
use Rattle.std.proofs.lemmas.Grind.{common_steps}
use Rattle.std.proofs.Math.Path.{fun_ext}
use Rattle.std.proofs.lemmas.Bool.{cases_eq, cases_lt}
use Rattle.std.specs.BTreeMap.{BTreeMap, Updates, get}
use Rattle.ee_flash.specs.Device.{Device}
use Rattle.ee_pages.specs.Meaning.{Map, Put, map_after}
use Rattle.ee_pages.specs.LiveOrder.{AreLiveThrough, AreNextLive, IsNextLive, IsNoneLive, last_of}
use Rattle.ee_pages.proofs.Public.{put_there}
use Rattle.ee_core.specs.CallSteps.{map_to}
use Rattle.ee_core.specs.State.{state_of}
use Rattle.ee_settings.proofs.Addresses.{at_is}
use Rattle.ee_settings.proofs.Proper.{none_outside}
use Rattle.ee_settings.proofs.Readings.{changed_elsewhere}
use Rattle.ee_settings.specs.Stale.{with_found}
use Rattle.ee_core.proofs.Public.{map_to-below, map_to-above}

pub put_one : (old new : BTreeMap ℕ ℕ) (address value : ℕ)
    → Updates nat_cmp old new address (Some value)
    → get nat_cmp new ≡ map_after (Put address value) (get nat_cmp old)
put_one old new address value updates =
    fun_ext
    (λ q. updates.0 q
    ∙ ap (λ (b : Bool). cond b (Some value) (get nat_cmp old q)) (at_is address q))

one_further : (map : Map) (last next value : ℕ) → IsNextLive map last (Some (next, value))
    → (address : ℕ) → map_after (Put next value) (map_to map last) address ≡ map_to map next address
one_further map last next value is address = grind (
  arith,
  common_steps,
  cases_eq,
  cases_lt,
  changed_elsewhere,
  map_to-above,
  map_to-below,
  put_there,
)

pub batch_put : (map : Map) (found : List (ℕ × ℕ)) (last : ℕ) → AreNextLive map last found
    → with_found found (map_to map last) ≡ map_to map (last_of last found)
batch_put map [] last next = refl
batch_put map (first ∷ more) last next =
    search (rules, fun_ext, one_further, (batch_put map more first.0 next.1))

-- where no more have a value up to an address
none_further : (map : Map) (last through : ℕ) → IsNoneLive map last (Some through) → (address : ℕ)
    → map_to map last address ≡ map_to map through address
none_further map last through none address = search (rules, cases_lt, map_to-above, map_to-below)

none_at_all : (map : Map) (last : ℕ) → IsNoneLive map last None → (address : ℕ)
    → map_to map last address ≡ map address
none_at_all map last none address = search (rules, cases_lt, map_to-above, map_to-below)

pub put_through : (map : Map) (found : List (ℕ × ℕ)) (last through : ℕ)
    → AreLiveThrough map last found (Some through)
    → with_found found (map_to map last) ≡ map_to map through
put_through map found last through live =
    batch_put map found last live.next
    ∙ fun_ext (none_further map (last_of last found) through live.rest)

pub put_all : (map : Map) (found : List (ℕ × ℕ)) (last : ℕ) → AreLiveThrough map last found None
    → with_found found (map_to map last) ≡ map
put_all map found last live =
    batch_put map found last live.next ∙ fun_ext (none_at_all map (last_of last found) live.rest)

none_first : (device : Device) (address : ℕ) → None ≡ map_to (state_of device).map 0 address
none_first device address = search (rules, cases_eq, map_to-above, map_to-below, none_outside)

-- at first there is none
pub none_yet : (device : Device) → (λ (address : ℕ). None) ≡ map_to (state_of device).map 0
none_yet device = fun_ext (none_first device)
