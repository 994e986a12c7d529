-- Addresses forgotten one after another: how such runs join, and what they leave.
use Rattle.std.proofs.Common.{◌≡◌, ◌≢◌, ◌∙◌, ◌<◌, ℕ, false, arith, List, [], ◌∷◌, ◌++◌, Ok, Err, refl, sym, ap, subst, rules}
use Rattle.std.proofs.lemmas.Grind.{common_steps}
use Rattle.std.specs.List.{All}
use Rattle.std.proofs.lemmas.List.Elements.{All-head, All-tail}
use Rattle.ee_flash.specs.Device.{Device, IsOn}
use Rattle.ee_flash.specs.Power.{GoesOn}
use Rattle.ee_pages.specs.Meaning.{Forget, Map, map_after}
use Rattle.ee_pages.specs.LiveOrder.{AreNextLive}
use Rattle.ee_core.proofs.Public.{goes_on_both, goes_on_same, forget-other}
use Rattle.ee_core.specs.Calls.{Forgets}
use Rattle.ee_core.specs.State.{state_of}
use Rattle.ee_core.specs.declared.variables.ForgetFault.{ForgetFault}
use Rattle.ee_core.specs.declared.variables.Written.{Written}
use Rattle.ee_settings.specs.Setting.{Schema, is_named}
use Rattle.ee_settings.specs.Tidying.{ForgetsEach, Stops, StopsForgetting, unnamed_of}
use Rattle.ee_settings.specs.declared.fault.TidyFault.{TidyFault}

-- ---- one forgetting

pub map_without : (old new : Device) (address : ℕ) (written : Written)
    → Forgets old address (Ok written) new
    → (state_of new).map ≡ map_after (Forget address) (state_of old).map
map_without old new address written h1 = search rules

forgetting_goes_on : (old new : Device) (address : ℕ) (written : Written)
    → Forgets old address (Ok written) new → GoesOn old new
forgetting_goes_on old new address written h1 = search rules

-- ---- a run of them

pub each_later : (front more : List ℕ) (old mid new : Device) → ForgetsEach front old mid
    → ForgetsEach more mid new → ForgetsEach (front ++ more) old new
each_later [] more old mid new first second =
    subst (λ (device : Device). ForgetsEach more device new) first second
each_later (address ∷ front) more old mid new first second =
    search (rules, (each_later front more first.1 mid new first.3 second))

pub each_goes_on : (addresses : List ℕ) (old new : Device) → ForgetsEach addresses old new
    → GoesOn old new
each_goes_on [] old new done =
    subst (λ (device : Device). GoesOn old device) (sym done) (goes_on_same old)
each_goes_on (address ∷ addresses) old new done =
    search (rules, goes_on_both, forgetting_goes_on, (each_goes_on addresses done.1 new done.3))

pub each_stays_on : (addresses : List ℕ) (old new : Device) → IsOn old
    → ForgetsEach addresses old new → IsOn new
each_stays_on addresses old new on done = (each_goes_on addresses old new done).same_power ∙ on

-- an address that is none of them has what it had
pub each_keeps : (addresses : List ℕ) (old new : Device) (address : ℕ)
    → ForgetsEach addresses old new → All (λ one. one ≢ address) addresses
    → (state_of new).map address ≡ (state_of old).map address
each_keeps [] old new address done others =
    ap (λ (device : Device). (state_of device).map address) done
each_keeps (one ∷ addresses) old new address done others =
    each_keeps addresses done.1 new address done.3
    (All-tail (λ a. a ≢ address) one addresses others)
    ∙ (ap (λ (map : Map). map address) (map_without old done.1 one done.0 done.2)
    ∙ forget-other (state_of old).map one address
    (λ same. All-head (λ a. a ≢ address) one addresses others (sym same)))

-- ---- where one stops

pub stops_one : (schema : Schema) (address : ℕ) (fault : ForgetFault) (old new : Device)
    → is_named schema address ≡ false → Forgets old address (Err fault) new
    → StopsForgetting (unnamed_of schema address) fault old new
stops_one schema address fault old new free stopped = record {
  front = [];
  address = address;
  rest = [];
  addresses_are = rw free refl;
  last = old;
  forgotten = refl;
  stopped = stopped;
}

at_later : (front addresses rest : List ℕ) (fault : ForgetFault) (old mid new : Device)
    → ForgetsEach front old mid → StopsForgetting addresses fault mid new
    → StopsForgetting (front ++ (addresses ++ rest)) fault old new
at_later front addresses rest fault old mid new done stops = grind (arith, common_steps, each_later)

pub stops_later : (front addresses rest all : List ℕ) (fault : TidyFault) (old mid new : Device)
    → all ≡ front ++ (addresses ++ rest) → ForgetsEach front old mid → Stops addresses mid fault new
    → Stops all old fault new
stops_later front addresses rest all fault old mid new h1 h2 h3 = search (rules, at_later)

-- ---- live addresses above one that was looked at

pub still_next : (map other : Map) (above : ℕ) (found : List (ℕ × ℕ))
    → ((address : ℕ) → above < address → other address ≡ map address) → AreNextLive map above found
    → AreNextLive other above found
still_next map other above [] same next = tt
still_next map other above (first ∷ more) same next = search (
  rules,
  (still_next map other first.0 more (λ address high. same address (omega arith)) next.1),
)
