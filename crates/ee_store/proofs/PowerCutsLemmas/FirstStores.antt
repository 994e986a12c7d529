-- What is kept of the changes that events ask for on a device on which no value was ever stored.
use Rattle.std.proofs.Common.{◌≡◌, ◌⊎◌, inl, inr, Bool, false, Option, List, [], ◌∷◌, refl, sym, ap, subst, ◌∙◌, rules}
use Rattle.ee_flash.specs.Device.{Device}
use Rattle.ee_pages.specs.Legal.{IsLegal}
use Rattle.ee_pages.specs.Meaning.{Change, Map, changed_by}
use Rattle.ee_core.proofs.Public.{changed_by-append, legal_stays, startable_on}
use Rattle.ee_core.specs.Points.{Point, closed_point, with_power_on}
use Rattle.ee_core.specs.Starts.{IsStartable, IsStarting}
use Rattle.ee_core.specs.State.{State, formatted_state, state_of}
use Rattle.ee_core.specs.declared.opening.OpenFault.TheVariants as opening
use Rattle.ee_store.proofs.PowerCutsLemmas.KeptChanges.{no_answered_change_is_lost_lem}
use Rattle.ee_store.specs.PowerCuts.Events.{AreTurns, Happens, Idles, Reopens, StartsUp, Turn, serves_after}
use Rattle.ee_store.specs.PowerCuts.Outcome.{AreValuesFrom, IsValueIn, WasKept, WasKeptFromNone, kept_by, kept_changes}
use Rattle.ee_store.specs.declared.power_cuts.event.Answer.{Answer}
use Rattle.ee_store.specs.declared.power_cuts.event.Answer.TheVariants.{NotOpened, Off, Opened}
use Rattle.ee_store.specs.declared.power_cuts.event.Event.{Event}
use Rattle.ee_store.specs.declared.power_cuts.event.Event.TheVariants.{Clean, Clear, Forget, Get, Put, PutAll, Reopen, Start}

-- it can still be started, and no store is open on it, or is a store with nothing in it
abbrev pub Stands : Bool → Device → Type 0
Stands serving device =
    (IsStartable device × (serving ≡ false))
    ⊎ (IsLegal device × ((state_of device).map ≡ formatted_state.map))

-- what a turn keeps there, where no store is open: nothing
pub record KeepsNone (event : Event) (answer : Answer) (found : Option Bool) (new : Device)
    : Type 0 where
  pub none : kept_by event answer found ≡ []
  pub value : IsValueIn formatted_state.map event answer
  pub stands : Stands (serves_after false answer) new

starting_stands : (device : Device) → IsStarting device → Stands false device
starting_stands _ (inl startable) = inl (startable, refl)
starting_stands _ (inr new) = inr (new.legal, ap (λ (state : State). state.map) new.state_is)

not_legal : (device : Device) → IsStartable device → ¬ IsLegal (with_power_on device)
not_legal device startable legal =
    legal_stays (with_power_on device) legal (startable_on device startable)

idles : (event : Event) (answer : Answer) (found : Option Bool) (old new : Device)
    → IsStartable old → Idles answer old new → kept_by event Off found ≡ []
    → IsValueIn formatted_state.map event Off → KeepsNone event answer found new
idles event Off found old new startable same none value = record {
  none = none;
  value = value;
  stands = inl (subst IsStartable (sym same) startable, refl);
}
idles _ _ _ _ _ _ wrong _ _ = absurd wrong

reopens : (answer : Answer) (found : Option Bool) (old new : Device) → IsStartable old
    → Reopens answer old new → KeepsNone Reopen answer found new
reopens Opened _ old _ startable opens = absurd (not_legal old startable opens.legal)
reopens (NotOpened opening.Cut) _ old _ startable cut =
    absurd (not_legal old startable cut.was_legal)
reopens (NotOpened (opening.Scan fault)) found old new startable fails = record {
  none = refl;
  value = tt;
  stands = inl (subst IsStartable (sym fails.1) (startable_on old startable), refl);
}
reopens _ _ _ _ _ wrong = absurd wrong

starts : (answer : Answer) (found : Option Bool) (old new : Device) → IsStartable old
    → StartsUp answer old new → KeepsNone Start answer found new
starts Opened found old new startable (inl first) = record {
  none = refl;
  value = tt;
  stands = inr (first.1.store.legal, ap (λ (state : State). state.map) first.1.state_is);
}
starts Opened _ old _ startable (inr opens) = absurd (not_legal old startable opens.legal)
starts (NotOpened opening.Cut) found old new startable (inl cut) =
    record { none = refl; value = tt; stands = starting_stands new cut.starting }
starts (NotOpened opening.Cut) _ old _ startable (inr cut) =
    absurd (not_legal old startable cut.was_legal)
starts (NotOpened (opening.Scan fault)) _ old _ startable fails =
    absurd (fails.0 (startable_on old startable))
starts _ _ _ _ _ wrong = absurd wrong

pub first : (event : Event) (answer : Answer) (found : Option Bool) (old new : Device)
    → IsStartable old → Happens false event answer old new → KeepsNone event answer found new
first Reopen answer found old new startable happens =
    reopens answer found old new startable happens
first Start answer found old new startable happens = starts answer found old new startable happens
first (Put address value) answer found old new startable idle =
    idles (Put address value) answer found old new startable idle refl tt
first (PutAll puts) answer found old new startable idle =
    idles (PutAll puts) answer found old new startable idle refl tt
first (Forget address) answer found old new startable idle =
    idles (Forget address) answer found old new startable idle refl tt
first (Get address) answer found old new startable idle =
    idles (Get address) answer found old new startable idle refl tt
first Clear answer found old new startable idle =
    idles Clear answer found old new startable idle refl tt
first Clean answer found old new startable idle =
    idles Clean answer found old new startable idle refl tt

-- ---- turns one after another

-- where the first turn kept nothing, what the others keep is what all keep
none_before : (turn : Turn) (turns : List Turn) (map : Map)
    → kept_by turn.event turn.answer turn.found ≡ []
    → changed_by (kept_changes (turn ∷ turns)) map ≡ changed_by (kept_changes turns) map
none_before turn turns map none =
    changed_by-append (kept_by turn.event turn.answer turn.found) (kept_changes turns) map
    ∙ ap (λ (kept : List Change). changed_by (kept_changes turns) (changed_by kept map)) none

values_behind : (kept : List Change) (map : Map) (turns : List Turn) → kept ≡ []
    → AreValuesFrom map turns → AreValuesFrom (changed_by kept map) turns
values_behind kept map turns none values =
    subst (λ (before : List Change). AreValuesFrom (changed_by before map) turns) (sym none) values

-- a store with nothing in it, once there is one
with_none : (turns : List Turn) (old new : Device) → (state_of old).map ≡ formatted_state.map
    → WasKept turns old new → WasKeptFromNone turns new
with_none turns old new empty kept = record {
  values = subst (λ (map : Map). AreValuesFrom map turns) empty kept.values;
  stands = inr (
    kept.legal,
    kept.map_is ∙ ap (λ (map : Map). changed_by (kept_changes turns) map) empty,
  );
}

after_first : (turn : Turn) (turns : List Turn) (new : Device)
    → kept_by turn.event turn.answer turn.found ≡ []
    → IsValueIn formatted_state.map turn.event turn.answer → WasKeptFromNone turns new
    → WasKeptFromNone (turn ∷ turns) new
after_first turn turns new none value kept = record {
  values = (
    value,
    values_behind (kept_by turn.event turn.answer turn.found) formatted_state.map turns none
        kept.values,
  );
  stands = elim kept.stands [
    | inl startable ↦ inl (startable.0, search (rules, none, startable.1))
    | inr legal ↦ inr (legal.0, legal.1 ∙ sym (none_before turn turns formatted_state.map none))
  ];
}

-- the point is one on which no store is open
closed : (point : Point) → point.serving ≡ false → point ≡ closed_point point.device
closed point not_serving = search rules

pub none_is_lost_from_none_lem : (turns : List Turn) (old : Device) (new : Point)
    → AreTurns turns (closed_point old) new → IsStartable old → WasKeptFromNone turns new.device
none_is_lost_from_none_lem [] old new same startable = record {
  values = tt;
  stands = inl (subst (λ (point : Point). IsStartable point.device) (sym same) startable, refl);
}
none_is_lost_from_none_lem (turn ∷ turns) old new run startable =
    let one = first turn.event turn.answer turn.found old run.0.device startable run.1.happens in
    after_first turn turns new.device one.none one.value
    (elim one.stands [
      | inl still ↦
          let shut = closed run.0 (run.1.serving_is ∙ still.1) in
          none_is_lost_from_none_lem turns run.0.device new
          (subst (λ (point : Point). AreTurns turns point new) shut run.2) still.0
      | inr legal ↦
          with_none turns run.0.device new.device legal.1
          (no_answered_change_is_lost_lem turns run.0 new run.2 legal.0)
    ])
