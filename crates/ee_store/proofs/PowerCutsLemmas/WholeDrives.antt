-- What was met is what a drive says.
use Rattle.std.proofs.Common.{◌≡◌, ℕ, ◌≤◌, Bool, List, length, take, subst, sym}
use Rattle.std.proofs.lemmas.List.{take_all}
use Rattle.ee_flash.specs.Device.{Device, IsFormed}
use Rattle.ee_core.specs.Points.{Point, closed_point}
use Rattle.ee_store.proofs.PowerCutsLemmas.Deciding.{decided}
use Rattle.ee_store.proofs.PowerCutsLemmas.KeptChanges.{no_answered_change_is_lost_lem, was_done}
use Rattle.ee_store.proofs.PowerCutsLemmas.FirstStores.{none_is_lost_from_none_lem}
use Rattle.ee_store.proofs.PowerCutsLemmas.TurnByTurn.{HasMet}
use Rattle.ee_store.specs.PowerCuts.Outcome.{Drives, WasKept, WasKeptFromNone}
use Rattle.ee_store.specs.declared.power_cuts.event.Answer.{Answer}
use Rattle.ee_store.specs.declared.power_cuts.event.Event.{Event}

all_met : (old new : Device) (events : List Event) (log : List Answer) (kept : List Bool)
    (end : Point)
    → IsFormed old → HasMet old events log kept end → new ≡ end.device
    → Drives old events log kept new
all_met old new events log kept end formed met same = record {
  turns = met.turns;
  told = met.told;
  by_fuse = decided met.turns old new events log kept end met.told met.turns_are same;
  done = was_done met.turns old new end met.turns_are (sym same) formed.cuts_fit;
  changes_kept = λ legal.
      subst (WasKept met.turns old) (sym same)
      (no_answered_change_is_lost_lem met.turns (closed_point old) end met.turns_are legal);
  from_none = λ startable.
      subst (WasKeptFromNone met.turns) (sym same)
      (none_is_lost_from_none_lem met.turns old end met.turns_are startable);
}

pub drives : (old new : Device) (events : List Event) (i : ℕ) (log : List Answer) (kept : List Bool)
    (end : Point)
    → IsFormed old → length events ≤ i → HasMet old (take i events) log kept end → new ≡ end.device
    → Drives old events log kept new
drives old new events i log kept end formed past met same =
    all_met old new events log kept end formed
    (subst (λ (l : List Event). HasMet old l log kept end) (take_all i events past) met) same
