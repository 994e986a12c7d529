-- Turns one after another, and what they come to.
use Rattle.std.proofs.Common.{◌≡◌, ℕ, ◌+◌, ◌<◌, ◌++◌, Bool, Option, Some, None, List, [], ◌∷◌, length, take, get_or, refl, rules}
use Rattle.std.specs.List.{filter_map}
use Rattle.std.proofs.lemmas.List.{map-append, take_more}
use Rattle.std.proofs.lemmas.List.Elements.{filter_map-append}
use Rattle.ee_flash.specs.Device.{Device}
use Rattle.ee_core.specs.Points.{Point, closed_point}
use Rattle.ee_store.specs.PowerCuts.Events.{AreTold, AreTurns, IsTurn, Turn}
use Rattle.ee_store.specs.declared.power_cuts.event.Answer.{Answer}
use Rattle.ee_store.specs.declared.power_cuts.event.Event.{Event}

-- from this device these events came to this point, with these answers and kept entries
pub record HasMet (start : Device) (events : List Event) (log : List Answer) (kept : List Bool)
    (point : Point) : Type 0 where
  pub turns : List Turn
  pub told : AreTold turns events log kept
  pub turns_are : AreTurns turns (closed_point start) point

one_more_turn : (turns : List Turn) (turn : Turn) (old between new : Point)
    → AreTurns turns old between → IsTurn turn between new → AreTurns (turns ++ turn ∷ []) old new
one_more_turn [] turn old between new same last = search rules
one_more_turn (_ ∷ turns) turn _ between new run last =
    (run.0, run.1, one_more_turn turns turn run.0 between new run.2 last)

-- what is noted of a turn
abbrev pub noted_of : Option Bool → List Bool
noted_of None = []
noted_of (Some found) = found ∷ []

note_found : (event : Event) (answer : Answer) (found : Option Bool)
    → filter_map (λ (one : Turn). one.found)
    (record { event = event; answer = answer; found = found } ∷ [])
    ≡ noted_of found
note_found _ _ None = refl
note_found _ _ (Some _) = refl

one_noted : (turn : Turn) → filter_map (λ (one : Turn). one.found) (turn ∷ []) ≡ noted_of turn.found
one_noted turn = note_found turn.event turn.answer turn.found

pub one_met : (start : Device) (events : List Event) (log : List Answer) (kept : List Bool)
    (point next : Point) (turn : Turn)
    → HasMet start events log kept point → IsTurn turn point next
    → HasMet start (events ++ turn.event ∷ []) (log ++ turn.answer ∷ [])
    (kept ++ noted_of turn.found) next
one_met start events log kept point next turn met last = record {
  turns = met.turns ++ turn ∷ [];
  told = search (rules, map-append, filter_map-append, one_noted);
  turns_are = search (rules, one_more_turn);
}

-- what the next event of the list comes to
pub next_met : (start : Device) (events : List Event) (i : ℕ) (event : Event)
    (log new_log : List Answer) (kept new_kept : List Bool) (answer : Answer)
    (found : Option Bool) (point next : Point)
    → HasMet start (take i events) log kept point → i < length events
    → event ≡ get_or events i event
    → IsTurn (record { event = event; answer = answer; found = found }) point next
    → new_log ≡ log ++ answer ∷ [] → new_kept ≡ kept ++ noted_of found
    → HasMet start (take (i + 1) events) new_log new_kept next
next_met start events i event log new_log kept new_kept answer found point next met within is turn
    log_is kept_is =
    let more : take (i + 1) events ≡ take i events ++ event ∷ [] = search (rules, take_more) in
    rw (more, log_is, kept_is)
    (one_met start (take i events) log kept point next
    (record { event = event; answer = answer; found = found }) met turn)
