use Rattle.std.proofs.Common.{◌≡◌, ◌≤◌, length, take, vec_capacity, vec_len}
use Rattle.ee_store.proofs.PowerCutsLemmas.TurnByTurn.{HasMet}
use Rattle.ee_store.specs.PowerCuts.Bench.{point_of_bench}
use Rattle.ee_store.proofs.power_cuts.driving.drive.Given as goal

abbrev pub invariant-events : goal.invariant-events
invariant-events g l = record {
  met : HasMet (g.F.Flash.device l.fn.flash) (take l.event-index l.events) l.log.items l.kept.items
      (point_of_bench g.F.Flash.device l.bench);
  answered : vec_len l.log ≡ l.event-index;
  room : length l.events ≤ vec_capacity l.log;
  few : vec_len l.kept ≤ l.event-index;
  room_kept : length l.events ≤ vec_capacity l.kept;
}
