use Rattle.ee_core.proofs.Words.{◌≡◌, ℕ, ◌<◌, ◌+◌, ◌-◌, true}
use Rattle.ee_core.proofs.Sets.{is_marked, first_page, other, Valid}
use Rattle.ee_core.proofs.Calls.{IsSameSet, Stays, IsDrawn, picture_of}
use Rattle.ee_core.proofs.Drawings.{valid_to}
use Rattle.std.specs.List.{flat_map, range_with_len}
use Rattle.ee_core.specs.StepLists.{steps_to_mark}
use Rattle.ee_flash.specs.Taking.{Completes}
use Rattle.ee_core.proofs.marking.mark_live_set.Given as goal

abbrev pub invariant-pages : goal.invariant-pages
invariant-pages g l =
    let old = g.F.Flash.device l.fn.flash in
    let now = g.F.Flash.device l.flash in
    record {
      stays : Stays old now l.layout.side l.layout.generation;
      valid : (k : ℕ) → k < l.page - first_page old.size l.layout.side
          → is_marked now (first_page old.size l.layout.side + k) Valid ≡ true;
      drawn : IsDrawn l.layout.side now
          (valid_to (l.page - l.first) (picture_of l.layout.side old));
      other : IsSameSet (other l.layout.side) old now;
      steps : Completes
          (flat_map (steps_to_mark old Valid) (range_with_len l.first (l.page - l.first))) old now;
    }
