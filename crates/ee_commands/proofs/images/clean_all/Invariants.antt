use Rattle.std.proofs.Common.{◌≡◌, ◌+◌, ◌-◌, ◌≤◌}
use Rattle.ee_core.specs.Runs.{IsWholeRun}
use Rattle.ee_core.specs.State.{state_of, with_pending}
use Rattle.ee_commands.proofs.Cleaning.{cleanings}
use Rattle.ee_commands.proofs.Fronts.{ErasesFront}
use Rattle.ee_image_store.specs.Opening.{StaysOn}
use Rattle.ee_commands.proofs.images.clean_all.Given as goal

-- so many pages were erased, and nothing else changed
abbrev pub invariant-cleaning : goal.invariant-cleaning
invariant-cleaning g l =
    let first = g.V.Variables.device l.fn.store in
    let now = g.V.Variables.device l.store in
    record {
      stays_on : StaysOn now;
      same_size : now.size ≡ first.size;
      within : l.erased ≤ l.waiting;
      waited : l.waiting ≡ (state_of first).pending;
      count : (state_of now).pending + l.erased ≡ l.waiting;
      kept : state_of now ≡ with_pending (state_of now).pending (state_of first);
      erased : ErasesFront first now;
      cleans : IsWholeRun (cleanings l.erased) first now;
    }

abbrev pub decreases-cleaning : goal.decreases-cleaning
decreases-cleaning g l = l.waiting - l.erased
