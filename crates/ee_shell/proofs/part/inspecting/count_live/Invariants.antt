use Rattle.std.proofs.Common.{◌≡◌, ◌≤◌}
use Rattle.ee_pages.specs.Meaning.{live_in}
use Rattle.ee_shell.specs.Part.Inspecting.{live_slots}
use Rattle.ee_shell.proofs.PartLemmas.Counting.{settled}
use Rattle.ee_shell.proofs.part.inspecting.count_live.Given as goal

-- those of the slots so far that are the last to speak of an address, and give it a value, are
-- counted
abbrev pub invariant-slots : goal.invariant-slots
invariant-slots g l = record {
  few : l.count ≤ l.slot;
  counted : l.count ≡ live_in (settled (live_slots (g.F.Flash.device l.flash) l.layout) l.slot);
}
