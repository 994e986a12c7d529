use Rattle.std.proofs.Common.{take}
use Rattle.ee_shell.specs.Part.Inspecting.{AreSpoken, live_slots}
use Rattle.ee_shell.proofs.part.inspecting.last_spoken.Given as goal

-- the last of the slots so far that speaks of each address
abbrev pub invariant-slots : goal.invariant-slots
invariant-slots g l =
    AreSpoken (take l.slot (live_slots (g.F.Flash.device l.flash) l.layout)) l.spoken.items
