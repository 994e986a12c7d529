use Rattle.std.proofs.Common.{◌≡◌, take}
use Rattle.ee_pages.specs.Page.{is_torn}
use Rattle.ee_shell.specs.Part.Inspecting.{live_slots, up_to_last}
use Rattle.ee_shell.proofs.part.inspecting.last_torn.Given as goal

-- the last torn one of the slots so far
abbrev pub invariant-slots : goal.invariant-slots
invariant-slots g l =
    l.last ≡ up_to_last is_torn (take l.slot (live_slots (g.F.Flash.device l.flash) l.layout))
