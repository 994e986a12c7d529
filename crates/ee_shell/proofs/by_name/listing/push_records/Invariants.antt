use Rattle.std.proofs.Common.{◌≡◌, ◌++◌, ℕ, List, take}
use Rattle.ee_core.specs.State.{state_of}
use Rattle.ee_shell.specs.ByName.Listing.{AreRecordLines}
use Rattle.ee_shell.proofs.by_name.listing.push_records.Given as goal

-- the lines so far are written
abbrev pub invariant-loop-one : goal.invariant-loop-one
invariant-loop-one g l =
    (lines : List ℕ) × AreRecordLines (state_of l.store).map (take l.one-index l.records) lines
    × (l.out.items ≡ l.fn.out.items ++ lines)
