use Rattle.std.proofs.Common.{◌≡◌, take}
use Rattle.ee_shell.specs.Dumps.intel_hex.Reading.{bytes_of}
use Rattle.ee_shell.proofs.dumps.intel_hex.reading.fill.Given as goal

-- the places so far
abbrev pub invariant-loop-at : goal.invariant-loop-at
invariant-loop-at l = take l.at l.bytes ≡ bytes_of (take l.at l.cells)
