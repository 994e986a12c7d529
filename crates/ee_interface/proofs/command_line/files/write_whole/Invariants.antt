use Rattle.std.proofs.Common.{◌-◌, ◌≤◌, length, take}
use Rattle.std.specs.Io.KnownBytes.{Appends}
use Rattle.ee_interface.proofs.command_line.files.write_whole.Given as goal

-- the writer gained exactly the front that was written
abbrev pub invariant-writing : goal.invariant-writing
invariant-writing g l = record {
  gone : Appends (g.W.Write.contents l.fn.writer)
      (g.W.Write.contents l.writer) (take l.written l.bytes);
  within : l.written ≤ length l.bytes;
}

abbrev pub decreases-writing : goal.decreases-writing
decreases-writing g l = length l.bytes - l.written
