use Rattle.std.proofs.Common.{◌≤◌, vec_len}
use Rattle.std.specs.Io.KnownBytes.{Consumes}
use Rattle.ee_interface.proofs.command_line.files.read_whole.Given as goal

-- the reader lost exactly the bytes that are kept, and they aren't too many
abbrev pub invariant-reading : goal.invariant-reading
invariant-reading g l = record {
  taken : Consumes (g.R.Read.remaining l.fn.reader)
      (g.R.Read.remaining l.reader) l.bytes.items;
  few : vec_len l.bytes ≤ 16777216;
}
