use Rattle.std.proofs.Common.{◌≡◌, ◌+◌, drop}
use Rattle.ee_shell.specs.Dumps.intel_hex.Text.{numbered_bytes}
use Rattle.ee_shell.specs.Dumps.intel_hex.Reading.{put_all}
use Rattle.ee_shell.proofs.dumps.intel_hex.reading.DumpReader.put_bytes.Given as goal

-- the bytes that are left come to what all bytes come to
abbrev pub invariant-loop-at : goal.invariant-loop-at
invariant-loop-at g l = record {
  base : l.self.base ≡ l.fn.self.base;
  upper : l.self.upper ≡ l.fn.self.upper;
  left : put_all l.fn.self.base (numbered_bytes (l.place + l.at) (drop l.at l.bytes))
      l.self.cells.items
      ≡ put_all l.fn.self.base (numbered_bytes l.place l.bytes) l.fn.self.cells.items;
}
