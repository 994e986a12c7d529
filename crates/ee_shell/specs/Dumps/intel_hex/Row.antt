-- A record as the reader holds it.
use Rattle.ee_shell.specs.Dumps.intel_hex.Record.{Record}
use Rattle.ee_shell.specs.declared.dumps.intel_hex.record.Row.{Row}

-- without where its bytes lie
abbrev pub view : Row → Record
view row = record { address = row.address; kind = row.kind; bytes = row.bytes.now }
