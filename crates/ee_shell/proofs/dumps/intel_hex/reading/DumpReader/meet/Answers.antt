use Rattle.std.proofs.Common.{◌≡◌, Some, take}
use Rattle.ee_shell.specs.Dumps.intel_hex.Reading.{record_of}
use Rattle.ee_shell.specs.Dumps.intel_hex.Row.{view}
use Rattle.ee_shell.proofs.dumps.intel_hex.Parsing.{one_row}
use Rattle.ee_shell.proofs.dumps.intel_hex.reading.DumpReader.meet.Goals as goal

pub returns-in-Some-row_of-clause-step : goal.returns-in-Some-row_of-clause-step
returns-in-Some-row_of-clause-step g c =
    let found : Some (view c.in-Some-row_of.row)
    ≡ record_of (take c.in-Some.count c.bytes_of_line.new.buffer) =
    c.in-Some-row_of.ensures in
    one_row c.args.self.now.base c.args.self.now.upper c.meet_row.new.self.upper
    c.args.self.now.cells.items c.meet_row.new.self.cells.items c.args.line.now
    c.without_return.result.now
    (take c.in-Some.count c.bytes_of_line.new.buffer) (view c.in-Some-row_of.row) c.meet_row.result
    c.without_return.ensures c.in-Some.ensures.found.1 found c.meet_row.ensures.step
