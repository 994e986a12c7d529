use Rattle.ee_shell.proofs.dumps.intel_hex.Answered.{was_good, was_named, was_no_reading, was_only}
use Rattle.ee_shell.proofs.dumps.intel_hex.reading.read_hex.Goals as goal

pub returns-in-Err-clause-only : goal.returns-in-Err-clause-only
returns-in-Err-clause-only g c =
    was_no_reading c.args.text.now c.args.base c.args.length c.in_ok-reader.reader.base
    c.in_ok-reader.reader.upper c.in-Err.number c.in_ok-reader.reader.cells.items
    c.in_ok-reader.ensures.base c.in_ok-reader.ensures.upper
    c.in_ok-reader.ensures.cells c.in-Err.ensures.bad

pub returns-in-Err-clause-names : goal.returns-in-Err-clause-names
returns-in-Err-clause-names g c =
    was_named c.args.text.now c.args.base c.args.length c.in_ok-reader.reader.base
    c.in_ok-reader.reader.upper c.in-Err.number c.in_ok-reader.reader.cells.items
    c.in_ok-reader.ensures.base c.in_ok-reader.ensures.upper
    c.in_ok-reader.ensures.cells c.in-Err.ensures.bad

pub returns-clause-only : goal.returns-clause-only
returns-clause-only g c =
    was_only c.args.text.now c.in_ok-to_bytes.field-0.items c.args.base c.args.length
    c.in_ok-reader.reader.base c.in_ok-reader.reader.upper c.in_ok-reader.reader.cells.items
    c.read_lines.new.reader.cells.items
    c.in_ok-reader.ensures.base c.in_ok-reader.ensures.upper c.in_ok-reader.ensures.cells
    c.in_default.ensures.read c.in_ok-to_bytes.ensures

pub returns-clause-names : goal.returns-clause-names
returns-clause-names g c =
    was_good c.args.text.now c.in_ok-to_bytes.field-0.items c.args.base c.args.length
    c.in_ok-reader.reader.base c.in_ok-reader.reader.upper c.in_ok-reader.reader.cells.items
    c.read_lines.new.reader.cells.items
    c.in_ok-reader.ensures.base c.in_ok-reader.ensures.upper c.in_ok-reader.ensures.cells
    c.in_default.ensures.read c.in_ok-to_bytes.ensures
