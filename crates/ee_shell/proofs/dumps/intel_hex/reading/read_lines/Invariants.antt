use Rattle.std.proofs.Common.{◌≡◌, ◌+◌, ◌≤◌, length}
use Rattle.ee_shell.specs.Dumps.intel_hex.Reading.{cells_of_lines, lines_in}
use Rattle.ee_shell.proofs.dumps.intel_hex.reading.read_lines.Given as goal

-- the lines that are left come to what all lines come to
abbrev pub invariant-loop-line : goal.invariant-loop-line
invariant-loop-line g l = record {
  left : cells_of_lines l.reader.base l.number l.reader.upper l.reader.cells.items (lines_in l.rest)
      ≡ cells_of_lines l.fn.reader.base 1 l.fn.reader.upper l.fn.reader.cells.items
      (lines_in l.fn.text);
  number : l.number + length l.rest ≤ 1 + length l.fn.text;
}

abbrev pub decreases-loop-line : goal.decreases-loop-line
decreases-loop-line g l = length l.rest
