-- Which fault a line tells.
use Rattle.std.specs.Prelude.{◌≡◌, ℕ, List, not}
use Rattle.std.specs.List.{filter}
use Rattle.ee_text.specs.Line.{line_of}
use Rattle.ee_interface.specs.CommandLine.Operands.{is_decimal_digit}
use Rattle.ee_interface.specs.Fault.{fault_text}
use Rattle.ee_interface.specs.declared.fault.Fault.{Fault}

abbrev pub without_digits : List ℕ → List ℕ
without_digits text = filter (λ byte. not (is_decimal_digit byte)) text

-- what is left of a fault's line, whatever its numbers are
abbrev pub line_words : Fault → List ℕ
line_words fault = without_digits (fault_text fault)

-- the line, with no line feed, is this fault's, whatever the numbers in both
abbrev pub IsToldBy : Fault → List ℕ → Type 0
IsToldBy fault line = line_words fault ≡ without_digits (line_of line)
