use Rattle.std.proofs.Common.{List, ℕ, arith, rules}
use Rattle.std.specs.List.{AllByRecursion}
use Rattle.ee_text.specs.Field.{joined_fields}
use Rattle.ee_text.specs.Line.{IsLine}
use Rattle.ee_text.proofs.Joining.{Lacks-joined}
use Rattle.ee_text.proofs.laws.fields_make_a_line.Goals as goal

in_a_line : (fields : List (List ℕ)) → AllByRecursion IsLine fields → IsLine (joined_fields fields)
in_a_line = Lacks-joined 10 (omega arith)

pub returns : goal.returns
returns c = search (rules, in_a_line)
