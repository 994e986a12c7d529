use Rattle.std.proofs.Common.{rules}
use Rattle.std.proofs.lemmas.List.{nil_from_length}
use Rattle.ee_interface.proofs.command_line.words.split_flag.Goals as goal

pub returns-in-None-clause-found : goal.returns-in-None-clause-found
returns-in-None-clause-found c =
    let none = nil_from_length c.in-Some.operands.now c.in-None.ensures.cases in
    search (rules, none)
