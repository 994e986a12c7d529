use Rattle.std.proofs.lemmas.Bool.Decides.{Decides-eqb}
use Rattle.std.proofs.lemmas.Slice.Eq.{strip_prefix_is}
use Rattle.ee_check.proofs.Fields.{some_part, none_part}
use Rattle.ee_check.proofs.reading.behind.Goals as goal

pub returns-clause-found : goal.returns-clause-found
returns-clause-found c =
    some_part c.strip_prefix.result _ _
    (strip_prefix_is Decides-eqb c.args.text.now c.args.name.now c.strip_prefix.result
    c.strip_prefix.ensures.cases)

pub returns-clause-none : goal.returns-clause-none
returns-clause-none c =
    none_part c.strip_prefix.result _ _
    (strip_prefix_is Decides-eqb c.args.text.now c.args.name.now c.strip_prefix.result
    c.strip_prefix.ensures.cases)
