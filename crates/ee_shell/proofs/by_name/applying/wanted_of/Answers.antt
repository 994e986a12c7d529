use Rattle.std.proofs.Common.{◌∙◌, rules, sym, to_z-of_z, w64}
use Rattle.toml.specs.View.{view}
use Rattle.ee_shell.proofs.ByNameLemmas.Steps.{bad_value, is_wanted, unknown_value, value_out_of_range}
use Rattle.ee_shell.proofs.by_name.applying.wanted_of.Goals as goal

pub returns-in-None-clause-fault : goal.returns-in-None-clause-fault
returns-in-None-clause-fault g c =
    bad_value c.args.schema.now.settings c.args.entry c.args.name.now (view c.args.value.now)
    (sym c.as_integer.ensures ∙ c.in-None.is)

pub returns-in-None-find-clause-fault : goal.returns-in-None-find-clause-fault
returns-in-None-find-clause-fault g c =
    unknown_value c.args.schema.now.settings c.args.entry c.args.name.now (view c.args.value.now)
    c.in-Some.value (sym c.as_integer.ensures ∙ c.in-Some.is) c.in-None-find.ensures.none

pub returns-in-None-in_range-clause-fault : goal.returns-in-None-in_range-clause-fault
returns-in-None-in_range-clause-fault g c =
    let same = to_z-of_z {w = w64} {z = c.in-Some.value} (search rules) in
    value_out_of_range c.args.schema.now.settings c.args.entry c.args.name.now (view c.args.value.now)
    c.in-Some.value c.in-Some-find.numbers (sym c.as_integer.ensures ∙ c.in-Some.is)
    c.in-Some-find.ensures.found
    (λ value within. rw same at (c.in-None-in_range.ensures.none value within.0 within.1))

pub returns-in-Some-in_range-clause-wanted : goal.returns-in-Some-in_range-clause-wanted
returns-in-Some-in_range-clause-wanted g c =
    let same = to_z-of_z {w = w64} {z = c.in-Some.value} (search rules) in
    let found = rw same at c.in-Some-in_range.ensures.found in
    is_wanted c.args.schema.now.settings c.args.name.now (view c.args.value.now) c.in-Some.value
    c.in-Some-find.numbers c.in-Some-in_range.value (sym c.as_integer.ensures ∙ c.in-Some.is)
    c.in-Some-find.ensures.found (found.0, (found.1, found.2))
