use Rattle.std.proofs.Common.{inl}
use Rattle.toml.specs.View.{view}
use Rattle.ee_text.proofs.Public.{passed_on}
use Rattle.ee_shell.proofs.ByNameLemmas.Steps.{fault_refuses, taken_new, taken_stored, unwritten}
use Rattle.ee_shell.proofs.by_name.applying.take_entry.Goals as goal

pub returns-in_err-numbers-clause-refused : goal.returns-in_err-numbers-clause-refused
returns-in_err-numbers-clause-refused g c =
    passed_on _ _ _ c.from_residual.ensures.1
    (inl
    (fault_refuses c.args.schema.now.settings _ _ c.args.entry (c.args.name.now, view c.args.value.now) _
    c.in_err-numbers.ensures.fault))

pub returns-then-has_value-clause-taken : goal.returns-then-has_value-clause-taken
returns-then-has_value-clause-taken g c =
    let asked = c.in_ok-numbers.field-0 in
    let stored = rw c.if-has_value.true at c.has_value.ensures.stored in
    taken_stored c.args.schema.now.settings c.args.store.now (c.args.name.now, view c.args.value.now)
    asked.numbers asked.value
    c.in_ok-numbers.ensures.wanted stored

pub returns-clause-taken : goal.returns-clause-taken
returns-clause-taken g c =
    let asked = c.in_ok-numbers.field-0 in
    let another = rw c.if-has_value.false at c.has_value.ensures.another in
    taken_new c.args.schema.now.settings c.args.store.now _ (c.args.name.now, view c.args.value.now)
    asked.numbers asked.value
    c.in_ok-write_on.field-0 c.requires c.in_ok-numbers.ensures.wanted another
    c.in_ok-write_on.ensures.written

pub returns-in_err-write_on-clause-refused : goal.returns-in_err-write_on-clause-refused
returns-in_err-write_on-clause-refused g c =
    let asked = c.in_ok-numbers.field-0 in
    let another = rw c.if-has_value.false at c.has_value.ensures.another in
    passed_on _ _ _ c.from_residual-in_err-write_on.ensures.1
    (unwritten c.args.schema.now.settings c.args.store.now c.args.entry
    (c.args.name.now, view c.args.value.now) asked.numbers
    asked.value _ c.in_ok-numbers.ensures.wanted another
    c.in_err-write_on.ensures.refused)
