use Rattle.std.proofs.Common.{rules, arith, sym, ◌∙◌}
use Rattle.ee_commands.proofs.Traces.{all_read, bad_line, goes_on, line_is_longer, nothing_left, nothing_read, one_line_more, some_left}
use Rattle.ee_commands.proofs.planning.read_trace.Goals as goal

pub lines-init : goal.lines-init
lines-init g c = record {
  read =
      nothing_read c.args.script.now c.new-trace.result.items c.new-trace.ensures.items;
  counted = omega arith;
}

pub overflow_add-line : goal.overflow_add-line
overflow_add-line g c =
    let some = some_left c.lines.rest.now (sym c.lines-test.true ∙ c.is_empty.ensures) in
    omega arith

pub returns-in_default-clause-fault : goal.returns-in_default-clause-fault
returns-in_default-clause-fault g c =
    bad_line c.args.script.now c.lines.rest.now c.lines.trace.items c.lines.line _
    c.lines.invariant.read (omega arith)
    (goes_on c.lines.rest.now (sym c.lines-test.true ∙ c.is_empty.ensures))
    c.in_default.ensures.none

pub lines-smaller : goal.lines-smaller
lines-smaller g c =
    let longer =
    line_is_longer c.lines.rest.now c.in-Some.more.now c.in-Some.command
    c.in-Some.ensures.found.1 in
    omega arith

pub lines-preserved : goal.lines-preserved
lines-preserved g c = search (rules, line_is_longer, one_line_more)

pub returns-clause-trace : goal.returns-clause-trace
returns-clause-trace g c =
    all_read c.args.script.now c.lines.rest.now c.lines.trace.items c.lines.line
    c.lines.invariant.read
    (nothing_left c.lines.rest.now (sym c.lines-test.false ∙ c.is_empty.ensures))
