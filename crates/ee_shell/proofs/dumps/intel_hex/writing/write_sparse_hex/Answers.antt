use Rattle.std.proofs.Common.{◌∙◌, [], arith, rules, sym}
use Rattle.ee_shell.proofs.dumps.intel_hex.Sparse.{sparse_erased, sparse_held, sparse_left, sparse_written}
use Rattle.ee_shell.proofs.dumps.intel_hex.writing.write_sparse_hex.Goals as goal

pub loop-met-preserved-then-is_erased : goal.loop-met-preserved-then-is_erased
loop-met-preserved-then-is_erased g c = record {
  text = sparse_erased c.args.size c.loop-met.place c.loop-met.met c.min.result c.loop-met.rest.now
      c.split_at.result.0.now c.split_at.result.1.now c.split_at-in-loop-met.result.0.now
      c.split_at-in-loop-met.result.1.now c.requires.some c.loop-met-test.true
      c.split_at.ensures.front c.split_at.ensures.back (search rules)
      c.split_at-in-loop-met.ensures.front c.split_at-in-loop-met.ensures.back
      c.loop-met.out.items c.push_rows.new.out.items
      (sparse_left c.args.size c.args.base [] c.args.bytes.now)
      (sym c.is_erased.ensures ∙ c.if-is_erased.true) c.loop-met.invariant.text
      c.in_ok-push_rows.ensures;
  within = omega arith;
  place = omega (
    arith,
    c.loop-met.invariant.place,
    c.split_at.ensures.back_len,
    c.split_at-in-loop-met.ensures.front_len,
    c.split_at-in-loop-met.ensures.back_len,
    c.min.ensures,
    c.loop-met-test.true,
  );
}

pub loop-met-preserved : goal.loop-met-preserved
loop-met-preserved g c = record {
  text = sparse_held c.args.size c.loop-met.place c.loop-met.met c.min.result c.loop-met.rest.now
      c.split_at.result.0.now c.split_at.result.1.now c.split_at-in-loop-met.result.0.now
      c.split_at-in-loop-met.result.1.now c.requires.some c.loop-met-test.true
      c.split_at.ensures.front c.split_at.ensures.back (search rules)
      c.split_at-in-loop-met.ensures.front c.split_at-in-loop-met.ensures.back
      c.loop-met.out.items (sparse_left c.args.size c.args.base [] c.args.bytes.now)
      (sym c.is_erased.ensures ∙ c.if-is_erased.false) c.loop-met.invariant.text;
  within = omega (
    arith,
    c.split_at.ensures.back_len,
    c.split_at-in-loop-met.ensures.front_len,
    c.min.ensures,
    c.loop-met-test.true,
  );
  place = c.loop-met.invariant.place;
}

pub returns : goal.returns
returns g c =
    sparse_written c.args.size c.args.base c.loop-met.place c.loop-met.met c.loop-met.rest.now
    c.args.bytes.now c.loop-met.out.items c.push_rows-2.new.out.items c.push_record.new.out.items
    (omega arith) c.loop-met.invariant.text c.in_ok-push_rows-2.ensures c.in_ok-push_record.ensures
