use Rattle.std.proofs.Common.{◌≡◌, [], ap, arith, take, length-take}
use Rattle.std.proofs.KnownBytes.{Consumes-kept}
use Rattle.std.proofs.lemmas.Grind.{common_steps}
use Rattle.std.proofs.lemmas.Result.{err_from_is_err_and}
use Rattle.ee_interface.proofs.CommandLineLemmas.Streams.{read_all, read_too_long, took_more, took_none}
use Rattle.ee_interface.proofs.command_line.files.read_whole.Goals as goal
use Rattle.ee_interface.proofs.command_line.files.read_whole.Goals.{in-Ok-2+in_ok-extend_from_slice-in-Ok-2, in-Err}

pub returns-in-Ok-eq0-clause-whole : goal.returns-in-Ok-eq0-clause-whole
returns-in-Ok-eq0-clause-whole g c =
    let read = rw c.in-Ok-eq0.is at c.read.ensures.bytes in
    let none : take c.in-Ok-eq0.field-0 c.read.new.buf ≡ [] =
    ap (λ n. take n c.read.new.buf) c.in-Ok-eq0.field-0-test in
    read_all (g.R.Read.remaining c.args.reader.now) (g.R.Read.remaining c.reading.reader)
    (g.R.Read.remaining c.read.new.self) c.reading.bytes.items
    (take c.in-Ok-eq0.field-0 c.read.new.buf) c.reading.invariant.taken read.0 none
    (read.1 c.in-Ok-eq0.field-0-test (omega arith))

pub returns-in-Ok-eq0-clause-end : goal.returns-in-Ok-eq0-clause-end
returns-in-Ok-eq0-clause-end g c =
    let read = rw c.in-Ok-eq0.is at c.read.ensures.bytes in
    read.1 c.in-Ok-eq0.field-0-test (omega arith)

pub slice_bounds-chunk-end : goal.slice_bounds-chunk-end
slice_bounds-chunk-end g c = grind (arith, common_steps)

pub slice_bounds-extend_from_slice-end : goal.slice_bounds-extend_from_slice-end
slice_bounds-extend_from_slice-end g c = grind (arith, common_steps)

pub returns-in_err-extend_from_slice-in-Ok-2 : goal.returns-in_err-extend_from_slice-in-Ok-2
returns-in_err-extend_from_slice-in-Ok-2 g c =
    let p = err_from_is_err_and c.from_residual.result c.from_residual.ensures.1 in
    rw p.1
    (rw p.2
    (record { whole = tt; end = tt; short = tt; too_long = λ e. cc e; failed = λ e. cc e }))

pub returns-in-Err-2-clause-failed : goal.returns-in-Err-2-clause-failed
returns-in-Err-2-clause-failed g c = λ _. (
  c.reading.bytes.items,
  Consumes-kept (g.R.Read.remaining c.args.reader.now) (g.R.Read.remaining c.reading.reader)
      (g.R.Read.remaining c.read.new.self) c.reading.bytes.items
      c.reading.invariant.taken c.in-Err-2.ensures.bytes,
  omega (arith, c.reading.bytes.ok.0, c.reading.invariant.few),
)

pub returns-in-Ok-clause-too_long : goal.returns-in-Ok-clause-too_long
returns-in-Ok-clause-too_long g c = λ _.
    read_too_long (g.R.Read.remaining c.args.reader.now) (g.R.Read.remaining c.reading.reader)
    (g.R.Read.remaining c.read.new.self) c.reading.bytes.items
    (take c.in-Ok.count c.read.new.buf) 16777216 c.reading.invariant.taken c.in-Ok.ensures.bytes.0
    (omega (
      arith,
      length-take c.in-Ok.count c.read.new.buf,
      c.in-Ok.ensures.bound,
      c.len.ensures,
      c.if-count-len.true,
      c.reading.bytes.ok.0,
      c.reading.invariant.few,
    ))

pub reading-preserved : goal.reading-preserved
reading-preserved g c = elim c.match-read.branch [
  | in-Ok-2+in_ok-extend_from_slice-in-Ok-2 w ↦ record {
    taken =
        took_more (g.R.Read.remaining c.args.reader.now) (g.R.Read.remaining c.reading.reader)
        (g.R.Read.remaining c.read.new.self) c.reading.bytes.items
        (take w.in-Ok-2.count c.read.new.buf) c.match-read.bytes.items c.reading.invariant.taken
        w.in-Ok-2.ensures.bytes.0 (grind (arith, common_steps));
    few = grind (arith, common_steps);
  }
  | in-Err w ↦ record {
    taken =
        took_none (g.R.Read.remaining c.args.reader.now) (g.R.Read.remaining c.reading.reader)
        (g.R.Read.remaining c.read.new.self) c.reading.bytes.items
        c.match-read.bytes.items c.reading.invariant.taken w.in-Err.ensures.bytes
        (ap (λ bytes. bytes.items) w.bytes-is);
    few = grind (arith, common_steps);
  }
]
