use Rattle.std.proofs.Common.{◌≡◌, ◌<◌, ◌++◌, ◌/◌, ◌%◌, None, length, refl, rules, arith}
use Rattle.ee_shell.proofs.dumps.intel_hex.Written.{all_written_so, one_row_more, row_fits, text_left}
use Rattle.ee_shell.proofs.dumps.intel_hex.writing.push_rows.Goals as goal

pub loop-rest-preserved : goal.loop-rest-preserved
loop-rest-preserved g c =
    let some : 0 < length c.loop-rest.rest.now = first_of (omega arith, search rules) in
    record {
      text = one_row_more c.loop-rest.out.items c.push_upper.new.out.items
          c.push_record.new.out.items
          (c.args.out.now.items ++ text_left None c.args.from c.args.bytes.now)
          c.loop-rest.rest.now c.split_at.result.0.now c.split_at.result.1.now
          c.loop-rest.told c.loop-rest.place (c.loop-rest.place / 65536) (c.loop-rest.place % 65536)
          c.row_size.result some c.loop-rest.invariant.text refl refl c.row_size.ensures
          c.split_at.ensures.front
          c.split_at.ensures.back c.in_ok-push_upper.ensures c.in_ok-push_record.ensures;
      place =
          omega
          (arith, row_fits c.loop-rest.place (length c.loop-rest.rest.now), c.row_size.ensures);
    }

pub returns : goal.returns
returns g c =
    let none : length c.loop-rest.rest.now ≡ 0 = first_of (omega arith, search rules) in
    all_written_so c.loop-rest.out.items c.loop-rest.rest.now
    (c.args.out.now.items ++ text_left None c.args.from c.args.bytes.now)
    c.loop-rest.told c.loop-rest.place c.loop-rest.invariant.text none
