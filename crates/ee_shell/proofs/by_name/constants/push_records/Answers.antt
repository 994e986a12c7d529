use Rattle.std.proofs.Common.{arith, string_bytes}
use Rattle.std.proofs.lemmas.Grind.{common_steps}
use Rattle.ee_shell.proofs.ByNameLemmas.Writing.{one_more}
use Rattle.ee_shell.specs.ByName.Header.{record_constants_in}
use Rattle.ee_shell.proofs.by_name.constants.push_records.Goals as goal

pub loop-one-preserved : goal.loop-one-preserved
loop-one-preserved g c =
    one_more (record_constants_in c.args.language) c.args.records.now c.loop-one.one-index
    c.one-item.result (string_bytes c.args.out.now) (string_bytes c.loop-one.out)
    (string_bytes c.push_record_constants.new.out) c.one-item.is
    c.loop-one-test.true c.loop-one.invariant c.in_ok-push_record_constants.ensures

pub returns : goal.returns
returns g c = grind (arith, common_steps)
