use Rattle.std.proofs.Common.{arith, string_bytes}
use Rattle.std.proofs.lemmas.Grind.{common_steps}
use Rattle.ee_shell.proofs.ByNameLemmas.Writing.{one_more}
use Rattle.ee_shell.specs.ByName.Header.{constants_in}
use Rattle.ee_shell.proofs.by_name.constants.push_settings.Goals as goal

pub loop-setting-preserved : goal.loop-setting-preserved
loop-setting-preserved g c =
    one_more (constants_in c.args.language) c.args.settings.now c.loop-setting.setting-index
    c.setting-item.result (string_bytes c.args.out.now) (string_bytes c.loop-setting.out)
    (string_bytes c.push_constants.new.out) c.setting-item.is
    c.loop-setting-test.true c.loop-setting.invariant c.in_ok-push_constants.ensures

pub returns : goal.returns
returns g c = grind (arith, common_steps)
