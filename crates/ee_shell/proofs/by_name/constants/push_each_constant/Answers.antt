use Rattle.std.proofs.Common.{string_bytes}
use Rattle.ee_shell.proofs.ByNameLemmas.Writing.{two_pieces}
use Rattle.ee_shell.proofs.by_name.constants.push_each_constant.Goals as goal

pub returns : goal.returns
returns g c =
    two_pieces c.push_records.result _ _ (string_bytes c.args.out.now) _ _
    c.in_ok-push_settings.ensures c.push_records.ensures
