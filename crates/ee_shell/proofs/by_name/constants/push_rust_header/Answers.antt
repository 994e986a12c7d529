use Rattle.std.proofs.Common.{string_bytes}
use Rattle.ee_shell.proofs.ByNameLemmas.Writing.{five_pieces}
use Rattle.ee_shell.proofs.by_name.constants.push_rust_header.Goals as goal

pub returns : goal.returns
returns g c =
    let made =
    five_pieces c.push_str-2.result _ _ _ _ _ (string_bytes c.args.out.now) _ _ _ _ _
    c.in_ok-push_str.ensures.bytes c.in_ok-push_each_constant.ensures
    c.in_ok-push_rust_list_head.ensures c.in_ok-push_rows.ensures
    c.push_str-2.ensures.bytes in
    made
