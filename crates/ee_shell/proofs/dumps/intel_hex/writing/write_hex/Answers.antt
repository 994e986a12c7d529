use Rattle.std.proofs.Common.{◌≡◌, ◌++◌, ◌∙◌, ap, None, List, ℕ}
use Rattle.ee_shell.proofs.dumps.intel_hex.Written.{text_left, text_written}
use Rattle.ee_shell.proofs.dumps.intel_hex.writing.write_hex.Goals as goal

pub returns : goal.returns
returns g c =
    let rows_are : c.push_rows.new.out.items ≡ text_left None c.args.base c.args.bytes.now =
    c.in_ok-push_rows.ensures
    ∙ ap (λ (l : List ℕ). l ++ text_left None c.from.result c.args.bytes.now) c.new-out.ensures.items
    ∙ ap (λ (p : ℕ). text_left None p c.args.bytes.now) c.from.ensures in
    text_written c.args.base c.args.bytes.now c.push_rows.new.out.items c.push_record.new.out.items
    rows_are c.in_ok-push_record.ensures
