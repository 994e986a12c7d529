use Rattle.std.proofs.Common.{◌≡◌, ◌+◌, ◌*◌, ◌++◌, List, ℕ, ap, sym, arith, rules, refl, take, set, length}
use Rattle.std.specs.Prelude.{OnOk, replicate}
use Rattle.std.proofs.lemmas.Result.{on_ok_weaker}
use Rattle.ee_shell.specs.Dumps.intel_hex.Record.{Record, front_bytes}
use Rattle.ee_shell.proofs.dumps.intel_hex.Written.{line_written}
use Rattle.ee_shell.proofs.dumps.intel_hex.writing.push_record.Goals as goal

pub returns : goal.returns
returns g c =
    let r : Record =
    record { address = c.args.address; kind = c.args.kind; bytes = c.args.bytes.now } in
    let whole : front_bytes r ≡ c.front_of-front.result ++ r.bytes =
    ap (λ (l : List ℕ). l ++ r.bytes) (sym c.front_of-front.ensures) in
    let end = 9 + 2 * length c.args.bytes.now in
    let more : OnOk c.extend_from_slice.result
    (c.extend_from_slice.new.self.items
    ≡ c.args.out.now.items ++ take (end + 3) (set c.put_digits-3.new.line (end + 2) 10)) =
    search rules in
    on_ok_weaker c.extend_from_slice.result
    (line_written r c.front_of-front.result (replicate 44 58) c.put_digits.new.line
    c.put_digits-2.new.line c.put_digits-3.new.line c.args.out.now.items
    c.extend_from_slice.new.self.items c.check_of.result
    whole c.check_of.ensures (ap length c.front_of-front.ensures) (omega arith) refl
    c.put_digits.ensures c.put_digits-2.ensures c.put_digits-3.ensures)
    more
