use Rattle.std.proofs.Common.{◌≡◌, ◌+◌, ◌-◌, arith, drop, rules, inl}
use Rattle.std.proofs.lemmas.Result.{err_from_is_err_and}
use Rattle.ee_shell.specs.Xcube.Values.{HoldsValues, latest}
use Rattle.ee_shell.proofs.XcubeLemmas.Taken.{holds_more, refused}
use Rattle.ee_shell.proofs.xcube.importing.take_all.Goals as goal

pub numbers-preserved : goal.numbers-preserved
numbers-preserved g c =
    let numbers = c.args.numbers.now in
    let n = c.numbers.index - 1 in
    let above : n + 1 ≡ c.numbers.index = omega arith in
    let so_far : HoldsValues c.args.store.now.size (latest (drop (n + 1) numbers)) c.numbers.store =
    rw above c.numbers.invariant in
    holds_more c.args.store.now.size numbers n c.numbers.store c.take.new.store (omega arith) so_far
    c.in_ok-take.ensures.taken

pub returns-in_err-take-clause-fault : goal.returns-in_err-take-clause-fault
returns-in_err-take-clause-fault g c =
    let numbers = c.args.numbers.now in
    let n = c.numbers.index - 1 in
    let above : n + 1 ≡ c.numbers.index = omega arith in
    let so_far : HoldsValues c.args.store.now.size (latest (drop (n + 1) numbers)) c.numbers.store =
    rw above c.numbers.invariant in
    let p = err_from_is_err_and c.from_residual.result c.from_residual.ensures.1 in
    rw p.1
    (rw p.2
    (refused c.args.store.now.size numbers n c.numbers.store c.in_err-take.field-0.0 (omega arith) so_far
    c.in_err-take.ensures.fault))
