use Rattle.std.proofs.Common.{List, ℕ, rules, inr}
use Rattle.std.proofs.lemmas.Result.{err_from_is_err_and}
use Rattle.ee_flash.specs.Memory.{device_of}
use Rattle.ee_commands.proofs.Rescued.{is_rescued_image, is_spelled, rescue_memory}
use Rattle.ee_commands.proofs.rescuing.rescue_image.Goals as goal

pub returns-clause-rescued : goal.returns-clause-rescued
returns-clause-rescued g c =
    let image = c.args.image.now in
    let device = device_of c.in-Ok.flash in
    let made =
    λ (new_image text : List ℕ). is_rescued_image image new_image c.new-text.result.items
    c.push_bad.new.out.items text device c.in_ok-store.store c.in_ok-store.rescued
    (is_spelled image c.in-Ok.flash c.in-Ok.ensures.found) c.in_ok-store.ensures.rescued in
    made _ _ (search rules) (search rules) (search rules) (search rules)

pub returns-in_err-push_bad-clause-fault : goal.returns-in_err-push_bad-clause-fault
returns-in_err-push_bad-clause-fault g c =
    let p = err_from_is_err_and c.from_residual.result c.from_residual.ensures.1 in
    rw p.1
    (rw p.2
    (rescue_memory c.args.image.now (device_of c.in-Ok.flash)
    (is_spelled c.args.image.now c.in-Ok.flash c.in-Ok.ensures.found)))

pub returns-in_err-store-clause-fault : goal.returns-in_err-store-clause-fault
returns-in_err-store-clause-fault g c =
    let p =
    err_from_is_err_and c.from_residual-in_err-store.result
    c.from_residual-in_err-store.ensures.1 in
    rw p.1
    (rw p.2
    (inr (
      device_of c.in-Ok.flash,
      is_spelled c.args.image.now c.in-Ok.flash c.in-Ok.ensures.found,
      c.in_err-store.ensures.fault,
    )))

pub returns-in_err-push_rescued-clause-fault : goal.returns-in_err-push_rescued-clause-fault
returns-in_err-push_rescued-clause-fault g c =
    let p =
    err_from_is_err_and c.from_residual-in_err-push_rescued.result
    c.from_residual-in_err-push_rescued.ensures.1 in
    rw p.1
    (rw p.2
    (rescue_memory c.args.image.now (device_of c.in-Ok.flash)
    (is_spelled c.args.image.now c.in-Ok.flash c.in-Ok.ensures.found)))

pub returns-in_err-image-clause-fault : goal.returns-in_err-image-clause-fault
returns-in_err-image-clause-fault g c =
    let p =
    err_from_is_err_and c.from_residual-in_err-image.result
    c.from_residual-in_err-image.ensures.1 in
    rw p.1
    (rw p.2
    (rescue_memory c.args.image.now (device_of c.in-Ok.flash)
    (is_spelled c.args.image.now c.in-Ok.flash c.in-Ok.ensures.found)))
