use Rattle.std.proofs.Common.{◌≡◌, ◌∙◌, ◌<◌, ℕ, Option, ap, arith, length, refl, rules, subst, sym}
use Rattle.std.proofs.lemmas.Result.{err_from_is_err_and}
use Rattle.ee_flash.specs.Device.{IsOn}
use Rattle.ee_pages.specs.LiveOrder.{AreLiveThrough, above_of}
use Rattle.ee_core.specs.State.{state_of}
use Rattle.ee_settings.proofs.Tidied.{few_so_far, tidied_all, tidied_through, tidying_begins, tidying_stops}
use Rattle.ee_settings.specs.Tidying.{ForgetsEach, Stops, unnamed_among}
use Rattle.ee_settings.proofs.schema.Schema.tidy.Goals as goal

pub forgetting-init : goal.forgetting-init
forgetting-init g c =
    let on : IsOn (g.V.Variables.device c.args.store.now) =
    sym c.is_on.ensures.on ∙ c.if-not-is_on.false in
    tidying_begins c.args.self.now (g.V.Variables.device c.args.store.now) on

pub overflow_add-forgotten : goal.overflow_add-forgotten
overflow_add-forgotten g c = search (rules, few_so_far)

pub returns-in_err-forgotten : goal.returns-in_err-forgotten
returns-in_err-forgotten g c =
    let found = c.next_batch-batch.result.found.items in
    let among : unnamed_among c.settings.result.now c.next_batch-batch.result.found.items
    ≡ unnamed_among c.args.self.now c.next_batch-batch.result.found.items =
    rw c.settings.ensures refl in
    let stops =
    tidying_stops c.args.self.now (above_of c.forgetting.after) c.forgetting.forgotten
    (g.V.Variables.device c.args.store.now) (g.V.Variables.device c.forgetting.store) found
    c.forgetting.invariant c.next_batch-batch.ensures.proper in
    let next = c.next_batch-batch.ensures.live.next in
    let stopped =
    subst
    (λ l. Stops l (g.V.Variables.device c.forgetting.store) c.in_err-forgotten.field-0.0
    (g.V.Variables.device c.forget_unnamed.new.store)) among
    c.in_err-forgotten.ensures.stopped in
    let p = err_from_is_err_and c.from_residual.result c.from_residual.ensures.1 in
    rw (p.1, p.2) (search (rules, stops, next, stopped))

pub returns-in_default : goal.returns-in_default
returns-in_default g c =
    let old = g.V.Variables.device c.args.store.now in
    let now = g.V.Variables.device c.forgetting.store in
    let found = c.next_batch-batch.result.found.items in
    let on : IsOn (g.V.Variables.device c.args.store.now) =
    sym c.is_on.ensures.on ∙ c.if-not-is_on.false in
    let among : unnamed_among c.settings.result.now c.next_batch-batch.result.found.items
    ≡ unnamed_among c.args.self.now c.next_batch-batch.result.found.items =
    rw c.settings.ensures refl in
    let all =
    tidied_all c.args.self.now (above_of c.forgetting.after) c.forgetting.forgotten old now
    found c.forgetting.invariant c.next_batch-batch.ensures.proper on in
    let batch =
    subst
    (λ (through : Option ℕ).
    AreLiveThrough (state_of now).map (above_of c.forgetting.after) found through)
    c.in_default.is c.next_batch-batch.ensures.live in
    let counted = c.in_ok-forgotten.ensures.count ∙ ap length among in
    let made =
    subst (λ l. ForgetsEach l now (g.V.Variables.device c.forget_unnamed.new.store)) among
    c.in_ok-forgotten.ensures.forgotten in
    all _ _ batch counted made

pub forgetting-preserved : goal.forgetting-preserved
forgetting-preserved g c =
    let old = g.V.Variables.device c.args.store.now in
    let now = g.V.Variables.device c.forgetting.store in
    let found = c.next_batch-batch.result.found.items in
    let among : unnamed_among c.settings.result.now c.next_batch-batch.result.found.items
    ≡ unnamed_among c.args.self.now c.next_batch-batch.result.found.items =
    rw c.settings.ensures refl in
    let further =
    tidied_through c.args.self.now (above_of c.forgetting.after) c.forgetting.forgotten old now
    found c.forgetting.invariant c.next_batch-batch.ensures.proper in
    let low : c.in-Some.through < 65535 = search arith in
    let batch =
    subst
    (λ (through : Option ℕ).
    AreLiveThrough (state_of now).map (above_of c.forgetting.after) found through)
    c.in-Some.is c.next_batch-batch.ensures.live in
    let counted = c.in_ok-forgotten.ensures.count ∙ ap length among in
    let made =
    subst (λ l. ForgetsEach l now (g.V.Variables.device c.forget_unnamed.new.store)) among
    c.in_ok-forgotten.ensures.forgotten in
    further _ _ _ low batch counted made
