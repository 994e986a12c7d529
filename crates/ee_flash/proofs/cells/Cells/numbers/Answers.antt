use Rattle.std.proofs.Common.{arith, ap, rules, ◌∙◌, ◌+◌, ◌-◌, ◌≤◌, ℕ, drop, length, take, ◌≡◌}
use Rattle.ee_flash.proofs.Kept.{length-kept, numbers_kept}
use Rattle.ee_flash.proofs.cells.Cells.numbers.Goals as goal

pub overflow_add-result : goal.overflow_add-result
overflow_add-result g c =
    omega (arith, length-kept _ _ _ c.self.view_is c.self.invariant.0, c.self.inside.numbers.ok.0)

pub returns : goal.returns
returns g c =
    let as_many : (c.args.start + c.args.count) - c.args.start ≡ c.args.count = omega arith in
    numbers_kept _ _ _ c.self.view_is c.self.invariant.0 c.args.start c.args.count _
    (ap (λ (n : ℕ). take n (drop c.args.start c.deref.result.now)) as_many
    ∙ ap (λ l. take c.args.count (drop c.args.start l)) c.deref.ensures.value)

pub offset_bounds-deref-start : goal.offset_bounds-deref-start
offset_bounds-deref-start g c =
    let long = length-kept _ _ _ c.self.view_is c.self.invariant.0 in
    let fits : c.args.start + c.args.count ≤ length c.deref.result.now =
    omega (arith, ap length c.deref.ensures.value) in
    search rules

pub slice_bounds-result-end : goal.slice_bounds-result-end
slice_bounds-result-end g c =
    let long = length-kept _ _ _ c.self.view_is c.self.invariant.0 in
    let fits : c.args.start + c.args.count ≤ length c.deref.result.now =
    omega (arith, ap length c.deref.ensures.value) in
    search rules
