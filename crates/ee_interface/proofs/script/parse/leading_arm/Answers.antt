use Rattle.std.proofs.Common.{◌≡◌, ◌∙◌, ◌+◌, ap, arith}
use Rattle.ee_interface.proofs.ScriptLemmas.Spelling.{cut_behind_step}
use Rattle.ee_interface.proofs.ScriptLemmas.Reading.{same_fuse}
use Rattle.ee_interface.specs.declared.script.command.Command.TheVariants as commands
use Rattle.ee_interface.proofs.script.parse.leading_arm.Goals as goal

pub returns-in_err-number-clause-only : goal.returns-in_err-number-clause-only
returns-in_err-number-clause-only c = λ fuse behind fits spelled.
    let parts =
    cut_behind_step c.args.text.now c.next_field.result.0.now c.in_default-Some.rest.now behind
    (fuse.after + 1) fuse.tear
    c.next_field.ensures.field (rw c.in_default-Some.is-1 at c.next_field.ensures.more) fits
    spelled in
    let read = c.in_err-number.ensures.only (fuse.after + 1) fits parts.0 in
    absurd (cc read)

pub returns-in_err-after-clause-only : goal.returns-in_err-after-clause-only
returns-in_err-after-clause-only c = λ fuse behind fits spelled.
    let parts =
    cut_behind_step c.args.text.now c.next_field.result.0.now c.in_default-Some.rest.now behind
    (fuse.after + 1) fuse.tear
    c.next_field.ensures.field (rw c.in_default-Some.is-1 at c.next_field.ensures.more) fits
    spelled in
    let read = c.in_ok-number.ensures.only (fuse.after + 1) fits parts.0 in
    let step : c.in_ok-number.field-0 ≡ fuse.after + 1 = cc read in
    absurd (c.in_err-after.ensures (omega (arith, step)))

pub returns-in_err-tear-clause-only : goal.returns-in_err-tear-clause-only
returns-in_err-tear-clause-only c = λ fuse behind fits spelled.
    let parts =
    cut_behind_step c.args.text.now c.next_field.result.0.now c.in_default-Some.rest.now behind
    (fuse.after + 1) fuse.tear
    c.next_field.ensures.field (rw c.in_default-Some.is-1 at c.next_field.ensures.more) fits
    spelled in
    absurd
    (c.in_err-tear.ensures.only fuse.tear behind
    (ap (λ r. r.now) c.in_default-Some.rest-is ∙ parts.1))

pub returns-clause-only : goal.returns-clause-only
returns-clause-only c = λ fuse behind fits spelled.
    let parts =
    cut_behind_step c.args.text.now c.next_field.result.0.now c.in_default-Some.rest.now behind
    (fuse.after + 1) fuse.tear
    c.next_field.ensures.field (rw c.in_default-Some.is-1 at c.next_field.ensures.more) fits
    spelled in
    let read = c.in_ok-number.ensures.only (fuse.after + 1) fits parts.0 in
    let step : c.in_ok-number.field-0 ≡ fuse.after + 1 = cc read in
    let after : c.in_ok-after.after ≡ fuse.after = omega (arith, step, c.in_ok-after.ensures) in
    let torn =
    c.in_ok-tear.ensures.only fuse.tear behind
    (ap (λ r. r.now) c.in_default-Some.rest-is ∙ parts.1) in
    (ap commands.Arm (same_fuse _ fuse after torn.0), torn.1)
