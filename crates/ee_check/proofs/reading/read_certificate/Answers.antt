use Rattle.std.proofs.Common.{◌⊎◌, ◌≡◌, ap, ◌∙◌, rules}
use Rattle.ee_text.specs.Line.{line_of}
use Rattle.ee_text.proofs.Public.{error_passed_on, passed_on}
use Rattle.ee_check.specs.declared.reading.TextFault.TheVariants.{BadText, Memory}
use Rattle.ee_check.specs.Certificate.{Claim, claim_of}
use Rattle.ee_check.specs.Text.{IsCertificateTextFault, IsText, IsClaim, ending}
use Rattle.ee_check.proofs.Texts.{front_read, text_read, fault_behind, text_answered, bad_line_answered, one_text_lem, texts_are_good_lem}
use Rattle.ee_check.proofs.reading.read_certificate.Given
use Rattle.ee_check.proofs.reading.read_certificate.Goals as goal

-- what was read, where the ending is wrong
refused : (g : Given.Over) (c : goal.After-drop-stretches g) → Claim
refused g c = record {
  slots = c.in-Some.heading.slots;
  fill = c.in-Some.heading.fill;
  live = c.in-Some.heading.live;
  writes = c.in-Some.heading.writes;
  stretches = c.in_ok-stretches.stretches.items;
}

wrong : (g : Given.Over) (c : goal.After-drop-stretches g)
    → IsCertificateTextFault c.args.text.now c.in_err-check_ending.field-0.0
unfolding refused
wrong g c =
    let proper : IsClaim (refused g c) = record {
      slots = search rules;
      fill = search rules;
      live = search rules;
      writes = search rules;
      count = search rules;
      stretches = c.in_ok-stretches.ensures.proper;
    } in
    fault_behind c.args.text.now (refused g c) c.in_ok-stretches.rest.now c.len.result
    c.in_err-check_ending.field-0.0
    (front_read c.args.text.now c.in-Some.rest.now c.in_ok-stretches.rest.now (refused g c) proper
    c.in-Some.ensures.found c.in_ok-stretches.ensures.lines c.in_ok-stretches.ensures.all)
    (c.len.ensures ∙ search rules) c.in_err-check_ending.ensures.err

pub returns-in_err-check_ending-clause-fault : goal.returns-in_err-check_ending-clause-fault
returns-in_err-check_ending-clause-fault g c =
    passed_on c.from_residual-in_err-check_ending.result c.in_err-check_ending.field-0.0
    (IsCertificateTextFault c.args.text.now) c.from_residual-in_err-check_ending.ensures.1
    (wrong g c)

pub returns-in_err-check_ending-clause-only : goal.returns-in_err-check_ending-clause-only
returns-in_err-check_ending-clause-only g c = λ claim is.
    error_passed_on c.from_residual-in_err-check_ending.result c.in_err-check_ending.field-0.0
    (λ certificate. claim_of certificate ≡ claim) (λ fault. fault ≡ Memory)
    c.from_residual-in_err-check_ending.ensures.1
    (text_answered c.args.text.now c.in_err-check_ending.field-0.0 claim (wrong g c) is)

pub returns-in_err-check_ending-clause-bad : goal.returns-in_err-check_ending-clause-bad
returns-in_err-check_ending-clause-bad g c = λ n bad.
    error_passed_on c.from_residual-in_err-check_ending.result c.in_err-check_ending.field-0.0
    (λ certificate. ⊥) (λ fault. (fault ≡ BadText n) ⊎ (fault ≡ Memory))
    c.from_residual-in_err-check_ending.ensures.1
    (bad_line_answered c.args.text.now c.in_err-check_ending.field-0.0 n (wrong g c) bad)

-- what was read
read : (g : Given.Over) (c : goal.In_ok-check_ending g) → Claim
read g c = record {
  slots = c.in-Some.heading.slots;
  fill = c.in-Some.heading.fill;
  live = c.in-Some.heading.live;
  writes = c.in-Some.heading.writes;
  stretches = c.in_ok-stretches.stretches.items;
}

right : (g : Given.Over) (c : goal.In_ok-check_ending g) → IsText c.args.text.now (read g c)
unfolding read
right g c =
    let proper : IsClaim (read g c) = record {
      slots = search rules;
      fill = search rules;
      live = search rules;
      writes = search rules;
      count = search rules;
      stretches = c.in_ok-stretches.ensures.proper;
    } in
    text_read c.args.text.now c.in_ok-stretches.rest.now (read g c)
    (front_read c.args.text.now c.in-Some.rest.now c.in_ok-stretches.rest.now (read g c) proper
    c.in-Some.ensures.found c.in_ok-stretches.ensures.lines c.in_ok-stretches.ensures.all)
    (c.in_ok-check_ending.ensures.ok
    ∙ ap (λ count. line_of (ending count)) (c.len.ensures ∙ search rules))

pub returns-clause-only : goal.returns-clause-only
unfolding read
returns-clause-only g c = λ claim is. one_text_lem c.args.text.now (read g c) claim (right g c) is

pub returns-clause-bad : goal.returns-clause-bad
returns-clause-bad g c = λ n bad. texts_are_good_lem c.args.text.now (read g c) n (right g c) bad
