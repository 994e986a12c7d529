use Rattle.ee_check.proofs.Flaws.{Answers, answers_for, bound_answered, certificate_answered, cause_answered}
use Rattle.ee_check.specs.Certificate.{claim_of, IsCertificateHeader}
use Rattle.ee_check.proofs.checking.check.Given
use Rattle.ee_check.proofs.checking.check.Goals as goal

header : (g : Given.Over) (c : goal.After-check_stretches g)
    → IsCertificateHeader c.args.start.now c.args.trace.now (claim_of c.args.certificate.now)
header g c = c.has_header.ensures.header.0 c.if-not-has_header.false

answers : (g : Given.Over) (c : goal.After-check_stretches g)
    → Answers c.args.start.now c.args.trace.now (claim_of c.args.certificate.now)
    c.check_stretches.result
answers g c =
    answers_for c.args.start.now c.args.trace.now (claim_of c.args.certificate.now)
    c.deref.result.now c.check_stretches.result
    c.deref.ensures.value c.check_stretches.ensures.ok c.check_stretches.ensures.err

pub returns-clause-bound : goal.returns-clause-bound
returns-clause-bound g c =
    bound_answered c.args.start.now c.args.trace.now (claim_of c.args.certificate.now)
    c.check_stretches.result c.has_header.ensures.start.proper (header g c) (answers g c)

pub returns-clause-accepts : goal.returns-clause-accepts
returns-clause-accepts g c =
    certificate_answered c.args.start.now c.args.trace.now (claim_of c.args.certificate.now)
    c.check_stretches.result (answers g c)

pub returns-clause-names : goal.returns-clause-names
returns-clause-names g c =
    cause_answered c.args.start.now c.args.trace.now (claim_of c.args.certificate.now)
    c.check_stretches.result (header g c) (answers g c)
